use Rattle.std.proofs.Common.{sym, subst}
use Rattle.instructions.specs.declared.instruction.Destination.{Destination}
use Rattle.flow.specs.States.{Alike, delivered_in}
use Rattle.flow.specs.Entries.{allows}
use Rattle.flow.proofs.entry.Entry.delivered.Goals as goal

pub returns-in-Register : goal.returns-in-Register
returns-in-Register g c =
    let o = g.K.Operand.operations in
    subst (λ (d : Destination). Alike (allows o c.stored.result) (delivered_in d (o.has c.args.operand) (allows o c.args.self))) (sym c.in-Register.is) c.stored.ensures
