use Rattle.std.proofs.Common.{sym, subst}
use Rattle.instructions.specs.declared.instruction.Source.{Source}
use Rattle.operands.specs.Bytes.{Same}
use Rattle.operands.specs.Bytes.One.{rotate}
use Rattle.effects.proofs.Bytes.{same_ones}
use Rattle.flow.specs.States.{source_bytes}
use Rattle.flow.specs.Entries.{allows}
use Rattle.flow.proofs.Parts.{same_field}
use Rattle.flow.proofs.entry.Entry.source.Goals as goal

pub returns-in-Register : goal.returns-in-Register
returns-in-Register g c =
    let o = g.K.Operand.operations in
    subst (λ (s : Source). Same (o.has c.rotate_right.result) (source_bytes o s (allows o c.args.self.now))) (sym c.in-Register.is)
    (same_ones o g.K.Operand.lawful (rotate c.in-Register.rotate) _ _ _ c.rotate_right.ensures c.operand.ensures)

pub returns-in-Field : goal.returns-in-Field
returns-in-Field g c =
    let o = g.K.Operand.operations in
    subst (λ (s : Source). Same (o.has c.field_value.result) (source_bytes o s (allows o c.args.self.now))) (sym c.in-Field.is)
    (same_field o g.K.Operand.lawful c.in-Field.field _ _ _ c.field_value.ensures c.all.ensures)
