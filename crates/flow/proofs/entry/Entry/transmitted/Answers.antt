use Rattle.std.proofs.Common.{sym, ◌∙◌}
use Rattle.effects.specs.Usage.{whole_port}
use Rattle.flow.specs.Entries.{allows}
use Rattle.flow.proofs.Results.{transmitted_alike}
use Rattle.flow.proofs.entry.Entry.transmitted.Goals as goal

pub returns-in-None : goal.returns-in-None
returns-in-None g c =
    let o = g.K.Operand.operations in
    transmitted_alike (whole_port c.args.destination) c.args.destination c.args.constant (o.has c.constant.result) (allows o c.delivered.result) (allows o c.args.self)
    (sym c.whole_port.ensures ∙ c.in-None.is) c.constant.ensures c.delivered.ensures
