use Rattle.flow.specs.Entries.{allows}
use Rattle.flow.proofs.Results.{computed_alike}
use Rattle.flow.proofs.entry.Entry.computed.Goals as goal

pub returns : goal.returns
returns g c =
    let o = g.K.Operand.operations in
    computed_alike o g.K.Operand.lawful c.args.operation c.args.source c.args.destination c.result-value.result.1
    c.source-operand.result c.operand-r0.result c.result-value.result.0
    (allows o c.args.self) (allows o c.carried.result) (allows o c.delivered.result)
    c.source-operand.ensures c.operand-r0.ensures c.result-value.ensures.value c.result-value.ensures.carry
    c.carried.ensures c.delivered.ensures
