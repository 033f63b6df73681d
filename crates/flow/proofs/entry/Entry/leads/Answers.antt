use Rattle.flow.specs.Entries.{allows}
use Rattle.flow.proofs.Spans.{decides_executed}
use Rattle.flow.proofs.entry.Entry.leads.Goals as goal

pub returns-in-Xec : goal.returns-in-Xec
returns-in-Xec g c =
    let o = g.K.Operand.operations in
    decides_executed o c.args.instruction c.in-Xec.source c.in-Xec.offset (allows o c.args.self.now) c.args.from c.args.to (o.has c.source.result) c.executes.result
    c.in-Xec.is c.source.ensures c.executes.ensures
