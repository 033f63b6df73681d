use Rattle.std.proofs.Common.{rules}
use Rattle.engine.proofs.Values.{value_computed}
use Rattle.engine.proofs.bytes.compute.Goals as goal

pub returns : goal.returns
returns c =
    value_computed c.args.operation c.result-carry.result c.constant.result c.constant-2.result c.args.source c.args.r0 c.map.result _ (λ x n q. search rules) c.constant.ensures c.constant-2.ensures c.result-carry.ensures.value c.result-carry.ensures.carry c.map.ensures.cases
