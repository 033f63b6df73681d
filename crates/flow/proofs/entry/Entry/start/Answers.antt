use Rattle.std.proofs.Common.{set, replicate, refl, ap}
use Rattle.operands.specs.Bytes.One.{keep}
use Rattle.effects.proofs.Bytes.{same_ones}
use Rattle.flow.proofs.Storing.{start_alike}
use Rattle.flow.proofs.entry.Entry.start.Goals as goal

pub returns : goal.returns
returns g c =
    let o = g.K.Operand.operations in
    start_alike o _ c.all-operands.result c.keep_lowest.result c.all-operands.ensures
    (same_ones o g.K.Operand.lawful (keep 1) _ _ _ c.keep_lowest.ensures c.all.ensures)
    (ap (λ k. set (replicate 16 c.all-operands.result) k c.keep_lowest.result) c.number.ensures.value) refl refl
