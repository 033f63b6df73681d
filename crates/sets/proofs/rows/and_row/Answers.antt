use Rattle.std.proofs.Common.{ℕ, subst, arith}
use Rattle.operands.specs.Bytes.{Same, two}
use Rattle.operands.specs.Bytes.Two.{and}
use Rattle.sets.specs.Numbers.{number, In}
use Rattle.sets.specs.Mixing.{without}
use Rattle.sets.specs.Steps.{Image}
use Rattle.sets.proofs.Parts.{without_by_bits}
use Rattle.sets.proofs.rows.and_row.Goals as goal

pub returns : goal.returns
returns c =
    let Goal : ℕ → Type 0 = λ z. Same (In (number c.changed.result)) (Image (two and z) (In (number c.args.ys))) in
    subst Goal (omega arith) (c.changed.ensures without without_by_bits (λ s j r h e. e.1))
