use Rattle.std.proofs.Common.{◌≡◌, ℕ, subst, arith}
use lib.Bits.{bit_or, or_lt}
use Rattle.sets.specs.Numbers.{number}
use Rattle.sets.specs.Mixing.{folded_bit}
use Rattle.sets.proofs.Turns.{wide}
use Rattle.sets.proofs.Mixes.{Mixed, mixed_merged, image_cleared, mixed_wide}
use Rattle.sets.proofs.rows.cleared.Goals as goal

pub returns-then-j-lt7 : goal.returns-then-j-lt7
returns-then-j-lt7 c =
    let xs = c.args.xs in
    let j = c.args.j in
    let lo = c.folded.result in
    let hi = c.folded-then-j-lt7.result in
    image_cleared j (wide lo hi) (number xs) (omega arith) (omega arith) (omega arith)
    (mixed_wide folded_bit j xs.low xs.high lo hi c.if-j-lt7.true (omega arith) (omega arith) c.folded.ensures c.folded-then-j-lt7.ensures)

pub returns-else-j-lt7 : goal.returns-else-j-lt7
returns-else-j-lt7 c =
    let xs = c.args.xs in
    let j = c.args.j in
    let r = wide (bit_or xs.low xs.high) 0 in
    let seven : 7 ≡ j = omega arith in
    let At : ℕ → Type 0 = λ z. Mixed folded_bit z 256 (number xs) r in
    image_cleared j r (number xs) (omega arith) (omega (arith, or_lt 128 xs.low xs.high (omega arith) (omega arith))) (omega arith)
    (subst At seven (mixed_merged xs.low xs.high (omega arith) (omega arith)))
