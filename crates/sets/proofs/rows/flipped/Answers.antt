use Rattle.std.proofs.Common.{◌≡◌, ℕ, subst, arith}
use Rattle.sets.specs.Numbers.{number}
use Rattle.sets.proofs.Turns.{wide}
use Rattle.sets.proofs.Mixes.{Mixed, other_bit, mixed_swapped, image_flipped, mixed_wide}
use Rattle.sets.proofs.rows.flipped.Goals as goal

pub returns-then-j-lt7 : goal.returns-then-j-lt7
returns-then-j-lt7 c =
    let xs = c.args.xs in
    let j = c.args.j in
    let lo = c.exchanged.result in
    let hi = c.exchanged-then-j-lt7.result in
    image_flipped j (wide lo hi) (number xs) (omega arith) (omega arith) (omega arith)
    (mixed_wide other_bit j xs.low xs.high lo hi c.if-j-lt7.true (omega arith) (omega arith) c.exchanged.ensures c.exchanged-then-j-lt7.ensures)

pub returns-else-j-lt7 : goal.returns-else-j-lt7
returns-else-j-lt7 c =
    let xs = c.args.xs in
    let j = c.args.j in
    let r = wide xs.high xs.low in
    let seven : 7 ≡ j = omega arith in
    let At : ℕ → Type 0 = λ z. Mixed other_bit z 256 (number xs) r in
    image_flipped j r (number xs) (omega arith) (omega arith) (omega arith)
    (subst At seven (mixed_swapped xs.low xs.high (omega arith) (omega arith)))
