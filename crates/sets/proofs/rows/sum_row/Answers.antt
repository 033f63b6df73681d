use Rattle.std.proofs.Common.{◌≡◌, ◌+◌, ◌-◌, ◌%◌, ap, ◌∙◌, arith}
use Rattle.bits.specs.Bits.{bit}
use Rattle.sets.specs.Numbers.{number}
use Rattle.sets.proofs.Turns.{wide, bit_swapped, image_sum}
use Rattle.sets.proofs.rows.sum_row.Goals as goal

pub returns-then-a-lt128 : goal.returns-then-a-lt128
returns-then-a-lt128 c =
    let a = c.args.a in
    let n = number c.args.ys in
    let by : a % 128 ≡ a = omega arith in
    image_sum a (number c.turned_up-turned.result) n (omega arith) (omega arith) (omega arith)
    (λ k lt. c.turned_up-turned.ensures k lt ∙ ap (λ z. bit n ((k + (256 - z)) % 256)) by)

pub returns-else-a-lt128 : goal.returns-else-a-lt128
returns-else-a-lt128 c =
    let a = c.args.a in
    let n = number c.args.ys in
    let t = c.turned_up-turned.result in
    image_sum a (wide t.high t.low) n (omega arith) (omega arith) (omega arith)
    (λ k lt.
    let e : ((k + 128) % 256 + (256 - a % 128)) % 256 ≡ (k + (256 - a)) % 256 = omega arith in
    bit_swapped t.low t.high k (omega arith) (omega arith) lt ∙ c.turned_up-turned.ensures ((k + 128) % 256) (omega arith) ∙ ap (bit n) e)
