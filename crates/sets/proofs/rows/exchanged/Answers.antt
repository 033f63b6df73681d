use Rattle.std.proofs.Common.{ℕ, ◌*◌, ◌/◌, ◌%◌, ◌^◌, sym, subst}
use lib.Bits.{bit_and, bit_or}
use Rattle.sets.proofs.Mixes.{Mixed, other_bit, bit_exchanged}
use Rattle.sets.proofs.rows.exchanged.Goals as goal

pub returns : goal.returns
returns c =
    let w = c.args.w in
    let j = c.args.j in
    let s = c.block-by.result in
    let Goal : ℕ → Type 0 = λ p. Mixed other_bit j 128 w (bit_or (bit_and (w / 2 ^ s) p) (bit_and w p * 2 ^ s % 2 ^ 128)) in
    subst Goal (sym c.clear_places-places.ensures) (λ k h. bit_exchanged w j s k c.block-by.ensures.0 c.requires h)
