use Rattle.std.proofs.Common.{ℕ, ◌/◌, ◌^◌, sym, subst}
use lib.Bits.{bit_and, bit_or}
use Rattle.sets.specs.Mixing.{folded_bit}
use Rattle.sets.proofs.Mixes.{Mixed, bit_folded}
use Rattle.sets.proofs.rows.folded.Goals as goal

pub returns : goal.returns
returns c =
    let w = c.args.w in
    let j = c.args.j in
    let s = c.block.result in
    let Goal : ℕ → Type 0 = λ p. Mixed folded_bit j 128 w (bit_and (bit_or w (w / 2 ^ s)) p) in
    subst Goal (sym c.clear_places.ensures) (λ k h. bit_folded w j s k c.block.ensures.0 c.requires h)
