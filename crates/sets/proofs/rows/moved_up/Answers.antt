use Rattle.std.proofs.Common.{◌≡◌, ℕ, ◌+◌, ◌-◌, ◌*◌, ◌/◌, ◌%◌, ◌^◌, ap, ◌∙◌, arith}
use Rattle.bits.specs.Bits.{bit}
use Rattle.std.proofs.lemmas.Nat.Bits.{bit_at_or, bit_at_above}
use Rattle.bits.proofs.Bits.{bit_mod}
use Rattle.sets.proofs.Halves.{bit_shr, bit_shl_above, bit_shl_under}
use Rattle.sets.proofs.rows.moved_up.Goals as goal

pub returns : goal.returns
returns c =
    let w = c.args.w in
    let below = c.args.below in
    let by = c.args.by in
    let up : ℕ = w * 2 ^ by % 2 ^ 128 in
    let down : ℕ = below / 2 / 2 ^ (127 - by) in
    let from : (k : ℕ) → bit down k ≡ bit below (128 - by + k) = λ k.
    let e : 1 + ((127 - by) + k) ≡ 128 - by + k = omega arith in
    bit_shr (below / 2) (127 - by) k ∙ bit_shr below 1 ((127 - by) + k) ∙ ap (bit below) e in
    record {
      above = λ k h.
          omega (
            arith,
            bit_at_or up down (by + k),
            bit_mod (w * 2 ^ by) 128 (by + k) h,
            bit_shl_above by w k,
            from (by + k),
            bit_at_above below 128 (128 - by + (by + k)) (omega arith) (omega arith),
          );
      under = λ k h.
          omega (arith, bit_at_or up down k, bit_mod (w * 2 ^ by) 128 k (omega arith), bit_shl_under by w k h, from k);
    }
