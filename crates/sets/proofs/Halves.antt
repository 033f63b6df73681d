-- Bits of a number that is made of two words. Assumes nothing.
use Rattle.std.proofs.Common.{◌≡◌, ℕ, ◌+◌, ◌-◌, ◌*◌, ◌/◌, ◌^◌, ◌<◌, ap, ◌∙◌, arith}
use Rattle.std.proofs.lemmas.Nat.{shr-shr, pow_pos}
use Rattle.bits.specs.Bits.{bit}
use Rattle.std.proofs.lemmas.Nat.Bits.{bit_at_cat_low, bit_at_cat_high, bit_at-zero}

pub bit_shr : (n j k : ℕ) → bit (n / 2 ^ j) k ≡ bit n (j + k)
bit_shr n j k = rw shr-shr

pub bit_high : (w high low : ℕ) → low < 2 ^ w → (k : ℕ) → bit (high * 2 ^ w + low) (w + k) ≡ bit high k
bit_high w high low h k =
    let e : (w + k) - w ≡ k = omega arith in
    bit_at_cat_high high w low (w + k) h (omega arith) ∙ ap (bit high) e

-- a word moved up
pub bit_shl_above : (w n k : ℕ) → bit (n * 2 ^ w) (w + k) ≡ bit n k
bit_shl_above w n k = let e : n * 2 ^ w + 0 ≡ n * 2 ^ w = omega arith in rw e at (bit_high w n 0 (pow_pos w) k)

pub bit_shl_under : (w n k : ℕ) → k < w → bit (n * 2 ^ w) k ≡ 0
bit_shl_under w n k h =
    let e : n * 2 ^ w + 0 ≡ n * 2 ^ w = omega arith in
    rw e at (bit_at_cat_low n w 0 k h) ∙ bit_at-zero k
