-- Sets of bytes as numbers of 256 bits. Assumes nothing.
--   In n       the set of the bytes whose bits in n are 1
--   number x   the 256 bits of x as one number
--   TakesHighest n b m   b is the greatest member of n and m has all others, or n has none
use Rattle.std.specs.Prelude.{◌≡◌, ℕ, ◌+◌, ◌*◌, ◌^◌, ◌<◌, Option, None, Some}
use Rattle.std.proofs.Common.{⊎_elim, arith, pow-suc, pow_mono}
use Rattle.std.proofs.lemmas.Nat.{leading_top, div_below, le-div, pow_pos}
use Rattle.std.proofs.lemmas.Bool.{cases_lt}
use Rattle.operands.specs.Bytes.{Bytes}
use Rattle.bits.specs.Bits.{bit}
use Rattle.sets.specs.declared.bitset.Bits.{Bits as Words}

abbrev pub In : ℕ → Bytes
In n b = bit n b ≡ 1

abbrev pub number : Words → ℕ
number x = x.high * 2 ^ 128 + x.low

abbrev pub TakesHighest : ℕ → Option ℕ → ℕ → Type 0
TakesHighest n None m = n ≡ 0
TakesHighest n (Some b) m = (n ≡ 2 ^ b + m) × (m < 2 ^ b)

-- above its highest bit a number has none
pub in_below : (w n k : ℕ) → n < 2 ^ w → In n k → k < w
in_below w n k h i =
    ⊎_elim (λ lt. lt)
    (λ ge. absurd (omega (arith, i, div_below n (2 ^ k) 1 (pow_pos k) (omega (arith, h, pow_mono {i = w} {j = k} ge)))))
    (cases_lt k w)

-- a number above 0 has a bit: its highest
pub in_highest : (w n : ℕ) → 0 < n → n < 2 ^ w → (k : ℕ) × In n k
in_highest w n p h =
    let t = leading_top w n p h in
    let k = t.0 in
    let above = le-div 1 n (2 ^ k) (pow_pos k) (omega (arith, t.2)) in
    let under = div_below n (2 ^ k) 2 (pow_pos k) (omega (arith, t.3, pow-suc 2 k)) in
    (k, omega arith)
