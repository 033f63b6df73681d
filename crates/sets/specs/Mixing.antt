-- AND and XOR with a byte, done by one bit of it at a time. Assumes nothing.
--   without p b               b without the bits of p
--   BitByBit f                f p b is what a change of the bits of p makes of b, and they can be changed one after another
--   ChangesBit f Step         where Step relates a set, a bit and an answer, that bit of each member is changed by f
--   folded_bit p own other    the bit at a place, after bit j was cleared: p is bit j of the place, own was its bit,
--                             and other that of the place whose bit j differs
--   clear_places j            the places below 128 whose bit j is 0, as bits
use Rattle.std.specs.Prelude.{◌≡◌, ℕ, ◌+◌, ◌-◌, ◌/◌, ◌^◌, ◌<◌, min, max, bit_and}
use Rattle.operands.specs.Bytes.{Same}
use Rattle.sets.specs.Numbers.{In, number}
use Rattle.sets.specs.Steps.{Image}
use Rattle.sets.specs.declared.bitset.Bits.{Bits}

abbrev pub without : ℕ → ℕ → ℕ
without p b = bit_and (255 - p) b

pub record BitByBit (f : ℕ → ℕ → ℕ) : Type 0 where
  pub none : (b : ℕ) → b < 256 → f 0 b ≡ b
  pub more : (j p b : ℕ) → j < 8 → p < 2 ^ j → f (2 ^ j) (f p b) ≡ f (2 ^ j + p) b

abbrev pub ChangesBit : (ℕ → ℕ → ℕ) → (Bits → ℕ → Bits → Type 0) → Type 0
ChangesBit f Step = (s : Bits) (j : ℕ) (r : Bits) → j < 8 → Step s j r → Same (In (number r)) (Image (f (2 ^ j)) (In (number s)))

abbrev pub folded_bit : ℕ → ℕ → ℕ → ℕ
folded_bit p own other = min (1 - p) (max own other)

abbrev pub clear_places : ℕ → ℕ
clear_places j = (2 ^ 128 - 1) / (2 ^ 2 ^ j + 1)
