-- The bits of numbers. Assumes nothing.
--   bit n k            bit k of n, counted from the least significant
--   carry_into a b k   the carry that comes into bit k where a and b are added
use Rattle.std.specs.Prelude.{ℕ, zero, suc, ◌+◌, ◌/◌, ◌%◌, ◌^◌}

abbrev pub bit : ℕ → ℕ → ℕ
bit n k = n / 2 ^ k % 2

unfoldable pub carry_into : ℕ → ℕ → ℕ → ℕ
carry_into a b zero = 0
carry_into a b (suc k) = (bit a k + bit b k + carry_into a b k) / 2
