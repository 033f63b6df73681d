-- Numbers without a pattern: a shift register of 64 bits (xorshift, by 13, 7 and 17). Assumes nothing.
--   first_state seed   what a generator with this seed begins with
--   stepped x          the state after one more number
--   number_of x        the number that a state gives: the 32 bits from bit 16 on
--   byte_of x          the lowest byte of that number
--   bit_of x           whether that number is odd
use Rattle.std.specs.Prelude.{ℕ, ◌+◌, ◌*◌, ◌/◌, ◌%◌, ◌^◌, Bool, ◌==◌, bit_xor, bit_and}

abbrev pub first_state : ℕ → ℕ
first_state seed = (seed + 1) % 2 ^ 64 * 11400714819323198485 % 2 ^ 64

abbrev pub mixed_left : ℕ → ℕ → ℕ
mixed_left by x = bit_xor x (x * 2 ^ by % 2 ^ 64)

abbrev pub mixed_right : ℕ → ℕ → ℕ
mixed_right by x = bit_xor x (x / 2 ^ by)

abbrev pub stepped : ℕ → ℕ
stepped x = mixed_left 17 (mixed_right 7 (mixed_left 13 x))

abbrev pub number_of : ℕ → ℕ
number_of x = bit_and (x / 2 ^ 16) 4294967295

abbrev pub byte_of : ℕ → ℕ
byte_of x = bit_and (number_of x) 255

abbrev pub bit_of : ℕ → Bool
bit_of x = number_of x % 2 == 1
