-- Bytes, sets of bytes, and what the chip does with bytes. Assumes nothing.
--   Bytes            a set of bytes, as the numbers that are members
--   Inside P Q       every member of P is a member of Q
--   Same P Q         P and Q have the same members
--   Only b, Every    the set of one byte, and the set of all bytes
--   One, one f b     an operation on one byte, and what it gives: rotate right by n, or keep the lowest n bits;
--                    n counts modulo 8, and keep takes 0 as 8
--   Two, two f a b   an operation on two bytes, and what it gives: AND, XOR, and of ADD the sum and the carry
use Rattle.std.specs.Prelude.{◌≡◌, ℕ, zero, suc, ◌+◌, ◌-◌, ◌*◌, ◌/◌, ◌%◌, ◌^◌, ◌<◌, bit_and, bit_xor}

abbrev pub Bytes : Type 1
Bytes = ℕ → Type 0

abbrev pub Inside : Bytes → Bytes → Type 0
Inside P Q = (b : ℕ) → P b → Q b

abbrev pub Same : Bytes → Bytes → Type 0
Same P Q = Inside P Q × Inside Q P

abbrev pub Only : ℕ → Bytes
Only a b = b ≡ a

abbrev pub Every : Bytes
Every b = b < 256

pub data One : Type 0 where
  rotate : ℕ → One
  keep : ℕ → One

pub data Two : Type 0 where
  and : Two
  xor : Two
  sum : Two
  carry : Two

-- the number of bits that keep keeps
abbrev pub kept_bits : ℕ → ℕ
kept_bits zero = 8
kept_bits (suc n) = suc n

abbrev pub rotated : ℕ → ℕ → ℕ
rotated n b = (b / 2 ^ n + b * 2 ^ (8 - n)) % 256

abbrev pub kept : ℕ → ℕ → ℕ
kept n b = b % 2 ^ kept_bits n

abbrev pub one : One → ℕ → ℕ
one (rotate n) b = rotated (n % 8) b
one (keep n) b = kept (n % 8) b

abbrev pub two : Two → ℕ → ℕ → ℕ
two and a b = bit_and a b
two xor a b = bit_xor a b
two sum a b = (a + b) % 256
two carry a b = (a + b) / 256
