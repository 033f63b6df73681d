-- The two bytes of an answer, in a few machine words. Assumes nothing; proofs/Closed.antt shows that they are right.
--   open_bits x                 the bits that may be 0 as well as 1
--   carries_of a b              at each bit the carry that comes into it
--   open_xor x y, open_sum x y   the bits of the answer that may be 0 as well as 1
--   least_of b o, most_of b o   b, with 0 or with 1 at the bits of o
--   two_low f x y, two_high f x y   low and high of what f gives
--   joined_low x y, joined_high x y   low and high of the join
use Rattle.std.specs.Prelude.{ℕ, ◌+◌, ◌/◌, ◌%◌, bit_and, bit_or, bit_xor}
use Rattle.operands.specs.Bytes.{Two}
use Rattle.operands.specs.Bytes.Two.{and, xor, sum, carry}
use Rattle.marks.specs.declared.mark.Marks.{Marks}

abbrev pub open_bits : Marks → ℕ
open_bits x = bit_xor x.low x.high

abbrev pub carries_of : ℕ → ℕ → ℕ
carries_of a b = bit_xor (bit_xor a b) ((a + b) % 256)

abbrev pub open_xor : Marks → Marks → ℕ
open_xor x y = bit_or (open_bits x) (open_bits y)

abbrev pub open_sum : Marks → Marks → ℕ
open_sum x y = bit_or (open_xor x y) (bit_xor (carries_of x.low y.low) (carries_of x.high y.high))

abbrev pub most_of : ℕ → ℕ → ℕ
most_of b o = bit_or b o

abbrev pub least_of : ℕ → ℕ → ℕ
least_of b o = bit_xor (most_of b o) o

abbrev pub two_low : Two → Marks → Marks → ℕ
two_low and x y = bit_and x.low y.low
two_low xor x y = least_of (bit_xor x.low y.low) (open_xor x y)
two_low sum x y = least_of ((x.low + y.low) % 256) (open_sum x y)
two_low carry x y = (x.low + y.low) / 256

abbrev pub two_high : Two → Marks → Marks → ℕ
two_high and x y = bit_and x.high y.high
two_high xor x y = most_of (bit_xor x.low y.low) (open_xor x y)
two_high sum x y = most_of ((x.low + y.low) % 256) (open_sum x y)
two_high carry x y = (x.high + y.high) / 256

abbrev pub joined_low : Marks → Marks → ℕ
joined_low x y = bit_and x.low y.low

abbrev pub joined_high : Marks → Marks → ℕ
joined_high x y = bit_or x.high y.high
