-- Bank fields as words code them. Assumes nothing.
--   side_of n      the bank of a number from o20 to o37: below o30 the left one
--   length_of l    the length of a field that is coded as l: 0 means 8
--   field_of n l   the field of a number from o20 to o37 and a length code; the last octal digit is the bit
use Rattle.std.specs.Prelude.{ℕ, zero, suc, ◌%◌, ◌<◌, ◌≤◌, cond, nat_lt}
use Rattle.std.proofs.Common.{arith}
use Rattle.instructions.specs.declared.field.Field.{Field}
use Rattle.instructions.specs.declared.field.Side.{Side}
use Rattle.instructions.specs.declared.field.Side.TheVariants.{Left, Right}

abbrev pub side_of : ℕ → Side
side_of n = cond (nat_lt n 24) Left Right

abbrev pub length_of : ℕ → ℕ
length_of zero = 8
length_of (suc k) = suc k

pub length_positive : (l : ℕ) → 0 < length_of l
length_positive zero = omega arith
length_positive (suc k) = omega arith

pub length_at_most_8 : (l : ℕ) → l < 8 → length_of l ≤ 8
length_at_most_8 zero h = omega arith
length_at_most_8 (suc k) h = omega arith

unfoldable pub field_of : ℕ → ℕ → Field
field_of n l =
    record {
      side = side_of n;
      bit = n % 8;
      length = length_of (l % 8);
      placed = omega arith;
      nonempty = length_positive (l % 8);
      short = length_at_most_8 (l % 8) (omega arith);
    }
