-- Bytes written in hex. Assumes nothing.
--   digit_value c   what a character stands for: 0 to 9, a to f or A to F; no other one is a digit
--   byte_of word    the byte that a word of one or two digits stands for; no other word is a byte
use Rattle.std.specs.Prelude.{ℕ, ◌+◌, ◌-◌, ◌*◌, Bool, cond, ◌&&◌, List, length, Some, None, Option, ◌==◌, nat_le, slice_index}

abbrev pub between : ℕ → ℕ → ℕ → Bool
between low high c = nat_le low c && nat_le c high

abbrev pub digit_value : ℕ → Option ℕ
digit_value c =
    cond (between 48 57 c) (Some (c - 48))
    (cond (between 97 102 c) (Some (c - 97 + 10)) (cond (between 65 70 c) (Some (c - 65 + 10)) None))

abbrev pub paired : Option ℕ → Option ℕ → Option ℕ
paired (Some high) (Some low) = Some (high * 16 + low)
paired (Some high) None = None
paired None low = None

abbrev pub byte_of : List ℕ → Option ℕ
byte_of word =
    cond (length word == 1) (digit_value (slice_index word 0))
    (cond (length word == 2) (paired (digit_value (slice_index word 0)) (digit_value (slice_index word 1))) None)
