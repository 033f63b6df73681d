-- Code is bytes, two a word, the most significant one first. Assumes nothing.
--   words_in code    how many words the code has: half its length rounded down, and at most 8,192
--   word_at code a   the word at an address
use Rattle.std.specs.Prelude.{ℕ, ◌+◌, ◌*◌, ◌/◌, min, List, length, slice_index}

abbrev pub words_in : List ℕ → ℕ
words_in code = min (length code / 2) 8192

abbrev pub word_at : List ℕ → ℕ → ℕ
word_at code a = slice_index code (2 * a) * 256 + slice_index code (2 * a + 1)
