-- Where things stand in an image file. Assumes nothing.
--   number32 file p      the 32-bit number at p, most significant byte first
--   the header           five such numbers: format at 0, word count at 4, code offset at 8, grant count at 12, grant offset at 16
--   entry_place file k   where the k-th grant stands: four bytes, which are bank, port, mask and a spare byte
--   key_at file p        the bank and the port of the grant at p as one number, by which grants are ordered
use Rattle.std.specs.Prelude.{ℕ, ◌+◌, ◌*◌, List, slice_index}

abbrev pub number32 : List ℕ → ℕ → ℕ
number32 file p =
    slice_index file p * 16777216 + slice_index file (p + 1) * 65536 + slice_index file (p + 2) * 256 + slice_index file (p + 3)

abbrev pub format : List ℕ → ℕ
format file = number32 file 0

abbrev pub word_count : List ℕ → ℕ
word_count file = number32 file 4

abbrev pub start_of_code : List ℕ → ℕ
start_of_code file = number32 file 8

abbrev pub end_of_code : List ℕ → ℕ
end_of_code file = start_of_code file + 2 * word_count file

abbrev pub count_of_grants : List ℕ → ℕ
count_of_grants file = number32 file 12

abbrev pub start_of_grants : List ℕ → ℕ
start_of_grants file = number32 file 16

abbrev pub end_of_grants : List ℕ → ℕ
end_of_grants file = start_of_grants file + 4 * count_of_grants file

abbrev pub entry_place : List ℕ → ℕ → ℕ
entry_place file k = start_of_grants file + 4 * k

-- the bytes of the entry at p
abbrev pub bank_at : List ℕ → ℕ → ℕ
bank_at file p = slice_index file p

abbrev pub port_at : List ℕ → ℕ → ℕ
port_at file p = slice_index file (p + 1)

abbrev pub mask_at : List ℕ → ℕ → ℕ
mask_at file p = slice_index file (p + 2)

abbrev pub spare_at : List ℕ → ℕ → ℕ
spare_at file p = slice_index file (p + 3)

abbrev pub key_at : List ℕ → ℕ → ℕ
key_at file p = bank_at file p * 256 + port_at file p
