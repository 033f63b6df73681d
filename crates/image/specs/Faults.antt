-- The faults of a file. Assumes nothing.
--   reported f      how a fault is reported: its number, and its place in the file
--   fault_text f    the same as text: `file `, the number, ` at ` and the place, both in decimal
--   Occurs file f   what is wrong with a file that has the fault f
--   rank f          the order of checking: grants are tried one by one, each by its bytes before its order
use Rattle.std.specs.Prelude.{◌≡◌, ℕ, suc, ◌+◌, ◌*◌, ◌<◌, ◌≤◌, ◌⊎◌, List, length, codes, decimal}
use Rattle.faults.specs.Reports.{report_text}
use Rattle.image.specs.declared.fault.FileFault.{FileFault}
use Rattle.image.specs.declared.fault.FileFault.TheVariants.{Size, Format, WordCount, CodePlace, GrantCount, GrantPlace, Overlap, Entry, Order}
use Rattle.image.specs.Files.{format, word_count, start_of_code, end_of_code, count_of_grants, start_of_grants, end_of_grants, entry_place, bank_at, spare_at, key_at}

abbrev pub reported : FileFault → ℕ × ℕ
reported Size = (1, 0)
reported Format = (2, 0)
reported WordCount = (3, 4)
reported CodePlace = (4, 8)
reported GrantCount = (5, 12)
reported GrantPlace = (6, 16)
reported Overlap = (7, 16)
reported (Entry p) = (8, p)
reported (Order p) = (9, p)

abbrev pub fault_text : FileFault → List ℕ
fault_text f = report_text (codes "file") (reported f).0 (decimal (reported f).1)

abbrev pub Occurs : List ℕ → FileFault → Type 0
Occurs file Size = (length file < 20) ⊎ (32768 < length file)
Occurs file Format = format file ≡ 1 → ⊥
Occurs file WordCount = (word_count file ≡ 0) ⊎ (8192 < word_count file)
Occurs file CodePlace = (start_of_code file < 20) ⊎ (length file < end_of_code file)
Occurs file GrantCount = 512 < count_of_grants file
Occurs file GrantPlace = (start_of_grants file < 20) ⊎ (length file < end_of_grants file)
Occurs file Overlap =
    (b : ℕ) × (start_of_code file ≤ b) × (b < end_of_code file) × (start_of_grants file ≤ b) × (b < end_of_grants file)
Occurs file (Entry p) =
    (k : ℕ) × (k < count_of_grants file) × (p ≡ entry_place file k) × ((1 < bank_at file p) ⊎ (0 < spare_at file p))
Occurs file (Order p) =
    (k : ℕ) × (suc k < count_of_grants file) × (p ≡ entry_place file (suc k)) × (key_at file p ≤ key_at file (entry_place file k))

abbrev pub rank : FileFault → ℕ
rank Size = 1
rank Format = 2
rank WordCount = 3
rank CodePlace = 4
rank GrantCount = 5
rank GrantPlace = 6
rank Overlap = 7
rank (Entry p) = 8 + 2 * p
rank (Order p) = 9 + 2 * p
