-- What the reader answers. Assumes nothing.
--   Clear file n        no fault that is checked before rank n occurs
--   First file f        the fault f occurs, and none before it
--   Granted, Withheld   each entry of the file gives its port its mask, and a port that no entry names has mask 0
--   Read file r         the answer for a file: its two parts where no fault occurs, else the first fault
use Rattle.std.specs.Prelude.{◌≡◌, ℕ, ◌*◌, ◌<◌, ◌≤◌, List, length, slice_index, Ok, Err, Result, ◌≢◌}
use Rattle.image.specs.declared.fault.FileFault.{FileFault}
use Rattle.image.specs.declared.part.Image.{Image}
use Rattle.instructions.specs.declared.field.Side.{Side}
use Rattle.image.specs.Files.{format, word_count, start_of_code, count_of_grants, start_of_grants, entry_place, bank_at, port_at, mask_at}
use Rattle.image.specs.Faults.{Occurs, rank}
use Rattle.image.specs.Grants.{bank_number, mask_of}
use Rattle.image.specs.Parts.{IsCode, IsGrants, part_bytes}

abbrev pub Clear : List ℕ → ℕ → Type 0
Clear file n = (g : FileFault) → Occurs file g → rank g < n → ⊥

abbrev pub First : List ℕ → FileFault → Type 0
First file f = Occurs file f × Clear file (rank f)

abbrev pub Faultless : List ℕ → Type 0
Faultless file = (g : FileFault) → Occurs file g → ⊥

abbrev pub Granted : List ℕ → List ℕ → Type 0
Granted file grants =
    (k : ℕ) → k < count_of_grants file → (s : Side) → bank_number s ≡ bank_at file (entry_place file k) → mask_of grants s (port_at file (entry_place file k)) ≡ mask_at file (entry_place file k)

abbrev pub Withheld : List ℕ → List ℕ → Type 0
Withheld file grants =
    (s : Side) (port : ℕ) → ((k : ℕ) → k < count_of_grants file → bank_number s ≡ bank_at file (entry_place file k) → port ≢ port_at file (entry_place file k)) → mask_of grants s port ≡ 0

-- the two parts of a file that has no fault, and what its grants let a program change
pub record IsImage (file : List ℕ) (image : Image) : Type 0 where
  pub code : IsCode file (start_of_code file) (2 * word_count file) image.code
  pub grants : IsGrants file (start_of_grants file) (4 * count_of_grants file) image.grants
  pub granted : Granted file (part_bytes image.grants)
  pub withheld : Withheld file (part_bytes image.grants)

-- two empty parts at place 0
pub record IsEmpty (file : List ℕ) (image : Image) : Type 0 where
  pub code : IsCode file 0 0 image.code
  pub grants : IsGrants file 0 0 image.grants

abbrev pub Read : List ℕ → Result Image FileFault → Type 0
Read file (Ok image) = Faultless file × IsImage file image
Read file (Err fault) = First file fault

-- the five numbers of a header
pub record IsHeader (file header : List ℕ) : Type 0 where
  pub whole : 20 ≤ length file
  pub format : slice_index header 0 ≡ format file
  pub words : slice_index header 1 ≡ word_count file
  pub code : slice_index header 2 ≡ start_of_code file
  pub grants : slice_index header 3 ≡ count_of_grants file
  pub grant_start : slice_index header 4 ≡ start_of_grants file

-- the first seven checks: where the parts lie
pub record IsLaid (file : List ℕ) (image : Image) : Type 0 where
  pub code : IsCode file (start_of_code file) (2 * word_count file) image.code
  pub grants : IsGrants file (start_of_grants file) (4 * count_of_grants file) image.grants

abbrev pub Laid : List ℕ → Result Image FileFault → Type 0
Laid file (Ok image) = Clear file 8 × IsLaid file image
Laid file (Err fault) = First file fault
