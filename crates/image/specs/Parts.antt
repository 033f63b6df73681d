-- The parts of a file. Assumes nothing.
--   part_bytes x, part_place x   the bytes of a part, and where they begin in the file
--   IsCode file start n x        x is code: the file's own n bytes from start on
--   IsGrants file start n x      the same as grants
use Rattle.std.specs.Prelude.{◌≡◌, ℕ, List, length, take, drop}
use Rattle.image.specs.declared.part.Part.{Part}
use Rattle.image.specs.declared.part.Part.TheVariants.{Code, Grants}

abbrev pub part_bytes : Part → List ℕ
part_bytes (Code bytes place) = bytes.now
part_bytes (Grants bytes place) = bytes.now

abbrev pub part_place : Part → ℕ
part_place (Code bytes place) = place
part_place (Grants bytes place) = place

abbrev pub IsCode : List ℕ → ℕ → ℕ → Part → Type 0
IsCode file start n (Code bytes place) = (place ≡ start) × (bytes.now ≡ take n (drop start file)) × (length bytes.now ≡ n)
IsCode file start n (Grants bytes place) = ⊥

abbrev pub IsGrants : List ℕ → ℕ → ℕ → Part → Type 0
IsGrants file start n (Code bytes place) = ⊥
IsGrants file start n (Grants bytes place) = (place ≡ start) × (bytes.now ≡ take n (drop start file)) × (length bytes.now ≡ n)
