use Rattle.std.proofs.Common.{◌*◌, ℕ, List}
use Rattle.image.specs.Files.{count_of_grants, start_of_grants}
use Rattle.image.specs.Parts.{IsGrants}
use Rattle.image.specs.Reading.{Clear}
use Rattle.image.proofs.Ranks.{Tried}
use Rattle.image.proofs.entries.try_entries.Given as goal

-- of each file whose grants these are, the entries so far have no fault
abbrev pub invariant-loop-k : goal.invariant-loop-k
invariant-loop-k l =
    (file : List ℕ) → Clear file 8 → IsGrants file (start_of_grants file) (4 * count_of_grants file) l.grants → Tried file l.k l.least_key
