-- What the check answers, and what it leaves in the memory. Assumes nothing.
--   code_of, grants_of file   the two parts of an image, as the header gives them
--   LeastTable o code ..      the least table that keeps the rules stands in the memory
--   Judged o code grants ..   the answer for code and grants, over a kind with the operations o, and the memory before and after
--   Checked o file ..         the answer for a file
use Rattle.std.specs.Prelude.{◌≡◌, ℕ, ◌*◌, ◌%◌, ◌<◌, ◌≤◌, ◌⊎◌, List, take, drop, Ok, Err, Result, slice_index}
use Rattle.image.specs.Files.{word_count, start_of_code, count_of_grants, start_of_grants}
use Rattle.image.specs.Reading.{First, Faultless}
use Rattle.image.specs.declared.fault.FileFault.{FileFault}
use Rattle.words.specs.Code.{words_in}
use Rattle.operands.specs.Operations.{Operations}
use Rattle.flow.specs.declared.breach.Breach.{Breach}
use Rattle.flow.specs.Tables.{Table, table_of, Rules, Under}
use Rattle.flow.specs.Breaches.{Meets}
use Rattle.calls.specs.Promise.{Promise}
use Rattle.growth.specs.Memory.{SameAt, entries_in}
use Rattle.growth.specs.Growth.{Lacks}
use Rattle.scan.specs.Verdicts.{Lowest}
use Rattle.checker.specs.declared.fault.CheckFault.{CheckFault}
use Rattle.checker.specs.declared.fault.CheckFault.TheVariants as fault
use Rattle.checker.specs.declared.acceptance.Acceptance.{Acceptance}

abbrev pub code_of : List ℕ → List ℕ
code_of file = take (2 * word_count file) (drop (start_of_code file) file)

abbrev pub grants_of : List ℕ → List ℕ
grants_of file = take (4 * count_of_grants file) (drop (start_of_grants file) file)

abbrev pub Answer : Type 0
Answer = Result Acceptance CheckFault

-- the table in the memory keeps the rules and lies inside every other that does; status bytes of words without an entry are 0;
-- operands without an entry, and what lies past the last word, are as they were
pub record LeastTable {K : Type 0} (o : Operations K) (code status : List ℕ) (operands : List K) (status' : List ℕ) (operands' : List K) : Type 0 where
  pub statuses : (p : ℕ) → p < words_in code → (slice_index status' p ≡ 0) ⊎ ((slice_index status' p % 2 ≡ 1) × (slice_index status' p < 8))
  pub rules : Rules o code (table_of o status' operands')
  pub inside_every_other : (u : Table K) → Rules o code u → Under o (words_in code) (table_of o status' operands') u
  pub past : (p : ℕ) → words_in code ≤ p → (slice_index status' p ≡ slice_index status p) × SameAt o operands operands' p
  pub bare : (p : ℕ) → slice_index status' p % 2 ≡ 0 → SameAt o operands operands' p

pub record Judged {K : Type 0} (o : Operations K) (code grants status : List ℕ) (operands : List K) (status' : List ℕ) (operands' : List K) (r : Answer) : Type 0 where
  -- too little memory, or no word: refused, and nothing is written
  pub lacking : Lacks (words_in code) status operands → (r ≡ Err fault.Memory) × ((status' ≡ status) × (operands' ≡ operands))
  -- otherwise the least table is left, whatever the answer
  pub table : (Lacks (words_in code) status operands → ⊥) → LeastTable o code status operands status' operands'
  -- an accepted image has a table that meets every rule
  pub accepted : (a : Acceptance) → r ≡ Ok a → Meets o code grants (table_of o status' operands') × ((a.words ≡ words_in code) × (a.reached ≡ entries_in status' (words_in code)))
  -- over any list of calls on an accepted image no cycle is refused, withheld bits follow the drives alone, and the registers
  -- stay inside the table
  pub promised : (a : Acceptance) → r ≡ Ok a → Promise o code grants (table_of o status' operands')
  -- and an image that has a table that meets every rule is accepted
  pub exactly : (Lacks (words_in code) status operands → ⊥) → (t : Table K) → Meets o code grants t → (a : Acceptance) × (r ≡ Ok a)
  -- a refusal names the lowest address with a breach, and the first breach there
  pub refused : (Lacks (words_in code) status operands → ⊥) → (f : CheckFault) → r ≡ Err f → (k : Breach) × ((p : ℕ) × ((f ≡ fault.Breach k p) × Lowest o code grants (table_of o status' operands') p k))

pub record Checked {K : Type 0} (o : Operations K) (file status : List ℕ) (operands : List K) (status' : List ℕ) (operands' : List K) (r : Answer) : Type 0 where
  -- a file that the reader refuses is refused with the reader's fault, and nothing is written
  pub no_image : (f : FileFault) → First file f → (r ≡ Err (fault.File f)) × ((status' ≡ status) × (operands' ≡ operands))
  pub image : Faultless file → Judged o (code_of file) (grants_of file) status operands status' operands' r
