-- What a scan of a flow table tells. Assumes nothing.
--   First P k                    the first breach, by their order, of those that P has; None if it has none
--   Suffices n status operands   the memory has room for n entries
--   EntryShows o code grants t p k   there is an entry at p, and it has the breach k
--   Clear o code grants t        no entry of the code has a breach
--   Lowest o code grants t a k   a is the lowest address whose entry has a breach, and k the first one there
--   Scanned o code grants status operands r   what the answer r says of the memory
use Rattle.std.specs.Prelude.{◌≡◌, ℕ, ◌*◌, ◌<◌, ◌≤◌, true, List, length, Some, None, Option, Ok, Err, Result}
use Rattle.words.specs.Code.{words_in}
use Rattle.operands.specs.Operations.{Operations}
use Rattle.flow.specs.declared.breach.Breach.{Breach}
use Rattle.flow.specs.Tables.{Table, holds, table_of}
use Rattle.flow.specs.Breaches.{order, Occurs, FirstAt, ClearAt}
use Rattle.scan.specs.declared.fault.ScanFault.{ScanFault}
use Rattle.scan.specs.declared.fault.ScanFault.TheVariants as fault

abbrev pub First : (Breach → Type 0) → Option Breach → Type 0
First P None = (j : Breach) → P j → ⊥
First P (Some k) = P k × ((j : Breach) → order j < order k → P j → ⊥)

pub record Suffices {K : Type 0} (n : ℕ) (status : List ℕ) (operands : List K) : Type 0 where
  pub bytes : n ≤ length status
  pub cells : 16 * n ≤ length operands

abbrev pub EntryShows : {K : Type 0} → Operations K → List ℕ → List ℕ → Table K → ℕ → Breach → Type 0
EntryShows o code grants t p k = (t.entry p ≡ true) × Occurs o code grants (holds o t p) p k

abbrev pub Clear : {K : Type 0} → Operations K → List ℕ → List ℕ → Table K → Type 0
Clear o code grants t =
    (p : ℕ) → p < words_in code → t.entry p ≡ true → ClearAt o code grants (holds o t p) p

pub record Lowest {K : Type 0} (o : Operations K) (code grants : List ℕ) (t : Table K) (address : ℕ) (breach : Breach) : Type 0 where
  pub inside : address < words_in code
  pub entered : t.entry address ≡ true
  pub first : FirstAt o code grants (holds o t address) address breach
  pub before : (p : ℕ) → p < address → t.entry p ≡ true → ClearAt o code grants (holds o t p) p

abbrev pub Scanned : {K : Type 0} → Operations K → List ℕ → List ℕ → List ℕ → List K → Result (Unit {0}) ScanFault → Type 0
Scanned o code grants status operands (Err fault.Memory) = Suffices (words_in code) status operands → ⊥
Scanned o code grants status operands (Err (fault.Breach breach address)) =
    Suffices (words_in code) status operands × Lowest o code grants (table_of o status operands) address breach
Scanned o code grants status operands (Ok _) =
    Suffices (words_in code) status operands × Clear o code grants (table_of o status operands)
