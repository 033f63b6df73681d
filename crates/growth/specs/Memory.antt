-- The memory in which a table grows: a status byte and sixteen operands a word. Assumes nothing.
--   Room n status operands   there is room for n words
--   Tidy b                a status byte while the table grows: 0 without an entry, else 1 + 2 × left mark + 4 × right mark, and 8
--                         while the word is due, that is while its entry is still to be sent on to where the word goes
--   due_status left right   the status byte of a word that is due
--   Quiet status p        no word below p is due
--   SameAt o x y p        the operands x and y are equal at the word p
--   Kept o n .. ..        what growth leaves alone: what lies past n words, and the operands of each word without an entry
--   entries_in status n   how many of the first n words have an entry
use Rattle.std.specs.Prelude.{◌≡◌, ℕ, ◌+◌, ◌*◌, ◌%◌, ◌<◌, ◌≤◌, Bool, cond, ◌⊎◌, List, length, ◌==◌, slice_index, slice_index_or}
use Rattle.operands.specs.Operations.{Operations}
use Rattle.growth.specs.Measures.{sum_below}

pub record Room {K : Type 0} (n : ℕ) (status : List ℕ) (operands : List K) : Type 0 where
  pub words : n ≤ 8192
  pub bytes : n ≤ length status
  pub cells : 16 * n ≤ length operands

abbrev pub Tidy : ℕ → Type 0
Tidy b = (b ≡ 0) ⊎ ((b % 2 ≡ 1) × (b < 16))

abbrev pub due_status : Bool → Bool → ℕ
due_status left right = 9 + (cond left 2 0 + cond right 4 0)

abbrev pub Quiet : List ℕ → ℕ → Type 0
Quiet status p = (k : ℕ) → k < p → slice_index status k < 8

abbrev pub SameAt : {K : Type 0} → Operations K → List K → List K → ℕ → Type 0
SameAt o operands operands' p =
    (r : ℕ) → r < 16 → slice_index_or operands' (16 * p + r) o.some ≡ slice_index_or operands (16 * p + r) o.some

pub record Kept {K : Type 0} (o : Operations K) (n : ℕ) (status : List ℕ) (operands : List K) (status' : List ℕ) (operands' : List K) : Type 0 where
  pub past : (p : ℕ) → n ≤ p → (slice_index status' p ≡ slice_index status p) × SameAt o operands operands' p
  pub bare : (p : ℕ) → slice_index status' p % 2 ≡ 0 → (slice_index status p % 2 ≡ 0) × SameAt o operands operands' p

abbrev pub entries_in : List ℕ → ℕ → ℕ
entries_in status n = sum_below n (λ p. cond (slice_index status p % 2 == 1) 1 0)
