-- The flow table and its rules. Assumes nothing.
--   Table K              for each address: whether it has an entry, sixteen operands, and for each bank the mark `may be unready`
--   holds o t p          the state that the entry of an address allows
--   has_entry b, has_mark side b   what a status byte tells: 0 without an entry, else 1 + 2 × left mark + 4 × right mark
--   table_of o status operands   the table that the memory holds: sixteen operands a word in the order of the registers, and one
--                        status byte a word
--   FlowsAt o code t p   each next address inside the image has an entry that allows the state after the word
--   Rules o code t       what a table owes to the code
--   Under o n t u        below n, the table t has no entry that u lacks, and allows nothing that u does not
use Rattle.std.specs.Prelude.{◌≡◌, ℕ, ◌+◌, ◌*◌, ◌/◌, ◌%◌, ◌<◌, Bool, true, cond, List, ◌==◌, nat_lt, slice_index, slice_index_or}
use Rattle.instructions.specs.declared.field.Side.{Side}
use Rattle.instructions.specs.declared.field.Side.TheVariants.{Left, Right}
use Rattle.instructions.specs.declared.instruction.Instruction.{Instruction}
use Rattle.words.specs.Code.{words_in}
use Rattle.operands.specs.Bytes.{Bytes}
use Rattle.operands.specs.Operations.{Operations}
use Rattle.flow.specs.States.{State, Fits, after, start}
use Rattle.flow.specs.Ways.{Runs, Next}

pub record Table (K : Type 0) : Type 0 where
  pub entry : ℕ → Bool
  pub cell : ℕ → ℕ → K
  pub left : ℕ → Bool
  pub right : ℕ → Bool

-- a mark as a part of a state
abbrev pub marked : Bool → Bytes
marked m b = m ≡ true

abbrev pub seen : {K : Type 0} → Operations K → (ℕ → K) → Bool → Bool → State
seen o cell left right r = cond (nat_lt r 16) (o.has (cell r)) (marked (cond (r == 16) left right))

abbrev pub holds : {K : Type 0} → Operations K → Table K → ℕ → State
holds o t p = seen o (t.cell p) (t.left p) (t.right p)

abbrev pub has_entry : ℕ → Bool
has_entry status = status % 2 == 1

abbrev pub has_mark : Side → ℕ → Bool
has_mark Left status = status / 2 % 2 == 1
has_mark Right status = status / 4 % 2 == 1

abbrev pub table_of : {K : Type 0} → Operations K → List ℕ → List K → Table K
table_of o status operands =
    record {
      entry = λ p. has_entry (slice_index status p);
      cell = λ p r. slice_index_or operands (16 * p + r) o.some;
      left = λ p. has_mark Left (slice_index status p);
      right = λ p. has_mark Right (slice_index status p);
    }

abbrev pub FlowsAt : {K : Type 0} → Operations K → List ℕ → Table K → ℕ → Type 0
FlowsAt o code t p =
    (i : Instruction) → Runs o code (holds o t p) p i → (q : ℕ) → q < words_in code → Next o i (holds o t p) p q
    → (t.entry q ≡ true) × Fits (after o i (holds o t p)) (holds o t q)

pub record Rules {K : Type 0} (o : Operations K) (code : List ℕ) (t : Table K) : Type 0 where
  pub starts : t.entry 0 ≡ true
  pub allows_start : Fits (start o) (holds o t 0)
  pub flows : (p : ℕ) → p < words_in code → t.entry p ≡ true → FlowsAt o code t p

abbrev pub Under : {K : Type 0} → Operations K → ℕ → Table K → Table K → Type 0
Under o n t u = (p : ℕ) → p < n → t.entry p ≡ true → (u.entry p ≡ true) × Fits (holds o t p) (holds o u p)
