-- How a table grows, over any kind of operands: what each part of the growth leaves. Assumes nothing.
--   JoinIsLeast o joined   the join of two operands lies inside every operand that contains both
--   Blended            an old operand, where there is one, and a new one are put together
--   Flowed .. q e ..   the entry e was sent to the word q: the word's entry now allows what it allowed and what e allows, and
--                      the word is due if that is more than it allowed
--   Sent               the same, if there is an address and it lies below n
--   Went .. p i e ..   the word i, run at p with the entry e, was sent on to where it goes
--   RunsAs o code s p a i   the word at a, which is i and no XEC, may run while the program counter is p
--   Growing            what holds between two steps: a word with an entry that is not due keeps the rules
--   Grown              the table in memory keeps the rules, and is the least that does where joins are least
use Rattle.std.specs.Prelude.{◌≡◌, ℕ, ◌*◌, ◌%◌, ◌<◌, ◌≤◌, Bool, true, false, ◌⊎◌, List, length, Some, Option, ◌≢◌, slice_index, slice_index_or}
use Rattle.instructions.specs.declared.instruction.Instruction.{Instruction}
use Rattle.words.specs.Code.{words_in}
use Rattle.operands.specs.Bytes.{Bytes, Inside}
use Rattle.operands.specs.Operations.{Operations}
use Rattle.effects.specs.Addresses.{next_address}
use Rattle.flow.specs.declared.entry.Entry.{Entry}
use Rattle.flow.specs.States.{State, Fits, Alike, after, start}
use Rattle.flow.specs.Ways.{instruction_at, is_xec, RunsAt, GoesOn, Jumps}
use Rattle.flow.specs.Tables.{Table, seen, holds, table_of, FlowsAt, Rules, Under}
use Rattle.flow.specs.Entries.{allows}
use Rattle.growth.specs.Measures.{weight_at}
use Rattle.growth.specs.Memory.{Tidy, Quiet, SameAt}

abbrev pub JoinIsLeast : {K : Type 0} → Operations K → (K → K → Bytes) → Type 0
JoinIsLeast {K} o joined =
    (x y u : K) → Inside (o.has x) (o.has u) → Inside (o.has y) (o.has u) → Inside (joined x y) (o.has u)

pub record Blended {K : Type 0} (o : Operations K) (joined : K → K → Bytes) (rank : K → ℕ) (bare : Bool) (old new made : K) (added : Bool) : Type 0 where
  pub first : bare ≡ false → Inside (o.has old) (o.has made)
  pub second : Inside (o.has new) (o.has made)
  pub least : JoinIsLeast o joined → (u : K) → (bare ≡ false → Inside (o.has old) (o.has u)) → Inside (o.has new) (o.has u) → Inside (o.has made) (o.has u)
  pub still : bare ≡ false → added ≡ false → made ≡ old
  pub rises : bare ≡ false → added ≡ true → rank old < rank made

-- a word that has an entry and is due
abbrev pub Due : ℕ → Type 0
Due b = (8 ≤ b) × ((b < 16) × (b % 2 ≡ 1))

pub record Flowed {K : Type 0} (o : Operations K) (joined : K → K → Bytes) (rank : K → ℕ) (top q : ℕ) (e : Entry K) (status : List ℕ) (operands : List K) (status' : List ℕ) (operands' : List K) : Type 0 where
  pub rest : (p : ℕ) → (p ≢ q) → (slice_index status' p ≡ slice_index status p) × SameAt o operands operands' p
  pub entered : Due (slice_index status' q) ⊎ ((slice_index status' q ≡ slice_index status q) × ((slice_index status q % 2 ≡ 1) × SameAt o operands operands' q))
  pub first : slice_index_or status q 0 % 2 ≡ 1 → Fits (holds o (table_of o status operands) q) (holds o (table_of o status' operands') q)
  pub second : Fits (allows o e) (holds o (table_of o status' operands') q)
  pub least : JoinIsLeast o joined → (u : ℕ → K) (left right : Bool)
      → (slice_index status q % 2 ≡ 1 → Fits (holds o (table_of o status operands) q) (seen o u left right)) → Fits (allows o e) (seen o u left right)
      → Fits (holds o (table_of o status' operands') q) (seen o u left right)
  pub lighter : weight_at o rank top status' operands' q ≤ weight_at o rank top status operands q

-- no word below `low'` is due if before none below `low` was
pub record Sent {K : Type 0} (o : Operations K) (joined : K → K → Bytes) (rank : K → ℕ) (top n low : ℕ) (target : Option ℕ) (e : Entry K) (status : List ℕ) (operands : List K) (low' : ℕ) (status' : List ℕ) (operands' : List K) : Type 0 where
  pub flowed : (q : ℕ) → target ≡ Some q → q < n → Flowed o joined rank top q e status operands status' operands'
  pub still : ((q : ℕ) → target ≡ Some q → q < n → ⊥) → (status' ≡ status) × (operands' ≡ operands)
  pub quiet : Quiet status low → Quiet status' low'

abbrev pub RunsAs : {K : Type 0} → Operations K → List ℕ → State → ℕ → ℕ → Instruction → Type 0
RunsAs o code s p a i = RunsAt o code s p a × ((a < words_in code) × ((instruction_at code a ≡ Some i) × (is_xec i ≡ false)))

-- sent on to the next address and to where it jumps, one after the other
pub record Went {K : Type 0} (o : Operations K) (joined : K → K → Bytes) (rank : K → ℕ) (top n p low : ℕ) (i : Instruction) (e : Entry K) (status : List ℕ) (operands : List K) (low' : ℕ) (status' : List ℕ) (operands' : List K) : Type 0 where
  pub on : Option ℕ
  pub jump : Option ℕ
  pub new : Entry K
  pub goes : (q : ℕ) → (on ≡ Some q → (q ≡ next_address p) × GoesOn o i (allows o e)) × ((q ≡ next_address p) × GoesOn o i (allows o e) → on ≡ Some q)
  pub hops : (q : ℕ) → (jump ≡ Some q → Jumps o i (allows o e) p q) × (Jumps o i (allows o e) p q → jump ≡ Some q)
  pub alike : Alike (allows o new) (after o i (allows o e))
  pub low_between : ℕ
  pub status_between : List ℕ
  pub operands_between : List K
  pub sent_on : Sent o joined rank top n low on new status operands low_between status_between operands_between
  pub sent_off : Sent o joined rank top n low_between jump new status_between operands_between low' status' operands'

pub record Growing {K : Type 0} (o : Operations K) (joined : K → K → Bytes) (code : List ℕ) (status : List ℕ) (operands : List K) : Type 0 where
  pub tidy : (p : ℕ) → p < words_in code → Tidy (slice_index status p)
  pub starts : (table_of o status operands).entry 0 ≡ true
  pub allows_start : Fits (start o) (holds o (table_of o status operands) 0)
  pub done : (p : ℕ) → p < words_in code → slice_index status p % 2 ≡ 1 → slice_index status p < 8 → FlowsAt o code (table_of o status operands) p
  pub least : JoinIsLeast o joined → (u : Table K) → Rules o code u → Under o (words_in code) (table_of o status operands) u

-- there is no word, or no room for the table
abbrev pub Lacks : {K : Type 0} → ℕ → List ℕ → List K → Type 0
Lacks n status operands = (n ≡ 0) ⊎ ((length status < n) ⊎ (length operands < 16 * n))

pub record Grown {K : Type 0} (o : Operations K) (joined : K → K → Bytes) (code : List ℕ) (status : List ℕ) (operands : List K) (status' : List ℕ) (operands' : List K) : Type 0 where
  pub tidy : (p : ℕ) → p < words_in code → (slice_index status' p ≡ 0) ⊎ ((slice_index status' p % 2 ≡ 1) × (slice_index status' p < 8))
  pub rules : Rules o code (table_of o status' operands')
  pub least : JoinIsLeast o joined → (u : Table K) → Rules o code u → Under o (words_in code) (table_of o status' operands') u
  pub past : (p : ℕ) → words_in code ≤ p → (slice_index status' p ≡ slice_index status p) × SameAt o operands operands' p
  pub bare : (p : ℕ) → slice_index status' p % 2 ≡ 0 → SameAt o operands operands' p
