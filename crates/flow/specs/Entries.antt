-- Entries of the code, and where they stand in memory. Assumes nothing.
--   allows o e                      the state that an entry allows
--   Room p status operands          the memory is long enough for the entry of the address p
--   Entered o status operands p e   e is what the memory has at p
use Rattle.std.specs.Prelude.{◌≡◌, ℕ, ◌+◌, ◌*◌, ◌<◌, ◌≤◌, List, length, get_or, slice_index, slice_index_or}
use Rattle.instructions.specs.declared.field.Side.TheVariants.{Left, Right}
use Rattle.operands.specs.Operations.{Operations}
use Rattle.flow.specs.States.{State}
use Rattle.flow.specs.Tables.{seen, has_mark}
use Rattle.flow.specs.declared.entry.Entry.{Entry}

abbrev pub allows : {K : Type 0} → Operations K → Entry K → State
allows o e = seen o (λ r. get_or e.operands r o.some) e.left e.right

abbrev pub Room : {K : Type 0} → ℕ → List ℕ → List K → Type 0
Room p status operands = (p < length status) × (16 * p + 16 ≤ length operands)

pub record Entered {K : Type 0} (o : Operations K) (status : List ℕ) (operands : List K) (p : ℕ) (e : Entry K) : Type 0 where
  pub operand : (r : ℕ) → r < 16 → slice_index_or e.operands r o.some ≡ slice_index_or operands (16 * p + r) o.some
  pub left : e.left ≡ has_mark Left (slice_index status p)
  pub right : e.right ≡ has_mark Right (slice_index status p)
