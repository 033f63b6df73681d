-- Sets of bytes as a kind of operands. Assumes nothing.
--   set_has x        the members of x
--   set_rank x       how many they are
--   set_joined x y   the members of x and of y
--   OneOrTwo         the set of 1 and 2
--   zero_only        the operand whose only member is 0
--   set_operations, set_lawful   what the kind means: exact answers; and that it keeps the laws
use Rattle.std.specs.Prelude.{◌≡◌, ℕ, ◌⊎◌, count_ones}
use Rattle.std.proofs.Common.{⊎_elim, arith}
use Rattle.operands.specs.Bytes.{Bytes, Inside}
use Rattle.operands.specs.Operations.{Operations, Lawful}
use Rattle.operands.specs.Exact.{exact, exact_lawful}
use Rattle.sets.specs.Numbers.{In, number, in_below, in_highest}
use Rattle.sets.specs.declared.set.Set.{Set}

abbrev pub set_has : Set → Bytes
set_has x = In (number x.bits)

abbrev pub set_rank : Set → ℕ
set_rank x = count_ones (number x.bits)

abbrev pub set_joined : Set → Set → Bytes
set_joined x y b = set_has x b ⊎ set_has y b

-- the union lies inside every set that contains both
pub set_joined_least : (x y u : Set) → Inside (set_has x) (set_has u) → Inside (set_has y) (set_has u) → Inside (set_joined x y) (set_has u)
set_joined_least x y u f g b = ⊎_elim (f b) (g b)

abbrev pub OneOrTwo : Bytes
OneOrTwo b = (b ≡ 1) ⊎ (b ≡ 2)

abbrev pub zero_only : Set
zero_only = record { bits = record { low = 1; high = 0 }; fits = omega arith; some = omega arith }

abbrev pub set_operations : Operations Set
set_operations = exact set_has zero_only

pub set_lawful : Lawful set_operations
set_lawful =
    exact_lawful set_has zero_only (λ x b. in_below 256 (number x.bits) b x.fits)
    (λ x. in_highest 256 (number x.bits) x.some x.fits)
