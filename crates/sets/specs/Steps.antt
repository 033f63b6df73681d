-- What is done to members. Assumes nothing.
--   Image f P          the set of what f gives from the members of P
--   GivesRows f Row    what Row says of a byte, a set and an answer, the answer is what f gives
--                      from the byte and each member of the set
use Rattle.std.specs.Prelude.{◌≡◌, ℕ, ◌<◌}
use Rattle.operands.specs.Bytes.{Bytes, Same, Two, two}
use Rattle.sets.specs.Numbers.{In, number}
use Rattle.sets.specs.declared.bitset.Bits.{Bits}

abbrev pub Image : (ℕ → ℕ) → Bytes → Bytes
Image f P b = (a : ℕ) × (P a × (b ≡ f a))

abbrev pub GivesRows : Two → (ℕ → Bits → Bits → Type 0) → Type 0
GivesRows f Row = (a : ℕ) (s r : Bits) → a < 256 → Row a s r → Same (In (number r)) (Image (two f a) (In (number s)))
