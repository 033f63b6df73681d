-- Bytes of which only each bit is known, on its own. Assumes nothing.
--   Marked O           the bytes each of whose bits k has a value v with O k v
--   May P k v          v may stand at bit k of a member of P
--   MayCarry P Q k w   w may be carried into bit k of a sum, for all that single bits tell
--   OneMay f P k v     v may stand at bit k of what f gives
--   TwoMay f P Q k v   the same of an operation on two bytes
--   may_ones f P, may_twos f P Q   the bytes with a possible outcome at each bit
--   may_either P Q     the bytes each of whose bits some member of P or of Q has
--   mays has some      the kind of operands that these make
use Rattle.std.specs.Prelude.{◌≡◌, ℕ, zero, suc, ◌+◌, ◌*◌, ◌/◌, ◌%◌, ◌<◌, ◌≤◌, ◌⊎◌}
use Rattle.operands.specs.Bytes.{Bytes, One, Two, kept_bits}
use Rattle.operands.specs.Bytes.One.{rotate, keep}
use Rattle.operands.specs.Bytes.Two.{and, xor, sum, carry}
use Rattle.operands.specs.Operations.{Operations}
use Rattle.bits.specs.Bits.{bit}

abbrev pub Marked : (ℕ → ℕ → Type 0) → Bytes
Marked O b = (b < 256) × ((k : ℕ) → k < 8 → O k (bit b k))

abbrev pub May : Bytes → ℕ → ℕ → Type 0
May P k v = (b : ℕ) × (P b × (bit b k ≡ v))

-- from the lowest bit up: every possible pair of bits with every possible carry
abbrev pub MayCarry : Bytes → Bytes → ℕ → ℕ → Type 0
MayCarry P Q zero w = w ≡ 0
MayCarry P Q (suc k) w =
    (u v c : ℕ) × (May P k u × May Q k v × MayCarry P Q k c × (w ≡ (u + v + c) / 2))

abbrev pub OneMay : One → Bytes → ℕ → ℕ → Type 0
OneMay (rotate n) P k v = May P ((k + n % 8) % 8) v
OneMay (keep n) P k v = (k < kept_bits (n % 8) → May P k v) × (kept_bits (n % 8) ≤ k → v ≡ 0)

-- of the carry, bit 0 is what comes out of bit 7, and the others are 0
abbrev pub TwoMay : Two → Bytes → Bytes → ℕ → ℕ → Type 0
TwoMay and P Q k o = (u v : ℕ) × (May P k u × May Q k v × (o ≡ u * v))
TwoMay xor P Q k o = (u v : ℕ) × (May P k u × May Q k v × (o ≡ (u + v) % 2))
TwoMay sum P Q k o = (u v w : ℕ) × (May P k u × May Q k v × MayCarry P Q k w × (o ≡ (u + v + w) % 2))
TwoMay carry P Q zero o = MayCarry P Q 8 o
TwoMay carry P Q (suc k) o = o ≡ 0

abbrev pub may_ones : One → Bytes → Bytes
may_ones f P = Marked (OneMay f P)

abbrev pub may_twos : Two → Bytes → Bytes → Bytes
may_twos f P Q = Marked (TwoMay f P Q)

abbrev pub may_either : Bytes → Bytes → Bytes
may_either P Q = Marked (λ k v. May P k v ⊎ May Q k v)

abbrev pub mays : {K : Type 0} → (K → Bytes) → K → Operations K
mays has some = record { has = has; some = some; ones = may_ones; twos = may_twos }
