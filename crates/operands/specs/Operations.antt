-- What a kind of operands means. Assumes nothing.
--   Operations K   of a kind: which bytes an operand has, some operand (to stand where a memory has none),
--                  and what each operation gives, as functions on sets of bytes
--   Lawful o       the laws that every kind keeps
use Rattle.std.specs.Prelude.{ℕ, ◌<◌}
use Rattle.operands.specs.Bytes.{Bytes, Inside, One, Two, one, two}

pub record Operations (K : Type 0) : Type 1 where
  pub has : K → Bytes
  pub some : K
  pub ones : One → Bytes → Bytes
  pub twos : Two → Bytes → Bytes → Bytes

pub record Lawful {K : Type 0} (o : Operations K) : Type 1 where
  -- members are bytes, and there is one
  pub bytes : (x : K) (b : ℕ) → o.has x b → b < 256
  pub member : (x : K) → (b : ℕ) × o.has x b
  -- an answer has every byte that the operation gives from members
  pub one_has : (f : One) (P : Bytes) (a : ℕ) → a < 256 → P a → o.ones f P (one f a)
  pub two_has : (f : Two) (P Q : Bytes) (a b : ℕ) → a < 256 → b < 256 → P a → Q b → o.twos f P Q (two f a b)
  -- inputs inside inputs give answers inside answers
  pub one_inside : (f : One) (P Q : Bytes) → Inside P Q → Inside (o.ones f P) (o.ones f Q)
  pub two_inside : (f : Two) (P Q U V : Bytes) → Inside P U → Inside Q V → Inside (o.twos f P Q) (o.twos f U V)
