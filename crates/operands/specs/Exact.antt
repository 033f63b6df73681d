-- Kinds whose answers have exactly the bytes that members give. Assumes nothing.
use Rattle.std.specs.Prelude.{◌≡◌, ℕ, ◌<◌, refl}
use Rattle.operands.specs.Bytes.{Bytes, One, Two, one, two}
use Rattle.operands.specs.Operations.{Operations, Lawful}

abbrev pub exact_ones : One → Bytes → Bytes
exact_ones f P b = (a : ℕ) × (P a × (b ≡ one f a))

abbrev pub exact_twos : Two → Bytes → Bytes → Bytes
exact_twos f P Q c = (a b : ℕ) × (P a × (Q b × (c ≡ two f a b)))

abbrev pub exact : {K : Type 0} → (K → Bytes) → K → Operations K
exact has some = record { has = has; some = some; ones = exact_ones; twos = exact_twos }

pub exact_lawful : {K : Type 0} (has : K → Bytes) (some : K) → ((x : K) (b : ℕ) → has x b → b < 256) → ((x : K) → (b : ℕ) × has x b) → Lawful (exact has some)
exact_lawful has some bytes member =
    record {
      bytes = bytes;
      member = member;
      one_has = λ f P a h p. (a, (p, refl));
      two_has = λ f P Q a b ha hb p q. (a, b, (p, (q, refl)));
      one_inside = λ f P Q i b h. (h.0, (i h.0 h.1.0, h.1.1));
      two_inside = λ f P Q U V i j c h. (h.0, h.1, (i h.0 h.2.0, (j h.1 h.2.1.0, h.2.1.1)));
    }
