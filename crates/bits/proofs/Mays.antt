-- The operations by bits are lawful, at any sets. Assumes nothing.
use Rattle.std.proofs.Common.{◌≡◌, ℕ, zero, suc, ◌+◌, ◌*◌, ◌/◌, ◌%◌, ◌^◌, ◌<◌, ◌≤◌, min, sym, refl, ap, ◌∙◌, subst, ⊎_elim, arith}
use native.Mathlib.Nat.{mod-le}
use lib.Bits.{and_le_l}
use Rattle.std.proofs.lemmas.Nat.{xor_lt}
use Rattle.std.proofs.lemmas.Bool.{cases_eq}
use Rattle.operands.specs.Bytes.{Bytes, Inside, One, Two, one, two, kept_bits}
use Rattle.operands.specs.Bytes.One.{rotate, keep}
use Rattle.operands.specs.Bytes.Two.{and, xor, sum, carry}
use Rattle.operands.specs.Operations.{Lawful}
use Rattle.bits.specs.Bits.{bit, carry_into}
use Rattle.bits.specs.Mays.{Marked, May, MayCarry, OneMay, TwoMay, mays}
use Rattle.std.proofs.lemmas.Nat.Bits.{bit_at_and, bit_at_xor, bit_at_above}
use Rattle.bits.proofs.Bits.{bit_mod, bit_mod_past, bit-rotated, bit_add, carry_out}

-- sets that hold more

pub marked_inside : (O R : ℕ → ℕ → Type 0) → ((k v : ℕ) → k < 8 → O k v → R k v) → Inside (Marked O) (Marked R)
marked_inside O R f b m = (m.0, λ k h. f k (bit b k) h (m.1 k h))

pub may_inside : (P U : Bytes) (k v : ℕ) → Inside P U → May P k v → May U k v
may_inside P U k v i m = (m.0, (i m.0 m.1.0, m.1.1))

carry_inside : (P Q U V : Bytes) (k w : ℕ) → Inside P U → Inside Q V → MayCarry P Q k w → MayCarry U V k w
carry_inside P Q U V zero w i j m = m
carry_inside P Q U V (suc k) w i j (u, v, c, (p, q, m, e)) =
    (u, v, c, (may_inside P U k u i p, may_inside Q V k v j q, carry_inside P Q U V k c i j m, e))

one_may_inside : (f : One) (P U : Bytes) → Inside P U → (k v : ℕ) → OneMay f P k v → OneMay f U k v
one_may_inside (rotate n) P U i k v m = may_inside P U _ v i m
one_may_inside (keep n) P U i k v m = (λ h. may_inside P U k v i (m.0 h), m.1)

two_may_inside : (f : Two) (P Q U V : Bytes) → Inside P U → Inside Q V → (k o : ℕ) → TwoMay f P Q k o → TwoMay f U V k o
two_may_inside and P Q U V i j k o (u, v, (p, q, e)) = (u, v, (may_inside P U k u i p, may_inside Q V k v j q, e))
two_may_inside xor P Q U V i j k o (u, v, (p, q, e)) = (u, v, (may_inside P U k u i p, may_inside Q V k v j q, e))
two_may_inside sum P Q U V i j k o (u, v, w, (p, q, m, e)) =
    (u, v, w, (may_inside P U k u i p, may_inside Q V k v j q, carry_inside P Q U V k w i j m, e))
two_may_inside carry P Q U V i j zero o m = carry_inside P Q U V 8 o i j m
two_may_inside carry P Q U V i j (suc k) o m = m

-- what members give

pub mul_bits : (u v : ℕ) → u ≤ 1 → v ≤ 1 → u * v ≡ min u v
mul_bits u v hu hv =
    ⊎_elim (λ e. omega (arith, ap (λ n. n * v) e)) (λ n. let e : u ≡ 1 = omega arith in omega (arith, ap (λ n. n * v) e)) (cases_eq u 0)

may_has : (P : Bytes) (a k : ℕ) → P a → May P k (bit a k)
may_has P a k p = (a, (p, refl))

carry_has : (P Q : Bytes) (a b k : ℕ) → P a → Q b → MayCarry P Q k (carry_into a b k)
unfolding carry_into
carry_has P Q a b zero p q = refl
carry_has P Q a b (suc k) p q =
    (bit a k, bit b k, carry_into a b k, (may_has P a k p, may_has Q b k q, carry_has P Q a b k p q, refl))

carry_small : (P Q : Bytes) (k w : ℕ) → MayCarry P Q k w → w ≤ 1
carry_small P Q zero w m = omega arith
carry_small P Q (suc k) w (u, v, c, ((a, (p, ea)), (b, (q, eb)), m, e)) = omega (arith, carry_small P Q k c m)

carry_bits : (P Q : Bytes) (w k : ℕ) → MayCarry P Q 8 w → TwoMay carry P Q k (bit w k)
carry_bits P Q w zero m = let e : w ≡ bit w 0 = omega (arith, carry_small P Q 8 w m) in subst (MayCarry P Q 8) e m
carry_bits P Q w (suc k) m = bit_at_above w 1 (suc k) (omega (arith, carry_small P Q 8 w m)) (omega arith)

one_may_has : (f : One) (P : Bytes) (a k : ℕ) → a < 256 → k < 8 → P a → OneMay f P k (bit (one f a) k)
one_may_has (rotate n) P a k ha hk p = (a, (p, sym (bit-rotated (n % 8) a k (omega arith) ha hk)))
one_may_has (keep n) P a k ha hk p =
    let m = kept_bits (n % 8) in
    (λ h. (a, (p, sym (bit_mod a m k h))), λ h. bit_mod_past a m k h)

two_may_has : (f : Two) (P Q : Bytes) (a b k : ℕ) → a < 256 → b < 256 → k < 8 → P a → Q b → TwoMay f P Q k (bit (two f a b) k)
two_may_has and P Q a b k ha hb hk p q =
    (bit a k, bit b k, (may_has P a k p, may_has Q b k q, bit_at_and a b k ∙ sym (mul_bits (bit a k) (bit b k) (omega arith) (omega arith))))
two_may_has xor P Q a b k ha hb hk p q = (bit a k, bit b k, (may_has P a k p, may_has Q b k q, bit_at_xor a b k))
two_may_has sum P Q a b k ha hb hk p q =
    (bit a k, bit b k, carry_into a b k, (may_has P a k p, may_has Q b k q, carry_has P Q a b k p q, bit_mod (a + b) 8 k hk ∙ bit_add a b k))
two_may_has carry P Q a b k ha hb hk p q =
    carry_bits P Q ((a + b) / 256) k (subst (MayCarry P Q 8) (carry_out a b ha hb) (carry_has P Q a b 8 p q))

pub one_below : (f : One) (a : ℕ) → a < 256 → one f a < 256
one_below (rotate n) a h = omega arith
one_below (keep n) a h = omega (arith, mod-le a (2 ^ kept_bits (n % 8)))

pub two_below : (f : Two) (a b : ℕ) → a < 256 → b < 256 → two f a b < 256
two_below and a b ha hb = omega (arith, and_le_l a b)
two_below xor a b ha hb = xor_lt 8 a b ha hb
two_below sum a b ha hb = omega arith
two_below carry a b ha hb = omega arith

-- a kind with these operations is lawful, if its operands have members and all are bytes
pub mays_lawful : {K : Type 0} (has : K → Bytes) (some : K) → ((x : K) (b : ℕ) → has x b → b < 256) → ((x : K) → (b : ℕ) × has x b) → Lawful (mays has some)
mays_lawful has some bytes member =
    record {
      bytes = bytes;
      member = member;
      one_has = λ f P a h p. (one_below f a h, λ k g. one_may_has f P a k h g p);
      two_has = λ f P Q a b ha hb p q. (two_below f a b ha hb, λ k g. two_may_has f P Q a b k ha hb g p q);
      one_inside = λ f P U i. marked_inside (OneMay f P) (OneMay f U) (λ k v _. one_may_inside f P U i k v);
      two_inside = λ f P Q U V i j. marked_inside (TwoMay f P Q) (TwoMay f U V) (λ k v _. two_may_inside f P Q U V i j k v);
    }
