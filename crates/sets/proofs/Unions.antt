-- Members of unions and of sets of one byte. Assumes nothing.
use Rattle.std.proofs.Common.{◌≡◌, ℕ, ◌-◌, ◌^◌, ◌<◌, ◌⊎◌, sym, refl, ap, ◌∙◌, subst, inl, inr, ⊎_elim, arith}
use lib.Bits.{bit_or}
use Rattle.std.proofs.lemmas.Bool.{cases_eq}
use Rattle.operands.specs.Bytes.{Bytes, Only, Every, Same, Two, two}
use Rattle.operands.specs.Exact.{exact_twos}
use Rattle.bits.specs.Bits.{bit}
use Rattle.std.proofs.lemmas.Nat.Bits.{bit_at_or, bit_at-pow_same, bit_at-pow_other, bit_at-zero, bit_at_ones}
use Rattle.sets.specs.Numbers.{In, number, in_below, in_highest}
use Rattle.sets.specs.Sets.{set_has}
use Rattle.sets.specs.declared.set.Set.{Set}
use Rattle.sets.specs.Steps.{Image}

-- equal numbers have the same members
pub same_from_number : (n m : ℕ) (Q : Bytes) → n ≡ m → Same (In m) Q → Same (In n) Q
same_from_number n m Q e s = let Goal : ℕ → Type 0 = λ z. Same (In z) Q in subst Goal (sym e) s

pub in_or : (a b k : ℕ) → In (bit_or a b) k → In a k ⊎ In b k
in_or a b k h =
    ⊎_elim inl (λ n. inr (omega (arith, h, n, bit_at_or a b k))) (cases_eq (bit a k) 1)

pub in_or_left : (a b k : ℕ) → In a k → In (bit_or a b) k
in_or_left a b k h = omega (arith, h, bit_at_or a b k)

pub in_or_right : (a b k : ℕ) → In b k → In (bit_or a b) k
in_or_right a b k h = omega (arith, h, bit_at_or a b k)

pub in_zero : (k : ℕ) → In 0 k → ⊥
in_zero k h = omega (arith, h, bit_at-zero k)

pub pos_from_in : (n k : ℕ) → In n k → 0 < n
pos_from_in n k h = ⊎_elim (λ e. absurd (in_zero k (ap (λ m. bit m k) (sym e) ∙ h))) (λ n. omega arith) (cases_eq n 0)

-- the one bit of a power of two is the one member
pub in_pow : (j : ℕ) → Same (In (2 ^ j)) (Only j)
in_pow j = (
  (λ k h. ⊎_elim (λ e. e) (λ n. absurd (omega (arith, h, bit_at-pow_other j k n))) (cases_eq k j)),
  (λ k e. ap (bit (2 ^ j)) e ∙ bit_at-pow_same j),
)

pub in_all : Same (In (2 ^ 256 - 1)) Every
in_all = (λ k. in_below 256 (2 ^ 256 - 1) k (omega arith), λ k. bit_at_ones 256 k)

pub in_or_same : (a b : ℕ) → Same (In (bit_or a b)) (λ k. In a k ⊎ In b k)
in_or_same a b = (in_or a b, λ k h. ⊎_elim (in_or_left a b k) (in_or_right a b k) h)

-- what is given from members has members
pub image_some : (f : ℕ → ℕ) (n m : ℕ) → 0 < n → n < 2 ^ 256 → Same (In m) (Image f (In n)) → 0 < m
image_some f n m p h s =
    let a = in_highest 256 n p h in
    pos_from_in m (f a.0) (s.1 (f a.0) (a.0, (a.1, refl)))

-- what is given from two sets that have members has members
pub twos_some : (f : Two) (x y : Set) (m : ℕ) → Same (In m) (exact_twos f (set_has x) (set_has y)) → 0 < m
twos_some f x y m s =
    let a = in_highest 256 (number x.bits) x.some x.fits in
    let b = in_highest 256 (number y.bits) y.some y.fits in
    pos_from_in m (two f a.0 b.0) (s.1 (two f a.0 b.0) (a.0, b.0, (a.1, (b.1, refl))))
