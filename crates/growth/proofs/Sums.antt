-- Sums over the numbers below a bound. Assumes nothing.
use Rattle.std.proofs.Common.{◌≡◌, ℕ, zero, suc, ◌*◌, ◌<◌, ◌≤◌, refl, ap, ⊎_elim, suc-mul, arith}
use Rattle.std.proofs.lemmas.Bool.{cases_lt}
use Rattle.growth.specs.Measures.{sum_below}

pub sum_same : (n : ℕ) (f h : ℕ → ℕ) → ((k : ℕ) → k < n → f k ≡ h k) → sum_below n f ≡ sum_below n h
sum_same zero f h e = refl
sum_same (suc n) f h e = omega (arith, e n (omega arith), sum_same n f h (λ k l. e k (omega arith)))

pub sum_le : (n : ℕ) (f h : ℕ → ℕ) → ((k : ℕ) → k < n → f k ≤ h k) → sum_below n f ≤ sum_below n h
sum_le zero f h e = omega arith
sum_le (suc n) f h e = omega (arith, e n (omega arith), sum_le n f h (λ k l. e k (omega arith)))

pub sum_bound : (n m : ℕ) (f : ℕ → ℕ) → ((k : ℕ) → f k ≤ m) → sum_below n f ≤ n * m
sum_bound zero m f h = omega arith
sum_bound (suc n) m f h = omega (arith, h n, sum_bound n m f h, suc-mul n m)

-- nowhere more, and less in one place
pub sum_lt : (n : ℕ) (f h : ℕ → ℕ) (p : ℕ) → p < n → f p < h p → ((k : ℕ) → k < n → f k ≤ h k) → sum_below n f < sum_below n h
sum_lt zero f h p l d e = absurd (omega arith)
sum_lt (suc n) f h p l d e =
    ⊎_elim
    (λ lt. omega (arith, e n (omega arith), sum_lt n f h p lt d (λ k l. e k (omega arith))))
    (λ ge. let z : p ≡ n = omega arith in omega (arith, ap f z, ap h z, sum_le n f h (λ k l. e k (omega arith))))
    (cases_lt p n)
