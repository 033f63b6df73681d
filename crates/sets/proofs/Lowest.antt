-- The least member of a set. Assumes nothing.
use Rattle.std.proofs.Common.{ℕ, ◌^◌, ◌<◌, ◌≤◌, ⊎_elim, arith}
use Rattle.std.specs.Int.{w128, trailing_zeros}
use Rattle.std.proofs.lemmas.Bool.{cases_lt}
use Rattle.std.proofs.lemmas.Nat.Bits.{bit_at-trailing_zeros}
use Rattle.sets.specs.Numbers.{In}

abbrev pub Least : ℕ → ℕ → Type 0
Least n b = In n b × ((k : ℕ) → In n k → b ≤ k)

pub trailing_least : (n : ℕ) → 0 < n → n < 2 ^ 128 → (trailing_zeros w128 n < 128) × Least n (trailing_zeros w128 n)
trailing_least n p h =
    let t = bit_at-trailing_zeros w128 n p h in
    (t.0, (t.1, λ k i. ⊎_elim (λ lt. absurd (omega (arith, i, t.2 k lt))) (λ ge. ge) (cases_lt k (trailing_zeros w128 n))))
