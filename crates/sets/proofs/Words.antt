-- Sets are equal as numbers where both words are. Assumes nothing.
use Rattle.std.proofs.Common.{◌≡◌, ℕ, ◌^◌, ◌<◌, Bool, Decides, arith}
use Rattle.sets.specs.declared.bitset.Bits.{Bits}
use Rattle.sets.specs.Numbers.{number}

pub number_differs : (x y : Bits) (r : Bool) → x.low < 2 ^ 128 → y.low < 2 ^ 128 → Decides r ((x.low ≡ y.low) × (x.high ≡ y.high) → ⊥)
    → Decides r (number x ≡ number y → ⊥)
number_differs x y r hx hy d =
    (λ t e. d.0 t (omega arith, omega arith), λ n. d.1 (λ (p, q). n (omega arith)))

pub number_is : (x y : Bits) (r : Bool) (n : ℕ) → x.low < 2 ^ 128 → y.low < 2 ^ 128 → number y ≡ n → Decides r ((x.low ≡ y.low) × (x.high ≡ y.high)) → Decides r (number x ≡ n)
number_is x y r n hx hy e d =
    (λ t. let w = d.0 t in omega (arith, w.0, w.1), λ i. d.1 (omega arith, omega arith))
