-- A union is one of its sets, or has more members than it. Assumes nothing.
use Rattle.std.proofs.Common.{◌≡◌, ℕ, zero, suc, ◌+◌, ◌/◌, ◌%◌, ◌^◌, ◌<◌, ◌⊎◌, sym, ap, ◌∙◌, inl, inr, ⊎_elim, pow-suc, arith}
use lib.Bits.{bit_or, or_step, or_add_and}
use lib.Count.{ones, ones_step}
use Rattle.std.proofs.lemmas.Bool.{cases_lt}
use Rattle.sets.specs.Numbers.{In}
use Rattle.std.proofs.lemmas.Nat.Bits.{bit_at-suc}

-- the members of n and of m, and one of them that n lacks
abbrev pub More : ℕ → ℕ → Type 0
More n m = (b : ℕ) × ((In n b ⊎ In m b) × (In n b → ⊥))

more_half : (n m : ℕ) → More (n / 2) (m / 2) → More n m
more_half n m (b, (h, out)) =
    (suc b, (⊎_elim (λ p. inl (bit_at-suc n b ∙ p)) (λ q. inr (bit_at-suc m b ∙ q)) h, λ p. out (sym (bit_at-suc n b) ∙ p)))

pub or_more : (w n m : ℕ) → n < 2 ^ w → m < 2 ^ w → (bit_or n m ≡ n) ⊎ ((ones n < ones (bit_or n m)) × More n m)
or_more zero n m hn hm = inl (omega (arith, or_add_and n m))
or_more (suc w) n m hn hm =
    let d = pow-suc 2 w in
    let o = or_step n m in
    let half : bit_or n m / 2 ≡ bit_or (n / 2) (m / 2) = omega arith in
    let a = ones_step n in
    let b : ones (bit_or n m) ≡ bit_or n m % 2 + ones (bit_or (n / 2) (m / 2)) = ones_step (bit_or n m) ∙ ap (λ z. bit_or n m % 2 + ones z) half in
    ⊎_elim
    (λ e. ⊎_elim
    (λ lt.
    let c : ones (bit_or (n / 2) (m / 2)) ≡ ones (n / 2) = ap ones e in
    inr (omega arith, (0, (inr (omega arith), λ p. omega arith))))
    (λ ge. inl (omega arith))
    (cases_lt (n % 2) (m % 2)))
    (λ t. inr (omega (arith, t.0), more_half n m t.1))
    (or_more w (n / 2) (m / 2) (omega arith) (omega arith))
