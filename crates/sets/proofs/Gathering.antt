-- A loop that gathers, from each member of a set, a part of the answer. Assumes nothing.
--   Gathered xs Part rest n   n has only parts of the members of xs, and every part of those that are not in rest
use Rattle.std.proofs.Common.{◌≡◌, ℕ, ◌+◌, ◌-◌, ◌^◌, ◌<◌, ◌⊎◌, sym, refl, subst, inl, inr, ⊎_elim}
use lib.Bits.{bit_or}
use Rattle.operands.specs.Bytes.{Bytes, Same, Every}
use Rattle.sets.specs.Numbers.{In}
use Rattle.sets.proofs.Highest.{in_top}
use Rattle.sets.proofs.Unions.{same_from_number, in_or, in_or_left, in_or_right, in_zero, in_all}

abbrev pub From : ℕ → (ℕ → Bytes) → Bytes
From xs Part k = (a : ℕ) × (In xs a × Part a k)

abbrev pub Gathered : ℕ → (ℕ → Bytes) → ℕ → ℕ → Type 0
Gathered xs Part rest n =
    ((k : ℕ) → In n k → From xs Part k) × ((a k : ℕ) → In xs a → Part a k → In n k ⊎ In rest a) × ((a : ℕ) → In rest a → In xs a)

module _ (xs : ℕ) (Part : ℕ → Bytes) where
  more : (n a others m : ℕ) → others < 2 ^ a → Gathered xs Part (2 ^ a + others) n → Same (In m) (Part a) → Gathered xs Part others (bit_or n m)
  more n a others m small g s =
      let top = in_top a others small in (
        (λ k h. ⊎_elim (g.0 k) (λ new. (a, (g.2 a (top.1 a (inl refl)), s.0 k new))) (in_or n m k h)),
        (λ b k h p. ⊎_elim
            (λ old. inl (in_or_left n m k old))
            (λ left. ⊎_elim
            (λ e. inl (in_or_right n m k (s.1 k (subst (λ z. Part z k) e p))))
            inr
            (top.0 b left))
            (g.1 b k h p)),
        (λ b h. g.2 b (top.1 b (inr h))),
      )

  -- the part of the greatest member that is left is added
  pub gathered_more : (rest n a others m next : ℕ) → rest ≡ 2 ^ a + others → others < 2 ^ a → next ≡ bit_or n m →
      Gathered xs Part rest n → Same (In m) (Part a) → Gathered xs Part others next
  gathered_more rest n a others m next e small f g s =
      let Before : ℕ → Type 0 = λ z. Gathered xs Part z n in
      subst (Gathered xs Part others) (sym f) (more n a others m small (subst Before e g) s)

  -- all bytes are there, and no part has another
  pub gathered_full : (rest n : ℕ) → n ≡ 2 ^ 256 - 1 → ((a k : ℕ) → In xs a → Part a k → k < 256) → Gathered xs Part rest n → Same (In n) (From xs Part)
  gathered_full rest n e small g =
      (g.0, λ k (a, (h, p)). (same_from_number n (2 ^ 256 - 1) Every e in_all).1 k (small a k h p))

  -- no member is left
  pub gathered_done : (rest n : ℕ) → rest ≡ 0 → Gathered xs Part rest n → Same (In n) (From xs Part)
  gathered_done rest n e g =
      (g.0, λ k (a, (h, p)). ⊎_elim (λ i. i) (λ left. absurd (in_zero a (subst (λ z. In z a) e left))) (g.1 a k h p))
