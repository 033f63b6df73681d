-- The greatest member of a set, and the others. Assumes nothing.
use Rattle.std.proofs.Common.{◌≡◌, ℕ, suc, ◌+◌, ◌*◌, ◌^◌, ◌<◌, ◌≤◌, ◌⊎◌, sym, ap, ◌∙◌, inl, inr, ⊎_elim, pow-suc, arith}
use Rattle.std.proofs.lemmas.Bool.{cases_order}
use Rattle.operands.specs.Bytes.{Same}
use Rattle.bits.specs.Bits.{bit}
use Rattle.sets.specs.Numbers.{In, in_below}
use Rattle.std.proofs.lemmas.Nat.Bits.{bit_at_cat_low}
use Rattle.sets.proofs.Halves.{bit_high}

module _ (a others : ℕ) (small : others < 2 ^ a) where
  one_top : 2 ^ a + others ≡ 1 * 2 ^ a + others
  one_top = omega arith

  bit_top : bit (2 ^ a + others) a ≡ 1
  bit_top =
      let e : a + 0 ≡ a = omega arith in
      ap (λ n. bit n a) one_top ∙ ap (bit (1 * 2 ^ a + others)) (sym e) ∙ bit_high a 1 others small 0

  bit-others : (k : ℕ) → k < a → bit (2 ^ a + others) k ≡ bit others k
  bit-others k lt = ap (λ n. bit n k) one_top ∙ bit_at_cat_low 1 a others k lt

  pub top_most : (k : ℕ) → In (2 ^ a + others) k → k ≤ a
  top_most k h = omega (arith, in_below (suc a) (2 ^ a + others) k (omega (arith, small, pow-suc 2 a)) h)

  -- the members are the greatest and the others
  pub in_top : Same (In (2 ^ a + others)) (λ k. (k ≡ a) ⊎ In others k)
  in_top = (
    (λ k h. ⊎_elim inl
        (⊎_elim (λ lt. inr (sym (bit-others k lt) ∙ h)) (λ gt. absurd (omega (arith, top_most k h))))
        (cases_order k a)),
    (λ k h. ⊎_elim
        (λ e. ap (bit (2 ^ a + others)) e ∙ bit_top)
        (λ i. bit-others k (in_below a others k small i) ∙ i)
        h),
  )
