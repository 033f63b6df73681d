-- What sending an entry to a word leaves. Assumes nothing.
use Rattle.std.proofs.Common.{◌≡◌, ℕ, ◌/◌, ◌%◌, ◌<◌, ◌≤◌, true, eqb, ◌⊎◌, List, get_or, Some, None, Option, sym, refl, ap, ◌∙◌, subst, inl, inr, ⊎_elim, arith}
use Rattle.std.proofs.lemmas.Bool.{cases_lt, cases_eq, eqb-true, eq-eqb}
use Rattle.operands.specs.Bytes.{Bytes}
use Rattle.operands.specs.Operations.{Operations}
use Rattle.flow.specs.declared.entry.Entry.{Entry}
use Rattle.flow.specs.States.{Alike, Fits}
use Rattle.flow.specs.Tables.{holds, table_of, Under}
use Rattle.growth.specs.Memory.{SameAt}
use Rattle.growth.specs.Growth.{Due, Flowed, Sent}
use Rattle.growth.proofs.Seen.{seen_same}

module _ {K : Type 0} (o : Operations K) where
  pub alike_at : (status : List ℕ) (operands : List K) (status' : List ℕ) (operands' : List K) (x : ℕ) → get_or status' x 0 ≡ get_or status x 0 → SameAt o operands operands' x
      → Alike (holds o (table_of o status' operands') x) (holds o (table_of o status operands) x)
  alike_at status operands status' operands' x e same =
      let left = ap (λ b. eqb (b / 2 % 2) 1) e in
      let right = ap (λ b. eqb (b / 4 % 2) 1) e in
      (seen_same o _ _ _ _ _ _ same left right, seen_same o _ _ _ _ _ _ (λ r h. sym (same r h)) (sym left) (sym right))

  module _ (joined : K → K → Bytes) (rank : K → ℕ) (top : ℕ) where
    module _ (q : ℕ) (e : Entry K) (status : List ℕ) (operands : List K) (status' : List ℕ) (operands' : List K) (f : Flowed o joined rank top q e status operands status' operands') where
      pub flowed_odd : get_or status' q 0 % 2 ≡ 1
      flowed_odd = ⊎_elim (λ a. a.1.1) (λ a. ap (λ b. b % 2) a.0 ∙ a.1.0) f.entered

      pub flowed_under : (n : ℕ) → Under o n (table_of o status operands) (table_of o status' operands')
      flowed_under n x lt odd =
          ⊎_elim
          (λ z.
          let was : get_or status q 0 % 2 ≡ 1 = subst (λ y. get_or status y 0 % 2 ≡ 1) z (eqb-true _ _ odd) in
          subst (λ y. (eqb (get_or status' y 0 % 2) 1 ≡ true) × Fits (holds o (table_of o status operands) y) (holds o (table_of o status' operands') y)) (sym z)
          (eq-eqb _ _ flowed_odd, f.first was))
          (λ n. let s = f.rest x n in (ap (λ b. eqb (b % 2) 1) s.0 ∙ odd, (alike_at status operands status' operands' x s.0 s.1).1))
          (cases_eq x q)

      -- either a word is due, or nothing about it changed
      pub due_or_same : (x : ℕ) → Due (get_or status' x 0) ⊎ ((get_or status' x 0 ≡ get_or status x 0) × SameAt o operands operands' x)
      due_or_same x =
          ⊎_elim
          (λ z.
          subst (λ y. Due (get_or status' y 0) ⊎ ((get_or status' y 0 ≡ get_or status y 0) × SameAt o operands operands' y)) (sym z)
          (⊎_elim (λ a. inl a) (λ a. inr (a.0, a.1.1)) f.entered))
          (λ n. inr (f.rest x n))
          (cases_eq x q)

    -- either nothing was sent, or an entry was sent to a word below n
    pub sent_cases : (n low : ℕ) (target : Option ℕ) (e : Entry K) (status : List ℕ) (operands : List K) (low' : ℕ) (status' : List ℕ) (operands' : List K) (P : List ℕ → List K → Type 0)
        → (((q : ℕ) → target ≡ Some q → q < n → ⊥) → P status operands)
        → ((q : ℕ) → target ≡ Some q → q < n → Flowed o joined rank top q e status operands status' operands' → P status' operands')
        → Sent o joined rank top n low target e status operands low' status' operands' → P status' operands'
    sent_cases n low target e status operands low' status' operands' P stays flows s = by target refl
      where
        same : ((q : ℕ) → target ≡ Some q → q < n → ⊥) → P status' operands'
        same none =
            let kept = s.still none in
            subst (λ c. P status' c) (sym kept.1) (subst (λ b. P b operands) (sym kept.0) (stays none))

        by : (t : Option ℕ) → target ≡ t → P status' operands'
        by None is = same (λ q z h. let y : ◌≡◌ {A = ℕ} 0 1 = cc in omega arith)
        by (Some q) is =
            ⊎_elim (λ lt. flows q is lt (s.flowed q is lt))
            (λ far. same (λ x z h. let y : q ≡ x = cc in omega arith))
            (cases_lt q n)

    pub sent_flowed : (n low : ℕ) (target : Option ℕ) (e : Entry K) (status : List ℕ) (operands : List K) (low' : ℕ) (status' : List ℕ) (operands' : List K) (q : ℕ) → target ≡ Some q → q < n → low' ≤ low → low' ≤ q
        → Flowed o joined rank top q e status operands status' operands' → Sent o joined rank top n low target e status operands low' status' operands'
    sent_flowed n low target e status operands low' status' operands' q is lt under below f =
        record {
          flowed = λ x z h. let y : q ≡ x = cc in subst (λ k. Flowed o joined rank top k e status operands status' operands') y f;
          still = λ none. absurd (none q is lt);
          quiet = λ quiet k h. subst (λ b. b < 8) (sym (f.rest k (omega arith)).0) (quiet k (omega arith));
        }
