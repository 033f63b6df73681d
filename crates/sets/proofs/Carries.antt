-- The least and the greatest members give all carries. Assumes nothing.
use Rattle.std.proofs.Common.{◌≡◌, ℕ, ◌+◌, ◌-◌, ◌*◌, ◌^◌, ◌<◌, ◌≤◌, sym, refl, subst, inl, inr, ⊎_elim, arith}
use lib.Bits.{bit_or}
use Rattle.std.proofs.lemmas.Bool.{cases_eq}
use Rattle.operands.specs.Bytes.{Same, two}
use Rattle.operands.specs.Bytes.Two.{carry}
use Rattle.operands.specs.Exact.{exact_twos}
use Rattle.sets.specs.Numbers.{In}
use Rattle.sets.proofs.Lowest.{Least}
use Rattle.sets.proofs.Highest.{in_top, top_most}
use Rattle.sets.proofs.Unions.{in_or_same, in_pow}

-- h is the greatest member
abbrev pub Greatest : ℕ → ℕ → Type 0
Greatest n h = In n h × ((k : ℕ) → In n k → k ≤ h)

pub greatest_from_top : (n h : ℕ) → 2 ^ h ≤ n → n < 2 * 2 ^ h → Greatest n h
greatest_from_top n h le lt =
    let others : ℕ = n - 2 ^ h in
    let e : n ≡ 2 ^ h + others = omega arith in
    let small : others < 2 ^ h = omega arith in
    let At : ℕ → Type 0 = λ z. Greatest z h in
    subst At (sym e) ((in_top h others small).1 h (inl refl), top_most h others small)

module _ (n m la lb ha hb : ℕ) (a : Least n la) (b : Least m lb) (c : Greatest n ha) (d : Greatest m hb) (sa : ha < 256) (sb : hb < 256) where
  pub carries_same : Same (In (bit_or (2 ^ two carry la lb) (2 ^ two carry ha hb))) (exact_twos carry (In n) (In m))
  carries_same =
      let least = two carry la lb in
      let most = two carry ha hb in
      let both = in_or_same (2 ^ least) (2 ^ most) in (
        (λ k h. ⊎_elim
            (λ i. (la, lb, (a.0, (b.0, (in_pow least).0 k i))))
            (λ i. (ha, hb, (c.0, (d.0, (in_pow most).0 k i))))
            (both.0 k h)),
        (λ k (x, y, (p, (q, e))).
            let ax = a.1 x p in
            let bx = b.1 y q in
            let cx = c.1 x p in
            let dx = d.1 y q in
            both.1 k (⊎_elim
            (λ is. inl ((in_pow least).1 k is))
            (λ (not : k ≡ least → ⊥). inr ((in_pow most).1 k (omega arith)))
            (cases_eq k least))),
      )
