-- Growth gets lighter, and leaves alone what it should. Assumes nothing.
use Rattle.std.proofs.Common.{◌≡◌, ℕ, ◌+◌, ◌-◌, ◌*◌, ◌/◌, ◌%◌, ◌<◌, ◌≤◌, cond, List, length, get_or, Option, sym, refl, ap, ◌∙◌, subst, ⊎_elim, arith}
use Rattle.std.proofs.lemmas.Bool.{cases_eq, eq-eqb}
use Rattle.instructions.specs.declared.instruction.Instruction.{Instruction}
use Rattle.operands.specs.Bytes.{Bytes}
use Rattle.operands.specs.Operations.{Operations}
use Rattle.flow.specs.declared.entry.Entry.{Entry}
use Rattle.growth.specs.Measures.{marks_in, weight, ranks_at, weight_at, load}
use Rattle.growth.specs.Memory.{Kept}
use Rattle.growth.specs.Growth.{Due, Flowed, Sent, Went}
use Rattle.growth.proofs.Sums.{sum_same, sum_lt}
use Rattle.growth.proofs.Sending.{flowed_odd, sent_cases}
use Rattle.growth.proofs.Midway.{left_low, right_low, taken_up, taken_here, taken_other}

weight_drops : (most b r : ℕ) → Due b → weight most (b % 8) r < weight most b r
weight_drops most b r due =
    let low : b % 8 % 2 ≡ 1 = omega arith in
    let marks : marks_in (b % 8) ≡ marks_in b = omega (arith, left_low b due.0 due.1.0, right_low b due.0 due.1.0) in
    subst (λ z. cond z (2 * (most - (r + marks_in (b % 8))) + b % 8 / 8) (2 * most + 2) < weight most b r) (sym (eq-eqb _ _ low))
    (subst (λ z. 2 * (most - (r + marks_in (b % 8))) + b % 8 / 8 < cond z (2 * (most - (r + marks_in b)) + b / 8) (2 * most + 2)) (sym (eq-eqb _ _ due.1.1))
    (subst (λ z. 2 * (most - (r + z)) + b % 8 / 8 < 2 * (most - (r + marks_in b)) + b / 8) (sym marks) (omega arith)))

module _ {K : Type 0} (o : Operations K) (n : ℕ) where
  pub kept_same : (status : List ℕ) (operands : List K) → Kept o n status operands status operands
  kept_same status operands = record { past = λ p h. (refl, λ r k. refl); bare = λ p e. (e, λ r k. refl) }

  pub kept_then : (s0 : List ℕ) (c0 : List K) (s1 : List ℕ) (c1 : List K) (s2 : List ℕ) (c2 : List K) → Kept o n s0 c0 s1 c1 → Kept o n s1 c1 s2 c2 → Kept o n s0 c0 s2 c2
  kept_then s0 c0 s1 c1 s2 c2 a b =
      record {
        past = λ p h. let x = a.past p h in let y = b.past p h in (y.0 ∙ x.0, λ r k. y.1 r k ∙ x.1 r k);
        bare = λ p e. let y = b.bare p e in let x = a.bare p y.0 in (x.0, λ r k. y.1 r k ∙ x.1 r k);
      }

module _ {K : Type 0} (o : Operations K) (rank : K → ℕ) (top n : ℕ) where
  -- no word got heavier, and what has no part in it is as it was
  pub record Eased (status : List ℕ) (operands : List K) (status' : List ℕ) (operands' : List K) : Type 0 where
    pub kept : Kept o n status operands status' operands'
    pub lighter : (x : ℕ) → x < n → weight_at o rank top status' operands' x ≤ weight_at o rank top status operands x

  pub eased_same : (status : List ℕ) (operands : List K) → Eased status operands status operands
  eased_same status operands = record { kept = kept_same o n status operands; lighter = λ x h. omega arith }

  pub eased_then : (s0 : List ℕ) (c0 : List K) (s1 : List ℕ) (c1 : List K) (s2 : List ℕ) (c2 : List K) → Eased s0 c0 s1 c1 → Eased s1 c1 s2 c2 → Eased s0 c0 s2 c2
  eased_then s0 c0 s1 c1 s2 c2 a b =
      record { kept = kept_then o n s0 c0 s1 c1 s2 c2 a.kept b.kept; lighter = λ x h. omega (arith, a.lighter x h, b.lighter x h) }

  module _ (joined : K → K → Bytes) where
    pub eased_flow : (q : ℕ) (e : Entry K) (status : List ℕ) (operands : List K) (status' : List ℕ) (operands' : List K) → q < n → Flowed o joined rank top q e status operands status' operands' → Eased status operands status' operands'
    eased_flow q e status operands status' operands' lq f =
        record {
          kept = record {
            past = λ p h. f.rest p (omega arith);
            bare = λ p even.
                ⊎_elim
                (λ z. absurd (omega (arith, flowed_odd o joined rank top q e status operands status' operands' f, subst (λ y. get_or status' y 0 % 2 ≡ 0) z even)))
                (λ k. let s = f.rest p k in (sym (ap (λ b. b % 2) s.0) ∙ even, s.1))
                (cases_eq p q);
          };
          lighter = λ x h.
              ⊎_elim
              (λ z. subst (λ y. weight_at o rank top status' operands' y ≤ weight_at o rank top status operands y) (sym z) f.lighter)
              (λ k.
              let s = f.rest x k in
              let ranks : ranks_at o rank operands' x ≡ ranks_at o rank operands x =
              sum_same 16 (λ r. rank (get_or operands' (16 * x + r) o.some)) (λ r. rank (get_or operands (16 * x + r) o.some)) (λ r j. ap rank (s.1 r j)) in
              subst (λ b. weight (16 * top + 2) b (ranks_at o rank operands' x) ≤ weight_at o rank top status operands x) (sym s.0)
              (subst (λ z. weight (16 * top + 2) (get_or status x 0) z ≤ weight_at o rank top status operands x) (sym ranks) (omega arith)))
              (cases_eq x q);
        }

    eased_sent : (low : ℕ) (target : Option ℕ) (e : Entry K) (status : List ℕ) (operands : List K) (low' : ℕ) (status' : List ℕ) (operands' : List K) → Sent o joined rank top n low target e status operands low' status' operands' → Eased status operands status' operands'
    eased_sent low target e status operands low' status' operands' s =
        sent_cases o joined rank top n low target e status operands low' status' operands' (λ b c. Eased status operands b c)
        (λ none. eased_same status operands)
        (λ q is lt f. eased_flow q e status operands status' operands' lt f)
        s

    pub eased_went : (p low : ℕ) (i : Instruction) (e : Entry K) (status : List ℕ) (operands : List K) (low' : ℕ) (status' : List ℕ) (operands' : List K) → Went o joined rank top n p low i e status operands low' status' operands' → Eased status operands status' operands'
    eased_went p low i e status operands low' status' operands' w =
        eased_then status operands w.status_between w.operands_between status' operands' (eased_sent low w.on w.new status operands _ _ _ w.sent_on) (eased_sent _ w.jump w.new _ _ low' status' operands' w.sent_off)

  module _ (p : ℕ) (status : List ℕ) (operands : List K) (ls : p < length status) (due : Due (get_or status p 0)) where
    pub taken_lighter : weight_at o rank top (taken_up status p) operands p < weight_at o rank top status operands p
    taken_lighter =
        subst (λ b. weight (16 * top + 2) b (ranks_at o rank operands p) < weight_at o rank top status operands p) (sym (taken_here p status ls))
        (weight_drops (16 * top + 2) (get_or status p 0) (ranks_at o rank operands p) due)

    pub taken_eased : p < n → Eased status operands (taken_up status p) operands
    taken_eased lp =
        record {
          kept = record {
            past = λ x h. (taken_other p status ls x (omega arith), λ r k. refl);
            bare = λ x even. (
              ⊎_elim (λ z. absurd (omega (arith, subst (λ y. get_or (taken_up status p) y 0 % 2 ≡ 0) z even, ap (λ b. b % 2) (taken_here p status ls))))
                  (λ k. sym (ap (λ b. b % 2) (taken_other p status ls x k)) ∙ even) (cases_eq x p),
              λ r k. refl,
            );
          };
          lighter = λ x h.
              ⊎_elim (λ z. subst (λ y. weight_at o rank top (taken_up status p) operands y ≤ weight_at o rank top status operands y) (sym z) (omega (arith, taken_lighter)))
              (λ k. subst (λ b. weight (16 * top + 2) b (ranks_at o rank operands x) ≤ weight_at o rank top status operands x) (sym (taken_other p status ls x k)) (omega arith))
              (cases_eq x p);
        }

  -- a lighter word makes a lighter load
  pub load_falls : (p : ℕ) (s0 : List ℕ) (c0 : List K) (s1 : List ℕ) (c1 : List K) (s2 : List ℕ) (c2 : List K) → p < n → weight_at o rank top s1 c1 p < weight_at o rank top s0 c0 p → Eased s0 c0 s1 c1 → Eased s1 c1 s2 c2 → load o rank top n s2 c2 < load o rank top n s0 c0
  load_falls p s0 c0 s1 c1 s2 c2 lp d a b =
      sum_lt n (weight_at o rank top s2 c2) (weight_at o rank top s0 c0) p lp (omega (arith, b.lighter p lp)) (λ k h. omega (arith, a.lighter k h, b.lighter k h))
