-- Nothing smaller keeps the rules: a growing table stays inside every table that does, where joins are least. Assumes nothing.
use Rattle.std.proofs.Common.{◌≡◌, ℕ, ◌%◌, ◌<◌, true, eqb, List, length, get_or, Some, Option, sym, ap, ◌∙◌, subst, inl, inr, ⊎_elim}
use Rattle.std.proofs.lemmas.Bool.{cases_eq, eq-eqb}
use Rattle.instructions.specs.declared.instruction.Instruction.{Instruction}
use Rattle.words.specs.Code.{words_in}
use Rattle.operands.specs.Bytes.{Bytes}
use Rattle.operands.specs.Operations.{Operations, Lawful}
use Rattle.flow.specs.declared.entry.Entry.{Entry}
use Rattle.flow.specs.States.{Fits, Alike, after}
use Rattle.flow.specs.Ways.{Runs, Next}
use Rattle.flow.specs.Tables.{Table, holds, table_of, Rules, Under}
use Rattle.flow.specs.Entries.{allows}
use Rattle.flow.proofs.Monotone.{after_more, next_more, runs_more, fits_then}
use Rattle.growth.specs.Growth.{JoinIsLeast, Due, Flowed, Sent, Went}
use Rattle.growth.proofs.Sending.{alike_at, sent_cases}
use Rattle.growth.proofs.Midway.{taken_up, taken_entry, taken_alike}

module _ {K : Type 0} (o : Operations K) (l : Lawful o) (code : List ℕ) (u : Table K) (rules : Rules o code u) where
  -- the table lies inside u, and so does the entry e of the word p, which is being sent on
  pub record Beneath (p : ℕ) (e : Entry K) (status : List ℕ) (operands : List K) : Type 0 where
    pub under : Under o (words_in code) (table_of o status operands) u
    pub from : (u.entry p ≡ true) × Fits (allows o e) (holds o u p)

  pub beneath_start : (p : ℕ) (e : Entry K) (status : List ℕ) (operands : List K) → p < words_in code → p < length status → Due (get_or status p 0) → Alike (allows o e) (holds o (table_of o status operands) p)
      → Under o (words_in code) (table_of o status operands) u → Beneath p e (taken_up status p) operands
  beneath_start p e status operands lp ls due save under =
      record {
        under = λ x h odd.
            let z = under x h (sym (taken_entry o p status operands ls due x) ∙ odd) in
            (z.0, fits_then _ _ _ (taken_alike o p status operands ls due x).0 z.1);
        from = let m = under p lp (eq-eqb _ _ due.1.1) in (m.0, fits_then _ _ _ save.0 m.1);
      }

  module _ (joined : K → K → Bytes) (lub : JoinIsLeast o joined) (rank : K → ℕ) (top : ℕ) where
    beneath_flow : (p : ℕ) (e : Entry K) (i : Instruction) (q : ℕ) (new : Entry K) (status : List ℕ) (operands : List K) (status' : List ℕ) (operands' : List K)
        → p < words_in code → q < words_in code → Runs o code (allows o e) p i → Next o i (allows o e) p q → Alike (allows o new) (after o i (allows o e))
        → Flowed o joined rank top q new status operands status' operands' → Beneath p e status operands → Beneath p e status' operands'
    beneath_flow p e i q new status operands status' operands' lp lq runs next alike f m =
        let t' = table_of o status' operands' in
        let from = m.from.1 in
        let flow = rules.flows p lp m.from.0 i (runs_more o l code _ _ p i from runs) q lq (next_more o l i _ _ p q from next) in
        record {
          under = λ x h odd.
              ⊎_elim
              (λ z.
              subst (λ y. (u.entry y ≡ true) × Fits (holds o t' y) (holds o u y)) (sym z) (
                flow.0,
                f.least lub (u.cell q) (u.left q) (u.right q) (λ was. (m.under q lq (eq-eqb _ _ was)).1)
                    (fits_then _ _ _ alike.0 (fits_then _ _ _ (after_more o l i _ _ from) flow.1)),
              ))
              (λ n.
              let s = f.rest x n in
              let old = m.under x h (sym (ap (λ b. eqb (b % 2) 1) s.0) ∙ odd) in
              (old.0, fits_then _ _ _ (alike_at o status operands status' operands' x s.0 s.1).0 old.1))
              (cases_eq x q);
          from = m.from;
        }

    beneath_sent : (p : ℕ) (e : Entry K) (i : Instruction) (low : ℕ) (target : Option ℕ) (new : Entry K) (status : List ℕ) (operands : List K) (low' : ℕ) (status' : List ℕ) (operands' : List K)
        → p < words_in code → Runs o code (allows o e) p i → ((q : ℕ) → target ≡ Some q → Next o i (allows o e) p q) → Alike (allows o new) (after o i (allows o e))
        → Sent o joined rank top (words_in code) low target new status operands low' status' operands' → Beneath p e status operands → Beneath p e status' operands'
    beneath_sent p e i low target new status operands low' status' operands' lp runs next alike s m =
        sent_cases o joined rank top (words_in code) low target new status operands low' status' operands' (λ b c. Beneath p e b c)
        (λ none. m)
        (λ q is lt f. beneath_flow p e i q new status operands status' operands' lp lt runs (next q is) alike f m)
        s

    pub beneath_went : (p : ℕ) (e : Entry K) (i : Instruction) (low : ℕ) (status : List ℕ) (operands : List K) (low' : ℕ) (status' : List ℕ) (operands' : List K)
        → p < words_in code → Runs o code (allows o e) p i → Went o joined rank top (words_in code) p low i e status operands low' status' operands' → Beneath p e status operands → Beneath p e status' operands'
    beneath_went p e i low status operands low' status' operands' lp runs w m =
        let on = beneath_sent p e i low w.on w.new status operands _ _ _ lp runs (λ q is. inl ((w.goes q).0 is)) w.alike w.sent_on m in
        beneath_sent p e i _ w.jump w.new _ _ low' status' operands' lp runs (λ q is. inr ((w.hops q).0 is)) w.alike w.sent_off on
