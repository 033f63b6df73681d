-- Growth leaves a table under the rules: while a word is sent on, what was done stays done. Assumes nothing.
use Rattle.std.proofs.Common.{◌≡◌, ℕ, ◌+◌, ◌/◌, ◌%◌, ◌<◌, ◌≤◌, true, eqb, ◌≢◌, ◌⊎◌, List, length, get_or, set, Some, Option, sym, refl, ap, ◌∙◌, subst, inl, inr, ⊎_elim, arith, get_or-set_other, get_or-set_same}
use Rattle.std.proofs.lemmas.Bool.{cases_eq, eq-eqb}
use Rattle.instructions.specs.declared.instruction.Instruction.{Instruction}
use Rattle.words.specs.Code.{words_in}
use Rattle.operands.specs.Bytes.{Bytes}
use Rattle.operands.specs.Operations.{Operations, Lawful}
use Rattle.flow.specs.declared.entry.Entry.{Entry}
use Rattle.flow.specs.States.{Fits, Alike, after, start}
use Rattle.flow.specs.Ways.{Runs, Next}
use Rattle.flow.specs.Tables.{Table, holds, table_of, FlowsAt, Under}
use Rattle.flow.specs.Entries.{allows}
use Rattle.flow.proofs.Monotone.{after_more, next_more, runs_more, fits_then}
use Rattle.growth.specs.Memory.{Tidy}
use Rattle.growth.specs.Growth.{Due, Flowed, Sent, Went, Growing}
use Rattle.growth.proofs.Seen.{seen_same}
use Rattle.growth.proofs.Sending.{alike_at, flowed_odd, flowed_under, due_or_same, sent_cases}

-- the marks of a due status byte without its 8
pub left_low : (b : ℕ) → 8 ≤ b → b < 16 → b % 8 / 2 % 2 ≡ b / 2 % 2
left_low b h l =
    let z : b / 2 ≡ b % 8 / 2 + 4 = omega arith in
    omega arith

pub right_low : (b : ℕ) → 8 ≤ b → b < 16 → b % 8 / 4 % 2 ≡ b / 4 % 2
right_low b h l =
    let z : b / 4 ≡ b % 8 / 4 + 2 = omega arith in
    omega arith

abbrev pub taken_up : List ℕ → ℕ → List ℕ
taken_up status p = set status p (get_or status p 0 % 8)

pub tidy_due : (b : ℕ) → Tidy b → 8 ≤ b → Due b
tidy_due b tidy h = ⊎_elim (λ z. absurd (omega arith)) (λ z. (h, (z.1, z.0))) tidy

module _ (p : ℕ) (status : List ℕ) (ls : p < length status) where
  pub taken_here : get_or (taken_up status p) p 0 ≡ get_or status p 0 % 8
  taken_here = get_or-set_same status p (get_or status p 0 % 8) 0 ls

  pub taken_other : (x : ℕ) → x ≢ p → get_or (taken_up status p) x 0 ≡ get_or status x 0
  taken_other x n = get_or-set_other status p x (get_or status p 0 % 8) 0 n

  taken_test : (f : ℕ → ℕ) → f (get_or status p 0 % 8) ≡ f (get_or status p 0) → (x : ℕ) → eqb (f (get_or (taken_up status p) x 0)) 1 ≡ eqb (f (get_or status x 0)) 1
  taken_test f e x =
      ⊎_elim
      (λ z. subst (λ y. eqb (f (get_or (taken_up status p) y 0)) 1 ≡ eqb (f (get_or status y 0)) 1) (sym z) (ap (λ b. eqb (f b) 1) taken_here ∙ ap (λ b. eqb b 1) e))
      (λ n. ap (λ b. eqb (f b) 1) (taken_other x n))
      (cases_eq x p)

module _ {K : Type 0} (o : Operations K) where
  -- taking up a due word changes nothing in the table
  module _ (p : ℕ) (status : List ℕ) (operands : List K) (ls : p < length status) (due : Due (get_or status p 0)) where
    pub taken_entry : (x : ℕ) → (table_of o (taken_up status p) operands).entry x ≡ (table_of o status operands).entry x
    taken_entry = taken_test p status ls (λ b. b % 2) (omega arith)

    pub taken_alike : (x : ℕ) → Alike (holds o (table_of o (taken_up status p) operands) x) (holds o (table_of o status operands) x)
    taken_alike x =
        let left = taken_test p status ls (λ b. b / 2 % 2) (left_low _ due.0 due.1.0) x in
        let right = taken_test p status ls (λ b. b / 4 % 2) (right_low _ due.0 due.1.0) x in
        (seen_same o _ _ _ _ _ _ (λ r h. refl) left right, seen_same o _ _ _ _ _ _ (λ r h. refl) (sym left) (sym right))

  module _ (l : Lawful o) (code : List ℕ) where
    -- what is done at a word stays done as the table grows elsewhere
    flows_grow : (t t' : Table K) (p : ℕ) → Fits (holds o t' p) (holds o t p) → Under o (words_in code) t t' → FlowsAt o code t p → FlowsAt o code t' p
    flows_grow t t' p back under flows i runs q lt next =
        let old = flows i (runs_more o l code _ _ p i back runs) q lt (next_more o l i _ _ p q back next) in
        let new = under q lt old.0 in
        (new.0, fits_then _ _ _ (after_more o l i _ _ back) (fits_then _ _ _ old.1 new.1))

    -- the word p, whose entry was e, is being sent on: it has been sent where Done says
    pub record Midway (p : ℕ) (e : Entry K) (Done : Instruction → ℕ → Type 0) (status : List ℕ) (operands : List K) : Type 0 where
      pub tidy : (x : ℕ) → x < words_in code → Tidy (get_or status x 0)
      pub starts : (table_of o status operands).entry 0 ≡ true
      pub allows_start : Fits (start o) (holds o (table_of o status operands) 0)
      pub done : (x : ℕ) → x < words_in code → x ≢ p → get_or status x 0 % 2 ≡ 1 → get_or status x 0 < 8 → FlowsAt o code (table_of o status operands) x
      pub here : (8 ≤ get_or status p 0) ⊎ Fits (holds o (table_of o status operands) p) (allows o e)
      pub sent : (i : Instruction) (q : ℕ) → q < words_in code → Done i q → ((table_of o status operands).entry q ≡ true) × Fits (after o i (allows o e)) (holds o (table_of o status operands) q)

    pub midway_as : (p : ℕ) (e : Entry K) (Done Done' : Instruction → ℕ → Type 0) (status : List ℕ) (operands : List K) → ((i : Instruction) (q : ℕ) → q < words_in code → Done' i q → Done i q)
        → Midway p e Done status operands → Midway p e Done' status operands
    midway_as p e Done Done' status operands f m =
        record {
          tidy = m.tidy;
          starts = m.starts;
          allows_start = m.allows_start;
          done = m.done;
          here = m.here;
          sent = λ j x h d. m.sent j x h (f j x h d);
        }

    -- sent wherever it goes, the word is done
    pub midway_done : (p : ℕ) (e : Entry K) (Done : Instruction → ℕ → Type 0) (status : List ℕ) (operands : List K)
        → ((i : Instruction) (q : ℕ) → Runs o code (allows o e) p i → Next o i (allows o e) p q → Done i q) → Midway p e Done status operands
        → (x : ℕ) → x < words_in code → get_or status x 0 % 2 ≡ 1 → get_or status x 0 < 8 → FlowsAt o code (table_of o status operands) x
    midway_done p e Done status operands every m x h odd k =
        ⊎_elim
        (λ z.
        let low : get_or status p 0 < 8 = subst (λ y. get_or status y 0 < 8) z k in
        subst (λ y. FlowsAt o code (table_of o status operands) y) (sym z)
        (⊎_elim (λ a. absurd (omega arith))
        (λ back i runs q lt next.
        let s = m.sent i q lt (every i q (runs_more o l code _ _ p i back runs) (next_more o l i _ _ p q back next)) in
        (s.0, fits_then _ _ _ (after_more o l i _ _ back) s.1))
        m.here))
        (λ n. m.done x h n odd k)
        (cases_eq x p)

    module _ (joined : K → K → Bytes) where
      pub midway_start : (p : ℕ) (e : Entry K) (status : List ℕ) (operands : List K) → p < length status → Due (get_or status p 0) → Alike (allows o e) (holds o (table_of o status operands) p)
          → Growing o joined code status operands → Midway p e (λ _ _. ⊥) (taken_up status p) operands
      midway_start p e status operands ls due save g =
          let t = table_of o status operands in
          let t' = table_of o (taken_up status p) operands in
          let entry = taken_entry p status operands ls due in
          let alike = taken_alike p status operands ls due in
          let here = taken_here p status ls in
          let other = taken_other p status ls in
          let under : Under o (words_in code) t t' = λ x h odd. (entry x ∙ odd, (alike x).1) in
          record {
            tidy = λ x h.
                ⊎_elim (λ z. subst (λ y. Tidy (get_or (taken_up status p) y 0)) (sym z) (subst Tidy (sym here) (inr (omega arith, omega arith))))
                (λ n. subst Tidy (sym (other x n)) (g.tidy x h)) (cases_eq x p);
            starts = entry 0 ∙ g.starts;
            allows_start = fits_then _ _ _ g.allows_start (alike 0).1;
            done = λ x h n odd k. flows_grow t t' x (alike x).0 under (g.done x h (sym (ap (λ b. b % 2) (other x n)) ∙ odd) (omega (arith, other x n)));
            here = inr (fits_then _ _ _ (alike p).0 save.1);
            sent = λ i q h d. absurd d;
          }

      module _ (rank : K → ℕ) (top : ℕ) where
        midway_flow : (p : ℕ) (e : Entry K) (Done : Instruction → ℕ → Type 0) (i : Instruction) (q : ℕ) (new : Entry K) (status : List ℕ) (operands : List K) (status' : List ℕ) (operands' : List K)
            → 0 < words_in code → Alike (allows o new) (after o i (allows o e)) → Flowed o joined rank top q new status operands status' operands'
            → Midway p e Done status operands → Midway p e (λ j x. Done j x ⊎ ((j ≡ i) × (x ≡ q))) status' operands'
        midway_flow p e Done i q new status operands status' operands' full alike f m =
            let t = table_of o status operands in
            let t' = table_of o status' operands' in
            let under = flowed_under o joined rank top q new status operands status' operands' f (words_in code) in
            let changed = due_or_same o joined rank top q new status operands status' operands' f in
            let same = alike_at o status operands status' operands' in
            record {
              tidy = λ x h. ⊎_elim (λ a. inr (a.1.1, a.1.0)) (λ a. subst Tidy (sym a.0) (m.tidy x h)) (changed x);
              starts = (under 0 full m.starts).0;
              allows_start = fits_then _ _ _ m.allows_start (under 0 full m.starts).1;
              done = λ x h n odd k.
                  ⊎_elim (λ a. absurd (omega (arith, a.0)))
                  (λ a. flows_grow t t' x (same x a.0 a.1).0 under (m.done x h n (sym (ap (λ b. b % 2) a.0) ∙ odd) (omega (arith, a.0))))
                  (changed x);
              here = ⊎_elim (λ a. inl a.0) (λ a. ⊎_elim (λ c. inl (omega (arith, a.0))) (λ c. inr (fits_then _ _ _ (same p a.0 a.1).0 c)) m.here) (changed p);
              sent = λ j x h d.
                  ⊎_elim
                  (λ a. let s = m.sent j x h a in let grown = under x h s.0 in (grown.0, fits_then _ _ _ s.1 grown.1))
                  (λ a.
                  subst (λ y. (t'.entry y ≡ true) × Fits (after o j (allows o e)) (holds o t' y)) (sym a.1)
                  (subst (λ k. (t'.entry q ≡ true) × Fits (after o k (allows o e)) (holds o t' q)) (sym a.0)
                  (eq-eqb _ _ (flowed_odd o joined rank top q new status operands status' operands' f), fits_then _ _ _ alike.1 f.second)))
                  d;
            }

        midway_sent : (p : ℕ) (e : Entry K) (Done : Instruction → ℕ → Type 0) (i : Instruction) (low : ℕ) (target : Option ℕ) (new : Entry K) (status : List ℕ) (operands : List K) (low' : ℕ) (status' : List ℕ) (operands' : List K)
            → Alike (allows o new) (after o i (allows o e)) → Sent o joined rank top (words_in code) low target new status operands low' status' operands'
            → Midway p e Done status operands → Midway p e (λ j x. Done j x ⊎ ((j ≡ i) × (target ≡ Some x))) status' operands'
        midway_sent p e Done i low target new status operands low' status' operands' alike s m =
            sent_cases o joined rank top (words_in code) low target new status operands low' status' operands' (λ b c. Midway p e (λ j x. Done j x ⊎ ((j ≡ i) × (target ≡ Some x))) b c)
            (λ none. midway_as p e Done _ status operands (λ j x h d. ⊎_elim (λ a. a) (λ a. absurd (none x a.1 h)) d) m)
            (λ q is lt f.
            midway_as p e (λ j x. Done j x ⊎ ((j ≡ i) × (x ≡ q))) _ status' operands'
            (λ j x h d. ⊎_elim (λ a. inl a) (λ a. let z = a.1 in let y : x ≡ q = cc in inr (a.0, y)) d)
            (midway_flow p e Done i q new status operands status' operands' (omega arith) alike f m))
            s

        pub midway_went : (p : ℕ) (e : Entry K) (Done : Instruction → ℕ → Type 0) (i : Instruction) (low : ℕ) (status : List ℕ) (operands : List K) (low' : ℕ) (status' : List ℕ) (operands' : List K)
            → Went o joined rank top (words_in code) p low i e status operands low' status' operands'
            → Midway p e Done status operands → Midway p e (λ j x. Done j x ⊎ ((j ≡ i) × Next o i (allows o e) p x)) status' operands'
        midway_went p e Done i low status operands low' status' operands' w m =
            let on = midway_sent p e Done i low w.on w.new status operands _ _ _ w.alike w.sent_on m in
            let off = midway_sent p e _ i _ w.jump w.new _ _ low' status' operands' w.alike w.sent_off on in
            midway_as p e _ _ status' operands'
            (λ j x h d. ⊎_elim (λ a. inl (inl a)) (λ a. ⊎_elim (λ b. inl (inr (a.0, (w.goes x).1 b))) (λ b. inr (a.0, (w.hops x).1 b)) a.1) d)
            off
