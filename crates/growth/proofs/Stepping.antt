-- Every word that runs at an address is sent on, one after the other. Assumes nothing.
use Rattle.std.proofs.Common.{◌≡◌, ℕ, ◌+◌, ◌<◌, ◌≤◌, ◌⊎◌, List, length, get_or, Option, sym, subst, inl, inr, ⊎_elim, arith}
use Rattle.std.proofs.lemmas.Bool.{cases_lt}
use Rattle.instructions.specs.declared.instruction.Instruction.{Instruction}
use Rattle.words.specs.Code.{words_in}
use Rattle.operands.specs.Bytes.{Bytes}
use Rattle.operands.specs.Operations.{Operations, Lawful}
use Rattle.flow.specs.declared.entry.Entry.{Entry}
use Rattle.flow.specs.States.{Alike}
use Rattle.flow.specs.Ways.{instruction_at, ReachesBy, Next}
use Rattle.flow.specs.Spans.{first_target, target_count}
use Rattle.flow.specs.Tables.{Table, Rules, holds, table_of}
use Rattle.flow.specs.Entries.{allows}
use Rattle.flow.proofs.Spans.{reaches_within}
use Rattle.growth.specs.Memory.{Quiet}
use Rattle.growth.specs.Growth.{JoinIsLeast, RunsAs, Due, Went, Growing}
use Rattle.growth.proofs.Midway.{Midway, midway_start, midway_as, midway_went, midway_done, taken_up, taken_other}
use Rattle.growth.proofs.Beneath.{Beneath, beneath_start, beneath_went}
use Rattle.growth.proofs.Easing.{Eased, eased_same, eased_then, eased_went}

module _ {K : Type 0} (o : Operations K) where
  -- the words that run at p stand in the span of the instruction there
  pub runs_within : (code : List ℕ) (p : ℕ) (e : Entry K) (here : Option Instruction) (first count : ℕ) → here ≡ instruction_at code p → first ≡ first_target here p → count ≡ target_count here
      → (k : ℕ) (i : Instruction) → RunsAs o code (allows o e) p k i → (first ≤ k) × (k < first + count)
  runs_within code p e here first count is from many k i runs =
      let within = reaches_within o (allows o e) p here k (subst (λ j. ReachesBy o (allows o e) p j k) (sym is) runs.0) in
      (omega (arith, within.0), omega (arith, within.1))

module _ {K : Type 0} (o : Operations K) (l : Lawful o) (joined : K → K → Bytes) (rank : K → ℕ) (top : ℕ) (code : List ℕ) (p : ℕ) (e : Entry K) where
  -- the words below a that run at p have been sent on to q
  abbrev pub Sofar : ℕ → Instruction → ℕ → Type 0
  Sofar a i q = (k : ℕ) × ((k < a) × (RunsAs o code (allows o e) p k i × Next o i (allows o e) p q))

  -- from the memory s1 and c1 on
  module _ (s1 : List ℕ) (c1 : List K) where
    -- so far the words below a have been sent on
    pub record Stepping (a low : ℕ) (status : List ℕ) (operands : List K) : Type 0 where
      pub midway : Midway o l code p e (Sofar a) status operands
      pub beneath : JoinIsLeast o joined → (u : Table K) (rules : Rules o code u) → Beneath o l code u rules p e status operands
      pub eased : Eased o rank top (words_in code) s1 c1 status operands
      pub quiet : Quiet status low

    pub stepping_is : (a low : ℕ) (status : List ℕ) (operands : List K) (low' : ℕ) (status' : List ℕ) (operands' : List K) → low' ≡ low → status' ≡ status → operands' ≡ operands
        → Stepping a low status operands → Stepping a low' status' operands'
    stepping_is a low status operands low' status' operands' el es ec m =
        subst (λ n. Stepping a n status' operands') (sym el) (subst (λ s. Stepping a low s operands') (sym es) (subst (λ c. Stepping a low status c) (sym ec) m))

    pub stepping_word : (a a' low : ℕ) (i : Instruction) (status : List ℕ) (operands : List K) (low' : ℕ) (status' : List ℕ) (operands' : List K) → a' ≡ a + 1 → p < words_in code
        → RunsAs o code (allows o e) p a i → ((j : Instruction) → RunsAs o code (allows o e) p a j → j ≡ i)
        → Went o joined rank top (words_in code) p low i e status operands low' status' operands' → Stepping a low status operands → Stepping a' low' status' operands'
    stepping_word a a' low i status operands low' status' operands' next lp runs only w m =
        let wide : (j : Instruction) (q : ℕ) → q < words_in code → Sofar a' j q → Sofar a j q ⊎ ((j ≡ i) × Next o i (allows o e) p q) =
        λ j q h d.
        ⊎_elim (λ lt. inl (d.0, (lt, d.1.1)))
        (λ ge.
        let z : d.0 ≡ a = omega (arith, d.1.0) in
        let same : j ≡ i = only j (subst (λ b. RunsAs o code (allows o e) p b j) z d.1.1.0) in
        inr (same, subst (λ x. Next o x (allows o e) p q) same d.1.1.1))
        (cases_lt d.0 a) in
        record {
          midway = midway_as o l code p e _ (Sofar a') status' operands' wide (midway_went o l code joined rank top p e (Sofar a) i low status operands low' status' operands' w m.midway);
          beneath = λ lub u rules. beneath_went o l code u rules joined lub rank top p e i low status operands low' status' operands' lp (a, runs) w (m.beneath lub u rules);
          eased = eased_then o rank top (words_in code) s1 c1 status operands status' operands' m.eased (eased_went o rank top (words_in code) joined p low i e status operands low' status' operands' w);
          quiet = w.sent_off.quiet (w.sent_on.quiet m.quiet);
        }

    pub stepping_skip : (a a' low : ℕ) (status : List ℕ) (operands : List K) → a' ≡ a + 1 → ((j : Instruction) → RunsAs o code (allows o e) p a j → ⊥) → Stepping a low status operands → Stepping a' low status operands
    stepping_skip a a' low status operands next none m =
        record {
          midway = midway_as o l code p e (Sofar a) (Sofar a') status operands
              (λ j q h d.
              ⊎_elim (λ lt. (d.0, (lt, d.1.1)))
              (λ ge. let z : d.0 ≡ a = omega (arith, d.1.0) in absurd (none j (subst (λ b. RunsAs o code (allows o e) p b j) z d.1.1.0)))
              (cases_lt d.0 a))
              m.midway;
          beneath = m.beneath;
          eased = m.eased;
          quiet = m.quiet;
        }

    pub stepping_end : (a low : ℕ) (status : List ℕ) (operands : List K) → ((k : ℕ) (i : Instruction) → RunsAs o code (allows o e) p k i → k < a) → Stepping a low status operands → Growing o joined code status operands
    stepping_end a low status operands below m =
        record {
          tidy = m.midway.tidy;
          starts = m.midway.starts;
          allows_start = m.midway.allows_start;
          done = midway_done o l code p e (Sofar a) status operands (λ i q runs next. (runs.0, (below runs.0 i runs.1, (runs.1, next)))) m.midway;
          least = λ lub u rules. (m.beneath lub u rules).under;
        }

  pub stepping_start : (a : ℕ) (status : List ℕ) (operands : List K) → p < words_in code → p < length status → Due (get_or status p 0) → Alike (allows o e) (holds o (table_of o status operands) p) → Quiet status p
      → Growing o joined code status operands → ((k : ℕ) (i : Instruction) → RunsAs o code (allows o e) p k i → a ≤ k) → Stepping (taken_up status p) operands a p (taken_up status p) operands
  stepping_start a status operands lp ls due save quiet g above =
      record {
        midway = midway_as o l code p e (λ _ _. ⊥) (Sofar a) (taken_up status p) operands (λ i q h d. let k = above d.0 i d.1.1.0 in omega (arith, d.1.0)) (midway_start o l code joined p e status operands ls due save g);
        beneath = λ lub u rules. beneath_start o l code u rules p e status operands lp ls due save (g.least lub u rules);
        eased = eased_same o rank top (words_in code) (taken_up status p) operands;
        quiet = λ k h. subst (λ b. b < 8) (sym (taken_other p status ls k (omega arith))) (quiet k h);
      }
