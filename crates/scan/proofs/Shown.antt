-- The first of the breaches that are shown, and what is shown word by word. Assumes nothing.
use Rattle.std.proofs.Common.{◌≡◌, ℕ, ◌+◌, ◌*◌, ◌/◌, ◌<◌, ◌≤◌, true, cond, ltb, ◌⊎◌, List, Some, None, Option, sym, ◌∙◌, subst, inl, inr, ⊎_elim, arith}
use Rattle.std.proofs.lemmas.Bool.{both_ways, cases_lt, cases_Bool, ltb-true, ltb-false, lt-ltb, cond-true, cond-false}
use Rattle.instructions.specs.declared.instruction.Source.{Source}
use Rattle.instructions.specs.declared.instruction.Source.TheVariants as source
use Rattle.instructions.specs.declared.instruction.Instruction.{Instruction}
use Rattle.instructions.specs.declared.instruction.Instruction.TheVariants.{Alu, Xec, Nzt, Xmit, Jmp}
use Rattle.words.specs.Code.{words_in}
use Rattle.effects.specs.Addresses.{page_size}
use Rattle.operands.specs.Operations.{Operations}
use Rattle.flow.specs.declared.breach.Breach.{Breach}
use Rattle.flow.specs.declared.breach.Breach.TheVariants.{NotPermitted, Outside, Chain, Unready, Withheld}
use Rattle.flow.specs.States.{State}
use Rattle.flow.specs.Ways.{instruction_at, is_xec, ReachesBy, RunsAt}
use Rattle.flow.specs.Spans.{first_target, target_count}
use Rattle.flow.specs.Breaches.{cover, Exceeds, UsesUnready, order, Occurs}
use Rattle.flow.proofs.Spans.{reaches_within}
use Rattle.scan.specs.Verdicts.{First}
use Rattle.scan.specs.Signs.{earlier, Strays, RunShows, RunsFrom, Below, WordShows, HereShows, ReachedShows, ShownBelow}

pub first_same : (P Q : Breach → Type 0) (r : Option Breach) → ((k : Breach) → P k → Q k) → ((k : Breach) → Q k → P k) → First P r → First Q r
first_same P Q None to from f = λ j h. f j (from j h)
first_same P Q (Some k) to from f = (to k f.0, λ j l h. f.1 j l (from j h))

-- the earlier of two firsts is the first of both
first_either : (P Q : Breach → Type 0) (x y : Option Breach) → First P x → First Q y → First (λ k. P k ⊎ Q k) (earlier x y)
first_either P Q None None f g = λ j h. ⊎_elim (f j) (g j) h
first_either P Q None (Some y) f g = (inr g.0, λ j l h. ⊎_elim (f j) (g.1 j l) h)
first_either P Q (Some x) None f g = (inl f.0, λ j l h. ⊎_elim (f.1 j l) (g j) h)
first_either P Q (Some x) (Some y) f g =
    let R : Breach → Type 0 = λ k. P k ⊎ Q k in
    ⊎_elim
    (λ t. let lt = ltb-true (order y) (order x) t in
    subst (First R) (sym (cond-true (ltb (order y) (order x)) (Some y) (Some x) t)) (inr g.0, λ j l h. ⊎_elim (f.1 j (omega arith)) (g.1 j l) h))
    (λ t. let le = ltb-false (order y) (order x) t in
    subst (First R) (sym (cond-false (ltb (order y) (order x)) (Some y) (Some x) t)) (inl f.0, λ j l h. ⊎_elim (f.1 j l) (g.1 j (omega arith)) h))
    (cases_Bool (ltb (order y) (order x)))

below_next : (n : ℕ) (P : ℕ → Type 0) → Below n P ⊎ P n → Below (n + 1) P
below_next n P h = ⊎_elim (λ w. (w.0, (omega (arith, w.1.0), w.1.1))) (λ w. (n, (omega arith, w))) h

below_back : (n : ℕ) (P : ℕ → Type 0) → Below (n + 1) P → Below n P ⊎ P n
below_back n P w =
    ⊎_elim (λ lt. inl (w.0, (lt, w.1.1)))
    (λ ge. let e : w.0 ≡ n = omega (arith, w.1.0) in inr (subst P e w.1.1)) (cases_lt w.0 n)

module _ {K : Type 0} (o : Operations K) (code grants : List ℕ) (s : State) (p : ℕ) where
  -- what the words show is what occurs
  shown_occurs : (k : Breach) (n : ℕ) → ShownBelow o code grants s p (instruction_at code p) n k → Occurs o code grants s p k
  shown_occurs NotPermitted n (inl h) = absurd h
  shown_occurs NotPermitted n (inr w) = (w.0, w.1.1)
  shown_occurs Outside n (inl h) = absurd h
  shown_occurs Outside n (inr w) =
      ⊎_elim (λ h. inl (w.0, (w.1.1.0, h))) (λ h. inr (h.0, ((w.0, (w.1.1.0, h.1.0)), h.1.1))) w.1.1.1
  shown_occurs Chain n (inl h) = absurd h
  shown_occurs Chain n (inr w) = (w.0, w.1.1)
  shown_occurs Unready n (inl h) = (h.0, (inl h.1.0, h.1.1))
  shown_occurs Unready n (inr w) = let h = w.1.1.1 in (h.0, (inr (w.0, (w.1.1.0, h.1.0)), h.1.1))
  shown_occurs Withheld n (inl h) = absurd h
  shown_occurs Withheld n (inr w) = let h = w.1.1.1 in (h.0, ((w.0, (w.1.1.0, h.1.0)), h.1.1))

  occurs_shown : (k : Breach) (n : ℕ) → ((a : ℕ) → RunsAt o code s p a → a < n) → Occurs o code grants s p k → ShownBelow o code grants s p (instruction_at code p) n k
  occurs_shown NotPermitted n all w = inr (w.0, (all w.0 w.1.0, w.1))
  occurs_shown Outside n all (inl w) = inr (w.0, (all w.0 w.1.0, (w.1.0, inl w.1.1)))
  occurs_shown Outside n all (inr w) =
      let r = w.1.0 in inr (r.0, (all r.0 r.1.0, (r.1.0, inr (w.0, (r.1.1, w.1.1)))))
  occurs_shown Chain n all w = inr (w.0, (all w.0 w.1.0, w.1))
  occurs_shown Unready n all w =
      ⊎_elim (λ h. inl (w.0, (h, w.1.1)))
      (λ r. inr (r.0, (all r.0 r.1.0, (r.1.0, (w.0, (r.1.1, w.1.1)))))) w.1.0
  occurs_shown Withheld n all w =
      let r = w.1.0 in inr (r.0, (all r.0 r.1.0, (r.1.0, (w.0, (r.1.1, w.1.1)))))

  module _ (here : Option Instruction) where
    abbrev Shown : ℕ → Breach → Type 0
    Shown a k = ShownBelow o code grants s p here a k

    abbrev Reached : Breach → ℕ → Type 0
    Reached k a = ReachedShows o code grants s p here a k

    -- no word is reached below the first target
    pub shown_none : (a : ℕ) (found : Option Breach) → a ≡ first_target here p → First (HereShows here s) found → First (Shown a) found
    shown_none a found e f =
        first_same (HereShows here s) (Shown a) found (λ k h. inl h)
        (λ k h. ⊎_elim (λ w. w) (λ w. let le = (reaches_within o s p here w.0 w.1.1.0).0 in absurd (omega (arith, w.1.0))) h) f

    -- one more word
    pub shown_word : (a : ℕ) (found word after : Option Breach) → after ≡ earlier found word → First (Shown a) found → First (ReachedShows o code grants s p here a) word → First (Shown (a + 1)) after
    shown_word a found word after e f g =
        subst (First (Shown (a + 1))) (sym e)
        (first_same (λ k. Shown a k ⊎ Reached k a) (Shown (a + 1)) (earlier found word)
        (λ k h. ⊎_elim (λ w. ⊎_elim inl (λ b. inr (below_next a (Reached k) (inl b))) w) (λ w. inr (below_next a (Reached k) (inr w))) h)
        (λ k h. ⊎_elim (λ w. inl (inl w)) (λ b. ⊎_elim (λ w. inl (inr w)) (λ w. inr w) (below_back a (Reached k) b)) h)
        (first_either (Shown a) (ReachedShows o code grants s p here a) found word f g))

    -- every word that runs stands below the end of the span
    pub shown_all : (n : ℕ) (found : Option Breach) → here ≡ instruction_at code p → first_target here p + target_count here ≤ n → First (Shown n) found → First (Occurs o code grants s p) found
    shown_all n found e le f =
        let all : (a : ℕ) → RunsAt o code s p a → a < n = λ a r. let lt = (reaches_within o s p here a (subst (λ (i : Option Instruction). ReachesBy o s p i a) (sym e) r)).1 in omega arith in
        first_same (ShownBelow o code grants s p (instruction_at code p) n) (Occurs o code grants s p) found (λ k. shown_occurs k n) (λ k. occurs_shown k n all)
        (subst (λ (i : Option Instruction). First (ShownBelow o code grants s p i n) found) e f)

module _ {K : Type 0} (o : Operations K) (code grants : List ℕ) (s : State) (p a : ℕ) (i : Instruction) (runs : RunsFrom code a i) where
  run_word : (k : Breach) → RunShows o (words_in code) grants s p i k → WordShows o code grants s p a k
  run_word NotPermitted h = absurd h
  run_word Outside h = inr (i, (runs, h))
  run_word Chain h = absurd h
  run_word Unready h = (i, (runs, h))
  run_word Withheld h = (i, (runs, h))

  same_run : (j : Instruction) → instruction_at code a ≡ Some j → j ≡ i
  same_run j e = let d = runs.1.0 in cc

  word_run : (k : Breach) → WordShows o code grants s p a k → RunShows o (words_in code) grants s p i k
  word_run NotPermitted h = let d = runs.1.0 in let e = h.1 in let z : ◌≡◌ {A = ℕ} 0 1 = cc in absurd (omega arith)
  word_run Outside (inl h) = absurd (omega (arith, runs.0))
  word_run Outside (inr h) = subst (λ (j : Instruction). Strays o (words_in code) s p j) (same_run h.0 h.1.0.1.0) h.1.1
  word_run Chain h =
      absurd (both_ways (is_xec i) runs.1.1 (subst (λ (j : Instruction). is_xec j ≡ true) (same_run h.1.0 h.1.1.0) h.1.1.1))
  word_run Unready h = subst (λ (j : Instruction). UsesUnready j s) (same_run h.0 h.1.0.1.0) h.1.1
  word_run Withheld h = subst (λ (j : Instruction). Exceeds grants (cover j) s) (same_run h.0 h.1.0.1.0) h.1.1

  -- a word that runs shows what its instruction shows
  pub word_shows : (r : Option Breach) → First (RunShows o (words_in code) grants s p i) r → First (WordShows o code grants s p a) r
  word_shows r f = first_same (RunShows o (words_in code) grants s p i) (WordShows o code grants s p a) r run_word word_run f

-- what was read inside the code
pub meant_inside : (code : List ℕ) (a : ℕ) (r : Option Instruction) → a < words_in code → r ≡ cond (ltb a (words_in code)) (instruction_at code a) None → r ≡ instruction_at code a
meant_inside code a r h e = e ∙ cond-true (ltb a (words_in code)) (instruction_at code a) None (lt-ltb a (words_in code) h)

page_short : (x : Source) (p : ℕ) → p / page_size x * page_size x + page_size x ≤ p + 256
page_short (source.Register r n) p = omega arith
page_short (source.Field f) p = omega arith

pub span_short : (i : Option Instruction) (p : ℕ) → first_target i p + target_count i ≤ p + 256
span_short None p = omega arith
span_short (Some (Alu f x d)) p = omega arith
span_short (Some (Xmit j d)) p = omega arith
span_short (Some (Nzt x j)) p = omega arith
span_short (Some (Xec x j)) p = page_short x p
span_short (Some (Jmp j)) p = omega arith
