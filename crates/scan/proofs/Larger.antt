-- A state that allows more has every breach, so a table has no breach if it lies under one that has none. Assumes nothing.
use Rattle.std.proofs.Common.{◌≡◌, ℕ, ◌<◌, Bool, true, cond, eqb, List, Some, None, Option, sym, ◌∙◌, subst, inl, inr, ⊎_elim, arith}
use Rattle.std.proofs.lemmas.Bool.{lt-ltb, le-ltb, cases_lt}
use Rattle.instructions.specs.declared.field.Side.{Side}
use Rattle.instructions.specs.declared.field.Side.TheVariants.{Left, Right}
use Rattle.instructions.specs.declared.instruction.Instruction.{Instruction}
use Rattle.instructions.specs.Registers.{number_of}
use Rattle.words.specs.Code.{words_in}
use Rattle.operands.specs.Operations.{Operations, Lawful}
use Rattle.effects.specs.Usage.{selector}
use Rattle.flow.specs.declared.breach.Breach.{Breach}
use Rattle.flow.specs.declared.breach.Breach.TheVariants.{NotPermitted, Outside, Chain, Unready, Withheld}
use Rattle.flow.specs.States.{State, Fits, Alike}
use Rattle.flow.specs.Ways.{instruction_at}
use Rattle.flow.specs.Tables.{Table, marked, seen, holds, table_of, Rules, Under}
use Rattle.flow.specs.declared.entry.Entry.{Entry}
use Rattle.flow.specs.Entries.{allows, Entered}
use Rattle.flow.specs.Breaches.{Cover, Exceeds, UsesUnready, Occurs, Meets}
use Rattle.flow.proofs.Monotone.{next_more, reaches_more, runs_more}
use Rattle.flow.proofs.Storing.{unready_below}
use Rattle.scan.specs.Verdicts.{First, Clear, Lowest}
use Rattle.scan.proofs.Shown.{first_same}

selector_part : (b : Side) → number_of (selector b) < 18
selector_part Left = omega arith
selector_part Right = omega arith

exceeds_more : (grants : List ℕ) (c : Cover) (s u : State) → Fits s u → Exceeds grants c s → Exceeds grants c u
exceeds_more grants None s u f w = w
exceeds_more grants (Some c) s u f w = (w.0, (f _ (selector_part c.0) w.0 w.1.0, w.1.1))

unready_more : (i : Instruction) (s u : State) → Fits s u → UsesUnready i s → UsesUnready i u
unready_more i s u f w = (w.0, (w.1.0, f _ (unready_below w.0) 0 w.1.1))

seen_same : {K : Type 0} (o : Operations K) (cell cell' : ℕ → K) (left left' right right' : Bool) → ((r : ℕ) → r < 16 → cell r ≡ cell' r) → left ≡ left' → right ≡ right' → Fits (seen o cell left right) (seen o cell' left' right')
seen_same {K} o cell cell' left left' right right' same e d r h b m =
    ⊎_elim
    (λ lt. let t = lt-ltb r 16 lt in
    subst (λ (z : Bool). cond z (o.has (cell' r)) (marked (cond (eqb r 16) left' right')) b) (sym t)
    (subst (λ (x : K). o.has x b) (same r lt) (subst (λ (z : Bool). cond z (o.has (cell r)) (marked (cond (eqb r 16) left right)) b) t m)))
    (λ ge. let t = le-ltb r 16 ge in
    subst (λ (z : Bool). cond z (o.has (cell' r)) (marked (cond (eqb r 16) left' right')) b) (sym t)
    (let was : cond (eqb r 16) left right ≡ true = subst (λ (z : Bool). cond z (o.has (cell r)) (marked (cond (eqb r 16) left right)) b) t m in
    let move : cond (eqb r 16) left' right' ≡ cond (eqb r 16) left right = cc in move ∙ was))
    (cases_lt r 16)

entered_alike : {K : Type 0} (o : Operations K) (status : List ℕ) (operands : List K) (p : ℕ) (e : Entry K) → Entered o status operands p e → Alike (allows o e) (holds o (table_of o status operands) p)
entered_alike o status operands p e h = (
  seen_same o _ _ _ _ _ _ h.operand h.left h.right,
  seen_same o _ _ _ _ _ _ (λ r lt. sym (h.operand r lt)) (sym h.left) (sym h.right),
)

module _ {K : Type 0} (o : Operations K) (l : Lawful o) (code grants : List ℕ) where
  pub occurs_more : (k : Breach) (s u : State) (p : ℕ) → Fits s u → Occurs o code grants s p k → Occurs o code grants u p k
  occurs_more NotPermitted s u p f w = (w.0, (reaches_more o l (instruction_at code p) s u p w.0 f w.1.0, w.1.1))
  occurs_more Outside s u p f (inl w) = inl (w.0, (reaches_more o l (instruction_at code p) s u p w.0 f w.1.0, w.1.1))
  occurs_more Outside s u p f (inr w) =
      let n = w.1.1 in
      inr (w.0, (runs_more o l code s u p w.0 f w.1.0, (n.0, (next_more o l w.0 s u p n.0 f n.1.0, n.1.1))))
  occurs_more Chain s u p f w = (w.0, (reaches_more o l (instruction_at code p) s u p w.0 f w.1.0, w.1.1))
  occurs_more Unready s u p f w =
      (w.0, (⊎_elim inl (λ r. inr (runs_more o l code s u p w.0 f r)) w.1.0, unready_more w.0 s u f w.1.1))
  occurs_more Withheld s u p f w =
      (w.0, (runs_more o l code s u p w.0 f w.1.0, exceeds_more grants _ s u f w.1.1))

  -- what an entry that was read from memory has is what the table has
  pub first_entered : (status : List ℕ) (operands : List K) (p : ℕ) (e : Entry K) (r : Option Breach) → Entered o status operands p e → First (Occurs o code grants (allows o e) p) r → First (Occurs o code grants (holds o (table_of o status operands) p) p) r
  first_entered status operands p e r h f =
      let t = table_of o status operands in
      let alike = entered_alike o status operands p e h in
      first_same (Occurs o code grants (allows o e) p) (Occurs o code grants (holds o t p) p) r
      (λ k w. occurs_more k _ _ p alike.0 w) (λ k w. occurs_more k _ _ p alike.1 w) f

  pub clear_under : (t u : Table K) → Under o (words_in code) t u → Clear o code grants u → Clear o code grants t
  clear_under t u under clear p h e k w =
      let m = under p h e in clear p h m.0 k (occurs_more k _ _ p m.1 w)

  -- a breach in the least table that keeps the rules is a breach in every one
  pub lowest_dooms : (t : Table K) (address : ℕ) (breach : Breach) → Lowest o code grants t address breach → ((u : Table K) → Rules o code u → Under o (words_in code) t u) → (u : Table K) → Meets o code grants u → ⊥
  lowest_dooms t address breach low least u m =
      clear_under t u (least u m.rules) m.clear address low.inside low.entered breach low.first.0
