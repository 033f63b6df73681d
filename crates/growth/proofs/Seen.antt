-- Entries that allow more, part by part. Assumes nothing.
use Rattle.std.proofs.Common.{◌≡◌, ℕ, ◌<◌, Bool, true, false, cond, eqb, List, sym, ◌∙◌, subst, ⊎_elim, arith}
use Rattle.std.proofs.lemmas.Bool.{cases_lt}
use Rattle.operands.specs.Bytes.{Inside}
use Rattle.operands.specs.Operations.{Operations}
use Rattle.flow.specs.declared.entry.Entry.{Entry}
use Rattle.flow.specs.States.{Alike, Fits}
use Rattle.flow.specs.Tables.{seen, holds, table_of}
use Rattle.flow.specs.Entries.{allows, Entered}
use Rattle.flow.proofs.Parts.{seen_register, seen_mark}

choice_more : (t : Bool) (a b c d : Bool) → (a ≡ true → c ≡ true) → (b ≡ true → d ≡ true) → cond t a b ≡ true → cond t c d ≡ true
choice_more true a b c d f g e = f e
choice_more false a b c d f g e = g e

module _ {K : Type 0} (o : Operations K) where
  pub seen_more : (x y : ℕ → K) (a b c d : Bool) → ((r : ℕ) → r < 16 → Inside (o.has (x r)) (o.has (y r))) → (a ≡ true → c ≡ true) → (b ≡ true → d ≡ true) → Fits (seen o x a b) (seen o y c d)
  seen_more x y a b c d cells left right r h k m =
      ⊎_elim
      (λ low. (seen_register o y c d r low).0 k (cells r low k ((seen_register o x a b r low).1 k m)))
      (λ high. (seen_mark o y c d r high).0 k (choice_more (eqb r 16) a b c d left right ((seen_mark o x a b r high).1 k m)))
      (cases_lt r 16)

  pub seen_same : (x y : ℕ → K) (a b c d : Bool) → ((r : ℕ) → r < 16 → x r ≡ y r) → a ≡ c → b ≡ d → Fits (seen o x a b) (seen o y c d)
  seen_same x y a b c d cells left right =
      seen_more x y a b c d (λ r h k m. subst (λ z. o.has z k) (cells r h) m) (λ t. sym left ∙ t) (λ t. sym right ∙ t)

  pub register_inside : (x y : ℕ → K) (a b c d : Bool) → Fits (seen o x a b) (seen o y c d) → (r : ℕ) → r < 16 → Inside (o.has (x r)) (o.has (y r))
  register_inside x y a b c d f r h k m =
      (seen_register o y c d r h).1 k (f r (omega arith) k ((seen_register o x a b r h).0 k m))

  pub left_inside : (x y : ℕ → K) (a b c d : Bool) → Fits (seen o x a b) (seen o y c d) → a ≡ true → c ≡ true
  left_inside x y a b c d f e = f 16 (omega arith) 0 e

  pub right_inside : (x y : ℕ → K) (a b c d : Bool) → Fits (seen o x a b) (seen o y c d) → b ≡ true → d ≡ true
  right_inside x y a b c d f e = f 17 (omega arith) 0 e

  -- an entry that was read from memory
  pub entered_alike : (status : List ℕ) (operands : List K) (p : ℕ) (e : Entry K) → Entered o status operands p e → Alike (allows o e) (holds o (table_of o status operands) p)
  entered_alike status operands p e h = (
    seen_same _ _ _ _ _ _ h.operand h.left h.right,
    seen_same _ _ _ _ _ _ (λ r k. sym (h.operand r k)) (sym h.left) (sym h.right),
  )
