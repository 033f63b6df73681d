-- What a store leaves of an entry. Assumes nothing.
use Rattle.std.proofs.Common.{◌≡◌, ℕ, ◌<◌, ◌≤◌, Bool, true, false, not, ◌&&◌, eqb, ltb, ◌≢◌, List, length, get_or, set, replicate, Some, None, Option, sym, refl, ap, ◌∙◌, subst, ⊎_elim, arith, get_or-set_other, get_or-set_same}
use lib.ListN.{length-replicate, get_or-replicate}
use Rattle.std.proofs.lemmas.Bool.{cases_lt, cases_eq, eq-eqb, ne_eqb, lt-ltb}
use Rattle.instructions.specs.declared.field.Side.{Side}
use Rattle.instructions.specs.declared.field.Side.TheVariants.{Left, Right}
use Rattle.operands.specs.Bytes.{Bytes, Same, Every}
use Rattle.operands.specs.Bytes.One.{keep}
use Rattle.operands.specs.Operations.{Operations}
use Rattle.effects.specs.Usage.{is_side}
use Rattle.flow.specs.States.{State, Alike, put, unready_part, Nothing, selected, start_register, start}
use Rattle.flow.specs.Tables.{marked}
use Rattle.flow.specs.Entries.{allows}
use Rattle.flow.specs.declared.entry.Entry.{Entry}
use Rattle.flow.proofs.Parts.{same_then, same_else, seen_register}

pub same_trans : (P Q R : Bytes) → Same P Q → Same Q R → Same P R
same_trans P Q R f g = (λ b m. g.0 b (f.0 b m), λ b m. f.1 b (g.1 b m))

pub same_sym : (P Q : Bytes) → Same P Q → Same Q P
same_sym P Q f = (f.1, f.0)

-- two states that have the same parts
pub alike_parts : (s u : State) → ((k : ℕ) → k < 18 → Same (s k) (u k)) → Alike s u
alike_parts s u f = (λ k h. (f k h).0, λ k h. (f k h).1)

pub put_here : (s : State) (t k : ℕ) (P : Bytes) → k ≡ t → Same P (put s t P k)
put_here s t k P e = same_then (eqb k t) P (s k) (eq-eqb k t e)

pub put_other : (s : State) (t k : ℕ) (P : Bytes) → k ≢ t → Same (s k) (put s t P k)
put_other s t k P n = same_else (eqb k t) P (s k) (ne_eqb k t n)

pub unready_above : (b : Side) → 16 ≤ unready_part b
unready_above Left = omega arith
unready_above Right = omega arith

pub unready_below : (b : Side) → unready_part b < 18
unready_below Left = omega arith
unready_below Right = omega arith

-- a select leaves the registers
pub selected_register : (b : Option Side) (s : State) (k : ℕ) → k < 16 → Same (s k) (selected b s k)
selected_register None s k h = (λ b m. m, λ b m. m)
selected_register (Some b) s k h = put_other s (unready_part b) k Nothing (let u = unready_above b in omega arith)

-- the mark of a bank
abbrev mark_of : Side → Bool → Bool → Bool
mark_of Left l r = l
mark_of Right l r = r

mark_stored : (side : Side) (b : Option Side) (l l' r r' : Bool) → l' ≡ (l && not (is_side Left b)) → r' ≡ (r && not (is_side Right b)) → mark_of side l' r' ≡ (mark_of side l r && not (is_side side b))
mark_stored Left b l l' r r' e f = e
mark_stored Right b l l' r r' e f = f

mark_both : (side : Side) (l r : Bool) → l ≡ true → r ≡ true → mark_of side l r ≡ true
mark_both Left l r e f = e
mark_both Right l r e f = f

marked_false : Same (marked false) Nothing
marked_false = (λ b e. let z : ◌≡◌ {A = ℕ} 0 1 = cc in absurd (omega arith), λ b e. absurd e)

and_true : (m : Bool) → (m && true) ≡ m
and_true true = refl
and_true false = refl

and_false : (m : Bool) → (m && false) ≡ false
and_false true = refl
and_false false = refl

marked_same : (m n : Bool) → m ≡ n → Same (marked m) (marked n)
marked_same m n e = subst (λ z. Same (marked m) (marked z)) e (λ b t. t, λ b t. t)

-- the marks after a select
selected_mark : (b : Option Side) (s : State) (side : Side) (m : Bool) → Same (marked m) (s (unready_part side)) → Same (marked (m && not (is_side side b))) (selected b s (unready_part side))
selected_mark None s side m h = same_trans _ _ _ (marked_same (m && true) m (and_true m)) h
selected_mark (Some Left) s Left m h = same_trans _ _ _ (marked_same (m && false) false (and_false m)) marked_false
selected_mark (Some Left) s Right m h = same_trans _ _ _ (marked_same (m && true) m (and_true m)) h
selected_mark (Some Right) s Left m h = same_trans _ _ _ (marked_same (m && true) m (and_true m)) h
selected_mark (Some Right) s Right m h = same_trans _ _ _ (marked_same (m && false) false (and_false m)) marked_false

-- a part above the registers belongs to a bank
side_part : (k : ℕ) → 16 ≤ k → k < 18 → (side : Side) × (k ≡ unready_part side)
side_part k h l = ⊎_elim (λ e. (Left, omega arith)) (λ n. (Right, omega arith)) (cases_eq k 16)

module _ {K : Type 0} (o : Operations K) where
  allows_register : (e : Entry K) (k : ℕ) → k < 16 → Same (o.has (get_or e.operands k o.some)) (allows o e k)
  allows_register e k h = seen_register o (λ r. get_or e.operands r o.some) e.left e.right k h

  allows_mark : (e : Entry K) (side : Side) → Same (marked (mark_of side e.left e.right)) (allows o e (unready_part side))
  allows_mark e Left = (λ b m. m, λ b m. m)
  allows_mark e Right = (λ b m. m, λ b m. m)

  -- an operand stored in a register, and a bank selected
  pub stored_alike : (e f : Entry K) (t : ℕ) (b : Option Side) (v : K) → t < 16 → t < length e.operands → f.operands ≡ set e.operands t v → f.left ≡ (e.left && not (is_side Left b)) → f.right ≡ (e.right && not (is_side Right b)) → Alike (allows o f) (selected b (put (allows o e) t (o.has v)))
  stored_alike e f t b v ht hl eo el er =
      let s = put (allows o e) t (o.has v) in
      let d = o.some in
      let cell : (k : ℕ) → k < 16 → Same (o.has (get_or f.operands k d)) (s k) =
      λ k h. subst (λ (xs : List K). Same (o.has (get_or xs k d)) (s k)) (sym eo)
      (⊎_elim
      (λ z. same_trans _ _ _ (subst (λ (x : K). Same (o.has x) (o.has v)) (sym (ap (λ i. get_or (set e.operands t v) i d) z ∙ get_or-set_same e.operands t v d hl)) (λ b m. m, λ b m. m)) (put_here (allows o e) t k (o.has v) z))
      (λ n. same_trans _ _ _ (subst (λ (x : K). Same (o.has x) (allows o e k)) (sym (get_or-set_other e.operands t k v d n)) (allows_register e k h)) (put_other (allows o e) t k (o.has v) n))
      (cases_eq k t)) in
      let mark : (side : Side) → Same (allows o f (unready_part side)) (selected b s (unready_part side)) =
      λ side. same_trans _ _ _ (same_sym _ _ (allows_mark f side))
      (same_trans _ _ _ (marked_same (mark_of side f.left f.right) (mark_of side e.left e.right && not (is_side side b)) (mark_stored side b e.left f.left e.right f.right el er))
      (selected_mark b s side (mark_of side e.left e.right) (same_trans _ _ _ (allows_mark e side) (put_other (allows o e) t (unready_part side) (o.has v) (let u = unready_above side in omega arith))))) in
      alike_parts (allows o f) (selected b s)
      (λ k h. ⊎_elim
      (λ l. same_trans _ _ _ (same_sym _ _ (allows_register f k l)) (same_trans _ _ _ (cell k l) (selected_register b s k l)))
      (λ g. let w = side_part k g h in subst (λ i. Same (allows o f i) (selected b s i)) (sym w.1) (mark w.0))
      (cases_lt k 16))

  get_or_start : (all low : K) (k : ℕ) → k < 16 → (k ≡ 8 → get_or (set (replicate 16 all) 8 low) k o.some ≡ low) × (k ≢ 8 → get_or (set (replicate 16 all) 8 low) k o.some ≡ all)
  get_or_start all low k h =
      let xs = replicate 16 all in (
        (λ e. ap (λ i. get_or (set xs 8 low) i o.some) e ∙ get_or-set_same xs 8 low o.some (omega (arith, length-replicate 16 all))),
        (λ n. get_or-set_other xs 8 k low o.some n ∙ get_or-replicate 16 k all o.some h),
      )

  -- any bytes, in R10 the lowest bit of any byte, both banks marked
  pub start_alike : (e : Entry K) (all low : K) → Same (o.has all) Every → Same (o.has low) (o.ones (keep 1) Every) → e.operands ≡ set (replicate 16 all) 8 low → e.left ≡ true → e.right ≡ true → Alike (allows o e) (start o)
  start_alike e all low sa sl eo el er =
      alike_parts (allows o e) (start o)
      (λ k h. ⊎_elim
      (λ l.
      let cell = get_or_start all low k l in
      let read : get_or e.operands k o.some ≡ get_or (set (replicate 16 all) 8 low) k o.some = ap (λ (xs : List K). get_or xs k o.some) eo in
      same_trans _ _ _ (same_sym _ _ (allows_register e k l))
      (same_trans _ _ _
      (⊎_elim
      (λ z. same_trans _ _ _ (subst (λ (x : K). Same (o.has x) (o.ones (keep 1) Every)) (sym (read ∙ cell.0 z)) sl) (same_then (eqb k 8) (o.ones (keep 1) Every) Every (eq-eqb k 8 z)))
      (λ n. same_trans _ _ _ (subst (λ (x : K). Same (o.has x) Every) (sym (read ∙ cell.1 n)) sa) (same_else (eqb k 8) (o.ones (keep 1) Every) Every (ne_eqb k 8 n)))
      (cases_eq k 8))
      (same_then (ltb k 16) (start_register o k) (λ b. Unit {0}) (lt-ltb k 16 l))))
      (λ g.
      let w = side_part k g h in
      let set-mark : (side : Side) → mark_of side e.left e.right ≡ true = λ side. mark_both side e.left e.right el er in
      subst (λ i. Same (allows o e i) (start o i)) (sym w.1)
      (same_trans _ _ _ (same_sym _ _ (allows_mark e w.0)) (same_trans _ _ _ (marked_same (mark_of w.0 e.left e.right) true (set-mark w.0)) (start_mark w.0))))
      (cases_lt k 16))
    where
      start_mark : (side : Side) → Same (marked true) (start o (unready_part side))
      start_mark Left = (λ b m. tt, λ b m. refl)
      start_mark Right = (λ b m. tt, λ b m. refl)
