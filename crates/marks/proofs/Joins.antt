-- Joins of marks: what they have, that they are least, and that one that adds something has more mays. Assumes nothing.
use Rattle.std.specs.Prelude.{◌≡◌, ℕ, zero, suc, ◌<◌, ◌≤◌, Bool, true, false, ◌⊎◌, Decides, refl}
use Rattle.std.proofs.Common.{subst, inl, inr, ⊎_elim, arith}
use Rattle.std.specs.Int.Bits.{bit_and}
use Rattle.std.proofs.lemmas.Nat.{and_le_l, or_lt}
use Rattle.std.proofs.lemmas.Bool.{both_ways, cases_lt, cases_eq}
use Rattle.operands.specs.Bytes.{Inside, Same}
use Rattle.bits.specs.Bits.{bit}
use Rattle.bits.specs.Mays.{Marked, May}
use Rattle.std.proofs.lemmas.Nat.Bits.{bit_at_and, bit_at_or}
use Rattle.marks.specs.declared.mark.Marks.{Marks}
use Rattle.marks.specs.Marks.{Between, marks_has, count_mays, marks_rank, marks_joined}
use Rattle.marks.specs.Closed.{joined_low, joined_high}
use Rattle.marks.specs.Least.{may_between}
use Rattle.marks.proofs.Members.{low_below, low_has, high_has, low_same, high_same, between_may, Exactly, same_marked, same_ends, exactly_within}

joined_exactly : (x y : Marks) → Exactly (joined_low x y) (joined_high x y) (λ k v. May (marks_has x) k v ⊎ May (marks_has y) k v)
joined_exactly x y k v h =
    let a = bit_at_and x.low y.low k in
    let o = bit_at_or x.high y.high k in (
      λ (p, q).
          ⊎_elim (λ g. inr (between_may y k v (omega arith, omega arith)))
          (λ g.
          ⊎_elim (λ i. inr (between_may y k v (omega arith, omega arith))) (λ i. inl (between_may x k v (g, i)))
          (cases_lt (bit x.high k) v))
          (cases_lt v (bit x.low k)),
      λ m.
          ⊎_elim
          (λ p. let w = may_between x k v h p in (omega (arith, w.0), omega (arith, w.1)))
          (λ p. let w = may_between y k v h p in (omega (arith, w.0), omega (arith, w.1)))
          m,
    )

pub first_inside : (x y : Marks) → Inside (marks_has x) (marks_joined x y)
first_inside x y b m = (m.0, λ k h. inl (b, (m, refl)))

pub second_inside : (x y : Marks) → Inside (marks_has y) (marks_joined x y)
second_inside x y b m = (m.0, λ k h. inr (b, (m, refl)))

pub joined_within : (x y : Marks) (l h : ℕ) → l ≡ joined_low x y → h ≡ joined_high x y → bit_and l h ≡ l
joined_within x y l h el eh =
    rw (el, eh)
    (exactly_within _ _ _ (omega (arith, and_le_l x.low y.low, low_below x)) (joined_exactly x y) x.high (first_inside x y x.high (high_has x)))

-- the marks that the join answers
abbrev pub joined_marks : Marks → Marks → Marks
joined_marks x y =
    record {
      low = joined_low x y;
      high = joined_high x y;
      within = joined_within x y _ _ refl refl;
      small = or_lt 8 x.high y.high x.small y.small;
    }

pub joined_same : (x y : Marks) (l h : ℕ) → l ≡ joined_low x y → h ≡ joined_high x y → Same (Marked (Between l h)) (marks_joined x y)
joined_same x y l h el eh =
    same_ends l h _ _ _ el eh (same_marked _ _ (λ k v. May (marks_has x) k v ⊎ May (marks_has y) k v) (joined_exactly x y))

-- the lowest n bits of the first leave no more than those of the second
Inner : Marks → Marks → ℕ → Type 0
Inner x j n = (k : ℕ) → k < n → (bit j.low k ≤ bit x.low k) × (bit x.high k ≤ bit j.high k)

count_mono : (x j : Marks) (n : ℕ) → Inner x j n → count_mays x.low x.high n ≤ count_mays j.low j.high n
unfolding count_mays Inner
count_mono x j zero f = omega arith
count_mono x j (suc n) f = omega (arith, f n (omega arith), count_mono x j n (λ k p. f k (omega arith)))

-- with as many mays, the second leaves no more than the first
count_inner : (x j : Marks) (n : ℕ) → Inner x j n → count_mays j.low j.high n ≤ count_mays x.low x.high n → Inner j x n
unfolding count_mays Inner
count_inner x j zero f e k p = absurd (omega arith)
count_inner x j (suc n) f e k p =
    let g : Inner x j n = λ i q. f i (omega arith) in
    let m = count_mono x j n g in
    let t = f n (omega arith) in
    let last : (bit x.low n ≤ bit j.low n) × (bit j.high n ≤ bit x.high n) = (omega arith, omega arith) in
    ⊎_elim (λ lt. count_inner x j n g (omega arith) k lt)
    (λ ge. let z : n ≡ k = omega arith in subst (λ i. (bit x.low i ≤ bit j.low i) × (bit j.high i ≤ bit x.high i)) z last)
    (cases_lt k n)

-- marks that have all members of others, and more, have a greater rank
rank_rises : (x j : Marks) → Inside (marks_has x) (marks_has j) → (Inside (marks_has j) (marks_has x) → ⊥) → marks_rank x < marks_rank j
unfolding Inner
rank_rises x j f n =
    let i : Inner x j 8 = λ k h. (((f x.low (low_has x)).1 k h).0, ((f x.high (high_has x)).1 k h).1) in
    ⊎_elim (λ lt. lt)
    (λ ge.
    let o = count_inner x j 8 i ge in
    absurd (n (λ b m. (m.0, λ k h. (omega (arith, (m.1 k h).0, (o k h).0), omega (arith, (m.1 k h).1, (o k h).1))))))
    (cases_lt (marks_rank x) (marks_rank j))

-- one of the ends of other marks around x is no member of x
other_end : (x j : Marks) → Inside (marks_has x) (marks_has j) → ((j.low ≡ x.low) × (j.high ≡ x.high) → ⊥) → (b : ℕ) × (marks_has j b × (marks_has x b → ⊥))
other_end x j f n =
    ⊎_elim
    (λ e. (j.high, (high_has j, λ m. n (e, high_same j x m (f x.high (high_has x))))))
    (λ d. (j.low, (low_has j, λ m. d (low_same j x m (f x.low (low_has x))))))
    (cases_eq j.low x.low)

module _ (x y j : Marks) (s : Same (marks_has j) (marks_joined x y)) (r : Bool) (d : Decides r ((j.low ≡ x.low) × (j.high ≡ x.high) → ⊥)) where
  inside : Inside (marks_has x) (marks_has j)
  inside b m = s.1 b (first_inside x y b m)

  pub joined_adds : Decides r ((b : ℕ) × (marks_joined x y b × (marks_has x b → ⊥)))
  joined_adds = (
    λ t. let w = other_end x j inside (d.0 t) in (w.0, (s.0 w.0 w.1.0, w.1.1)),
    λ (b, (m, n)). d.1 (λ e. n (rw (e.0, e.1) at (s.1 b m))),
  )

  pub joined_rises : r ≡ true → marks_rank x < marks_rank j
  joined_rises t = rank_rises x j inside (λ back. let w = other_end x j inside (d.0 t) in w.1.1 (back w.0 w.1.0))

  pub joined_rests : r ≡ false → Inside (marks_joined x y) (marks_has x)
  joined_rests f b m =
      let same = λ (e : (j.low ≡ x.low) × (j.high ≡ x.high)). rw (e.0, e.1) at (s.1 b m) in
      ⊎_elim
      (λ e. ⊎_elim (λ g. same (e, g)) (λ n. absurd (both_ways r f (d.1 (λ w. n w.1)))) (cases_eq j.high x.high))
      (λ n. absurd (both_ways r f (d.1 (λ w. n w.0))))
      (cases_eq j.low x.low)
