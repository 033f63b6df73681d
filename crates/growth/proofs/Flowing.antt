-- Sending an entry to a word, register by register. Assumes nothing.
use Rattle.std.proofs.Common.{◌≡◌, ℕ, ◌+◌, ◌-◌, ◌*◌, ◌/◌, ◌%◌, ◌<◌, ◌≤◌, Bool, true, false, cond, not, ◌&&◌, ◌||◌, eqb, ◌≢◌, ◌⊎◌, List, ◌++◌, length, get_or, set, take, drop, sym, refl, ap, ◌∙◌, subst, inl, inr, ⊎_elim, add-one, arith, get_or-set_other, get_or-set_same}
use Rattle.std.proofs.lemmas.Bool.{cases_lt, cases_Bool, both_ways, or_parts, or_cases, eqb-true, eqb-false, eq-eqb, cond_both, or_left, or_right, and_parts, and_cases, not-true, not-false, not_from_true}
use Rattle.std.proofs.lemmas.List.{get_or-take, get_or-drop, get_or_append_left, get_or-append_right}
use Rattle.std.proofs.Math.Seq.{length-take-le}
use borrow.Rule.Slice.PartMut.{mid_of, put_mid}
use Rattle.operands.specs.Bytes.{Bytes}
use Rattle.operands.specs.Operations.{Operations}
use Rattle.flow.specs.declared.entry.Entry.{Entry}
use Rattle.growth.specs.Measures.{sum_below, marks_in, weight, ranks_at, weight_at}
use Rattle.growth.specs.Memory.{SameAt, due_status}
use Rattle.growth.specs.Growth.{Blended, Due, Flowed}
use Rattle.growth.proofs.Seen.{seen_more, register_inside, left_inside, right_inside}
use Rattle.growth.proofs.Sums.{sum_same, sum_bound}

abbrev count : Bool → ℕ
count b = cond b 1 0

-- what a due status byte tells
due : (a b : Bool) → Due (due_status a b)
due true true = (omega arith, (omega arith, refl))
due true false = (omega arith, (omega arith, refl))
due false true = (omega arith, (omega arith, refl))
due false false = (omega arith, (omega arith, refl))

due_left : (a b : Bool) → eqb (due_status a b / 2 % 2) 1 ≡ a
due_left true true = refl
due_left true false = refl
due_left false true = refl
due_left false false = refl

due_right : (a b : Bool) → eqb (due_status a b / 4 % 2) 1 ≡ b
due_right true true = refl
due_right true false = refl
due_right false true = refl
due_right false false = refl

due_marks : (a b : Bool) → marks_in (due_status a b) ≡ count a + count b
due_marks true true = refl
due_marks true false = refl
due_marks false true = refl
due_marks false false = refl

count_or : (m h : Bool) → count h ≤ count (m || h)
count_or true true = omega arith
count_or true false = omega arith
count_or false true = omega arith
count_or false false = omega arith

count_new : (m h : Bool) → (m && not h) ≡ true → count h < count (m || h)
count_new m h e =
    let p = and_parts m (not h) e in
    subst (λ z. count h < count (z || h)) (sym p.0) (subst (λ z. count z < 1) (sym (not-true h p.1)) (omega arith))

count_test : (b : ℕ) → b < 2 → b ≡ count (eqb b 1)
count_test b h =
    cond_both (eqb b 1) 1 0 (λ z. b ≡ z) (λ t. eqb-true b 1 t) (λ t. ⊎_elim (λ z. omega arith) (λ z. absurd (eqb-false b 1 t (omega arith))) (cases_lt b 1))

-- a due word weighs no more if its ranks and marks rose, or if it had no entry
weight_falls : (most b c r r' : ℕ) → c % 2 ≡ 1 → c < 16 → r' + marks_in c ≤ most → (b % 2 ≡ 1 → r + marks_in b < r' + marks_in c) → weight most c r' ≤ weight most b r
weight_falls most b c r r' odd lt h f =
    subst (λ z. cond z (2 * (most - (r' + marks_in c)) + c / 8) (2 * most + 2) ≤ weight most b r) (sym (eq-eqb _ _ odd))
    (cond_both (eqb (b % 2) 1) _ _ (λ z. 2 * (most - (r' + marks_in c)) + c / 8 ≤ z)
    (λ t. omega (arith, f (eqb-true _ _ t)))
    (λ t. omega arith))

-- a list whose sixteen elements from a on are ys, and xs elsewhere
module _ {X : Type 0} (a : ℕ) (xs ys : List X) (d : X) (room : a + 16 ≤ length xs) (long : length ys ≡ 16) where
  front : length (take a xs) ≡ a
  front = length-take-le a xs (omega arith)

  part_is : (k : ℕ) → k < 16 → get_or (mid_of a 16 xs) k d ≡ get_or xs (a + k) d
  part_is k h = get_or-take 16 (drop a xs) k d h ∙ get_or-drop a xs k d

  put_inside : (k : ℕ) → k < 16 → get_or (put_mid a 16 xs ys) (a + k) d ≡ get_or ys k d
  put_inside k h =
      let e : a + k - a ≡ k = omega arith in
      get_or-append_right (take a xs) _ a (a + k) d front (omega arith) ∙ ap (λ i. get_or (ys ++ drop 16 (drop a xs)) i d) e ∙ get_or_append_left ys _ d k (omega (arith, long))

  put_outside : (i : ℕ) → (i < a) ⊎ (a + 16 ≤ i) → get_or (put_mid a 16 xs ys) i d ≡ get_or xs i d
  put_outside i h =
      ⊎_elim
      (λ b. get_or_append_left (take a xs) _ d i (omega (arith, front)) ∙ get_or-take a xs i d b)
      (λ b.
      let e : a + (16 + (i - a - 16)) ≡ i = omega arith in
      get_or-append_right (take a xs) _ a i d front (omega arith) ∙ get_or-append_right ys _ 16 (i - a) d long (omega arith)
      ∙ get_or-drop 16 (drop a xs) (i - a - 16) d ∙ get_or-drop a xs _ d ∙ ap (λ j. get_or xs j d) e)
      h

module _ {K : Type 0} (o : Operations K) (joined : K → K → Bytes) (rank : K → ℕ) (top : ℕ) where
  abbrev at : List K → ℕ → K
  at xs i = get_or xs i o.some

  -- the first r registers of the word q are done
  pub record Partly (bare start : Bool) (q : ℕ) (new operands : List K) (r : ℕ) (risen : Bool) (operands' : List K) : Type 0 where
    pub rest : (i : ℕ) → (i < 16 * q) ⊎ (16 * q + r ≤ i) → at operands' i ≡ at operands i
    pub each : (k : ℕ) → k < r → (b : Bool) × (Blended o joined rank bare (at operands (16 * q + k)) (at new k) (at operands' (16 * q + k)) b × (risen ≡ false → b ≡ false))
    pub quiet : risen ≡ false → start ≡ false
    pub level : bare ≡ false → sum_below r (λ k. rank (at operands (16 * q + k))) ≤ sum_below r (λ k. rank (at operands' (16 * q + k)))
    pub rose : bare ≡ false → risen ≡ true → (start ≡ true) ⊎ (sum_below r (λ k. rank (at operands (16 * q + k))) < sum_below r (λ k. rank (at operands' (16 * q + k))))

  pub partly_none : (bare start : Bool) (q : ℕ) (new operands : List K) → Partly bare start q new operands 0 start operands
  partly_none bare start q new operands =
      record {
        rest = λ i h. refl;
        each = λ k h. absurd (omega arith);
        quiet = λ e. e;
        level = λ e. omega arith;
        rose = λ e f. inl f;
      }

  blended_rank : (old new made : K) (b : Bool) → Blended o joined rank false old new made b → rank old ≤ rank made
  blended_rank old new made b d =
      ⊎_elim (λ t. omega (arith, d.rises refl t)) (λ f. omega (arith, ap rank (d.still refl f))) (cases_Bool b)

  pub partly_more : (bare start : Bool) (q : ℕ) (new operands : List K) (r : ℕ) (risen : Bool) (operands' : List K) (made : K) (added : Bool)
      → 16 * q + r < length operands' → Partly bare start q new operands r risen operands' → (x y : K) → x ≡ at operands' (16 * q + r) → y ≡ at new r → Blended o joined rank bare x y made added
      → Partly bare start q new operands (r + 1) (risen || added) (set operands' (16 * q + r) made)
  partly_more bare start q new operands r risen operands' made added lt p x y ex ey blended =
      let j = 16 * q + r in
      let operands'' = set operands' j made in
      let other : (i : ℕ) → i ≢ j → at operands'' i ≡ at operands' i = λ i n. get_or-set_other operands' j i made o.some n in
      let here : at operands'' j ≡ made = get_or-set_same operands' j made o.some lt in
      let d : Blended o joined rank bare (at operands j) (at new r) made added =
      subst (λ z. Blended o joined rank bare (at operands j) z made added) ey (subst (λ z. Blended o joined rank bare z y made added) (ex ∙ p.rest j (inr (omega arith))) blended) in
      let low : (k : ℕ) → k < r → at operands'' (16 * q + k) ≡ at operands' (16 * q + k) = λ k h. other (16 * q + k) (omega arith) in
      let sums : sum_below r (λ k. rank (at operands'' (16 * q + k))) ≡ sum_below r (λ k. rank (at operands' (16 * q + k))) =
      sum_same r (λ k. rank (at operands'' (16 * q + k))) (λ k. rank (at operands' (16 * q + k))) (λ k h. ap rank (low k h)) in
      let ranked = ap rank here in
      let no_less : bare ≡ false → rank (at operands j) ≤ rank made = λ e. blended_rank _ _ _ _ (subst (λ b. Blended o joined rank b (at operands j) (at new r) made added) e d) in
      rw add-one record {
        rest = λ i h. other i (⊎_elim {C = i ≢ j} (λ a. omega arith) (λ a. omega arith) h) ∙ p.rest i (⊎_elim (λ a. inl a) (λ a. inr (omega arith)) h);
        each = λ k h.
            ⊎_elim
            (λ a. let e = p.each k a in
            (e.0, (subst (λ z. Blended o joined rank bare (at operands (16 * q + k)) (at new k) z e.0) (sym (low k a)) e.1.0, λ f. e.1.1 (or_parts risen added f).0)))
            (λ a. let z : r ≡ k = omega arith in
            subst (λ k. (b : Bool) × (Blended o joined rank bare (at operands (16 * q + k)) (at new k) (at operands'' (16 * q + k)) b × ((risen || added) ≡ false → b ≡ false))) z
            (added, (subst (λ z. Blended o joined rank bare (at operands j) (at new r) z added) (sym here) d, λ f. (or_parts risen added f).1)))
            (cases_lt k r);
        quiet = λ f. p.quiet (or_parts risen added f).0;
        level = λ e. omega (arith, p.level e, sums, ranked, no_less e);
        rose = λ e t.
            ⊎_elim
            (λ a. ⊎_elim (λ t. inl t) (λ lt. inr (omega (arith, lt, sums, ranked, no_less e))) (p.rose e a))
            (λ a. inr (omega (arith, p.level e, sums, ranked, d.rises e a)))
            (or_cases risen added t);
      }

  -- what was done to the sixteen operands of the word q was done to the operands of the table
  pub partly_part : (bare start : Bool) (q n r : ℕ) (new operands cells : List K) (risen : Bool) → n ≡ 16 → r ≡ 16 → 16 * q + 16 ≤ length operands → length cells ≡ 16
      → Partly bare start 0 new (mid_of (16 * q) n operands) r risen cells → Partly bare start q new operands 16 risen (put_mid (16 * q) n operands cells)
  partly_part bare start q n r new operands cells risen en er room long p =
      subst (λ n. Partly bare start q new operands 16 risen (put_mid (16 * q) n operands cells)) (sym en)
      (by (subst (λ r. Partly bare start 0 new (mid_of (16 * q) 16 operands) r risen cells) er (subst (λ n. Partly bare start 0 new (mid_of (16 * q) n operands) r risen cells) en p)))
    where
      all : List K
      all = put_mid (16 * q) 16 operands cells

      part : List K
      part = mid_of (16 * q) 16 operands

      was : (k : ℕ) → k < 16 → at part (16 * 0 + k) ≡ at operands (16 * q + k)
      was k h = let z : 16 * 0 + k ≡ k = omega arith in ap (at part) z ∙ part_is (16 * q) operands cells o.some room long k h

      now : (k : ℕ) → k < 16 → at cells (16 * 0 + k) ≡ at all (16 * q + k)
      now k h = let z : 16 * 0 + k ≡ k = omega arith in ap (at cells) z ∙ sym (put_inside (16 * q) operands cells o.some room long k h)

      before : sum_below 16 (λ k. rank (at part (16 * 0 + k))) ≡ sum_below 16 (λ k. rank (at operands (16 * q + k)))
      before = sum_same 16 (λ k. rank (at part (16 * 0 + k))) (λ k. rank (at operands (16 * q + k))) (λ k h. ap rank (was k h))

      after : sum_below 16 (λ k. rank (at cells (16 * 0 + k))) ≡ sum_below 16 (λ k. rank (at all (16 * q + k)))
      after = sum_same 16 (λ k. rank (at cells (16 * 0 + k))) (λ k. rank (at all (16 * q + k))) (λ k h. ap rank (now k h))

      by : Partly bare start 0 new (mid_of (16 * q) 16 operands) 16 risen cells → Partly bare start q new operands 16 risen all
      by p =
          record {
            rest = λ i h. put_outside (16 * q) operands cells o.some room long i h;
            each = λ k h.
                let e = p.each k h in
                (e.0, (subst (λ z. Blended o joined rank bare z (at new k) (at all (16 * q + k)) e.0) (was k h) (subst (λ z. Blended o joined rank bare (at part (16 * 0 + k)) (at new k) z e.0) (now k h) e.1.0), e.1.1));
            quiet = p.quiet;
            level = λ e. omega (arith, p.level e, before, after);
            rose = λ e t. ⊎_elim (λ a. inl a) (λ lt. inr (omega (arith, lt, before, after))) (p.rose e t);
          }

  module _ (bound : (x : K) → rank x ≤ top) (q : ℕ) (new : Entry K) (operands : List K) (status : List ℕ) (operands' : List K) where
    abbrev old : ℕ
    old = get_or status q 0

    abbrev entered : Bool
    entered = eqb (old % 2) 1

    abbrev bare : Bool
    bare = not entered

    abbrev left : Bool
    left = entered && eqb (old / 2 % 2) 1

    abbrev right : Bool
    right = entered && eqb (old / 4 % 2) 1

    abbrev rising : Bool
    rising = (bare || (new.left && not left)) || (new.right && not right)

    abbrev made : ℕ
    made = due_status (new.left || left) (new.right || right)

    was_bare : old % 2 ≡ 1 → bare ≡ false
    was_bare e = not_from_true entered (eq-eqb _ _ e)

    not_bare : bare ≡ false → old % 2 ≡ 1
    not_bare f = eqb-true _ _ (not-false entered f)

    -- the marks that the word had are those of its status byte, if it had an entry
    had : (m : Bool) → old % 2 ≡ 1 → (entered && m) ≡ m
    had m e = ap (λ b. b && m) (eq-eqb (old % 2) 1 e)

    old_marks : old % 2 ≡ 1 → marks_in old ≡ count left + count right
    old_marks e =
        omega (arith, count_test (old / 2 % 2) (omega arith), count_test (old / 4 % 2) (omega arith), ap count (had (eqb (old / 2 % 2) 1) e), ap count (had (eqb (old / 4 % 2) 1) e))

    -- a mark that adds nothing was there
    no_new : (m k : Bool) → (m && not (entered && k)) ≡ false → m ≡ true → k ≡ true
    no_new m k e t = ⊎_elim (λ a. absurd (both_ways m a t)) (λ a. (and_parts entered k (not-false _ a)).1) (and_cases m (not (entered && k)) e)

    elsewhere : (risen : Bool) → Partly bare rising q new.operands operands 16 risen operands' → (p : ℕ) → p ≢ q → SameAt o operands operands' p
    elsewhere risen h p n r l = h.rest (16 * p + r) (⊎_elim (λ a. inl (omega arith)) (λ a. inr (omega arith)) (cases_lt p q))

    rises : (x x' : ℕ) → old % 2 ≡ 1 → x ≤ x' → (rising ≡ true) ⊎ (x < x') → x + marks_in old < x' + marks_in made
    rises x x' e le w =
        let before = old_marks e in
        let after = due_marks (new.left || left) (new.right || right) in
        let more_left = count_or new.left left in
        let more-right = count_or new.right right in
        ⊎_elim
        (λ a. ⊎_elim
        (λ b. ⊎_elim (λ b. absurd (both_ways bare (was_bare e) b)) (λ b. omega (arith, count_new new.left left b)) (or_cases bare (new.left && not left) b))
        (λ b. omega (arith, count_new new.right right b))
        (or_cases (bare || (new.left && not left)) (new.right && not right) a))
        (λ a. omega arith)
        w

    all_parts : (x y : Bool) (r : ℕ) (risen b : Bool) → x ≡ bare → y ≡ rising → r ≡ 16 → risen ≡ b → Partly x y q new.operands operands r risen operands' → Partly bare rising q new.operands operands 16 b operands'
    all_parts x y r risen b ex ey er eb h =
        subst (λ x. Partly x rising q new.operands operands 16 b operands') ex (subst (λ y. Partly x y q new.operands operands 16 b operands') ey
        (subst (λ r. Partly x y q new.operands operands r b operands') er (subst (λ b. Partly x y q new.operands operands r b operands') eb h)))

    pub partly_flowed : (x y : Bool) (r : ℕ) (risen : Bool) (v : ℕ) → x ≡ bare → y ≡ rising → r ≡ 16 → risen ≡ true → v ≡ made → Partly x y q new.operands operands r risen operands' → q < length status
        → Flowed o joined rank top q new status operands (set status q v) operands'
    partly_flowed x y n b v ex ey en eb ev parts lt =
        let h = all_parts x y n b true ex ey en eb parts in
        let now : get_or (set status q v) q 0 ≡ made = get_or-set_same status q v 0 lt ∙ ev in
        let is-due = due (new.left || left) (new.right || right) in
        let left-now : eqb (get_or (set status q v) q 0 / 2 % 2) 1 ≡ (new.left || left) = ap (λ b. eqb (b / 2 % 2) 1) now ∙ due_left _ _ in
        let right-now : eqb (get_or (set status q v) q 0 / 4 % 2) 1 ≡ (new.right || right) = ap (λ b. eqb (b / 4 % 2) 1) now ∙ due_right _ _ in
        record {
          rest = λ p n. (get_or-set_other status q p v 0 n, elsewhere true h p n);
          entered = inl (subst Due (sym now) is-due);
          first = λ e.
              seen_more o _ _ _ _ _ _ (λ r l. (h.each r l).1.0.first (was_bare e))
              (λ t. left-now ∙ or_right new.left left (had _ e ∙ t)) (λ t. right-now ∙ or_right new.right right (had _ e ∙ t));
          second =
              seen_more o _ _ _ _ _ _ (λ r l. (h.each r l).1.0.second)
              (λ t. left-now ∙ or_left new.left left t) (λ t. right-now ∙ or_left new.right right t);
          least = λ lub u a b kept sent.
              seen_more o _ _ _ _ _ _
              (λ r l. (h.each r l).1.0.least lub (u r) (λ f. register_inside o _ u _ _ a b (kept (not_bare f)) r l) (register_inside o _ u _ _ a b sent r l))
              (λ t. ⊎_elim (λ z. left_inside o _ u _ _ a b sent z) (λ z. let w = and_parts _ _ z in left_inside o _ u _ _ a b (kept (eqb-true _ _ w.0)) w.1) (or_cases new.left left (sym left-now ∙ t)))
              (λ t. ⊎_elim (λ z. right_inside o _ u _ _ a b sent z) (λ z. let w = and_parts _ _ z in right_inside o _ u _ _ a b (kept (eqb-true _ _ w.0)) w.1) (or_cases new.right right (sym right-now ∙ t)));
          lighter =
              subst (λ b. weight (16 * top + 2) b (ranks_at o rank operands' q) ≤ weight_at o rank top status operands q) (sym now)
              (weight_falls (16 * top + 2) old made (ranks_at o rank operands q) (ranks_at o rank operands' q) is-due.1.1 is-due.1.0
              (omega (arith, sum_bound 16 top (λ r. rank (at operands' (16 * q + r))) (λ r. bound _)))
              (λ e. rises (ranks_at o rank operands q) (ranks_at o rank operands' q) e (h.level (was_bare e)) (h.rose (was_bare e) refl)));
        }

    pub partly_still : (x y : Bool) (r : ℕ) (risen : Bool) → x ≡ bare → y ≡ rising → r ≡ 16 → risen ≡ false → Partly x y q new.operands operands r risen operands' → Flowed o joined rank top q new status operands status operands'
    partly_still x y n b ex ey en eb parts =
        let h = all_parts x y n b false ex ey en eb parts in
        let s = or_parts _ _ (h.quiet refl) in
        let f = (or_parts _ _ s.0).0 in
        let odd = not_bare f in
        let same : SameAt o operands operands' q = λ r l. (h.each r l).1.0.still f ((h.each r l).1.1 refl) in
        record {
          rest = λ p n. (refl, elsewhere false h p n);
          entered = inr (refl, (odd, same));
          first = λ e. seen_more o _ _ _ _ _ _ (λ r l. (h.each r l).1.0.first f) (λ t. t) (λ t. t);
          second = seen_more o _ _ _ _ _ _ (λ r l. (h.each r l).1.0.second) (no_new new.left (eqb (old / 2 % 2) 1) (or_parts _ _ s.0).1) (no_new new.right (eqb (old / 4 % 2) 1) s.1);
          least = λ lub u a b kept sent.
              seen_more o _ _ _ _ _ _
              (λ r l. (h.each r l).1.0.least lub (u r) (λ f. register_inside o _ u _ _ a b (kept odd) r l) (register_inside o _ u _ _ a b sent r l))
              (λ t. left_inside o _ u _ _ a b (kept odd) t) (λ t. right_inside o _ u _ _ a b (kept odd) t);
          lighter =
              let e : ranks_at o rank operands' q ≡ ranks_at o rank operands q = sum_same 16 (λ r. rank (at operands' (16 * q + r))) (λ r. rank (at operands (16 * q + r))) (λ r l. ap rank (same r l)) in
              subst (λ z. weight (16 * top + 2) old z ≤ weight_at o rank top status operands q) (sym e) (omega arith);
        }
