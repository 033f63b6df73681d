-- The machine words of an answer leave exactly the possible outcomes. Assumes nothing.
use Rattle.std.proofs.Common.{◌≡◌, ℕ, zero, suc, ◌+◌, ◌-◌, ◌*◌, ◌/◌, ◌%◌, ◌<◌, ◌≤◌, min, ◌∙◌, ⊎_elim, arith}
use lib.Bits.{bit_and, bit_or, bit_xor}
use Rattle.std.proofs.lemmas.Nat.{or_lt, xor_lt}
use Rattle.std.proofs.lemmas.Bool.{cases_eq, cases_lt}
use Rattle.operands.specs.Bytes.{Same, One, Two, one, two, kept_bits}
use Rattle.operands.specs.Bytes.One.{rotate, keep}
use Rattle.operands.specs.Bytes.Two.{and, xor, sum, carry}
use Rattle.bits.specs.Bits.{bit, carry_into}
use Rattle.bits.specs.Mays.{Marked, May, OneMay, TwoMay, may_ones, may_twos}
use Rattle.std.proofs.lemmas.Nat.Bits.{bit_at_and, bit_at_or, bit_at_xor, bit_at_above}
use Rattle.bits.proofs.Bits.{bit_mod, bit_mod_past, bit-rotated, bit_add, carry_le, carry_out, and_within}
use Rattle.bits.proofs.Mays.{mul_bits, one_below}
use Rattle.marks.specs.declared.mark.Marks.{Marks}
use Rattle.marks.specs.Marks.{Between, marks_has, marks_lawful}
use Rattle.marks.specs.Closed.{open_bits, carries_of, open_xor, open_sum, least_of, most_of, two_low, two_high}
use Rattle.marks.specs.Least.{may_between}
use Rattle.marks.proofs.Members.{low_below, ordered, high_has, either_end, between_may, carry_ordered, carry_between, between_carry, Exactly, exactly_within, same_marked, same_ends}

pub one_exactly : (f : One) (x : Marks) → Exactly (one f x.low) (one f x.high) (OneMay f (marks_has x))
one_exactly (rotate n) x k v h =
    let m = n % 8 in
    let el = bit-rotated m x.low k (omega arith) (low_below x) h in
    let eh = bit-rotated m x.high k (omega arith) x.small h in (
      λ b. between_may x ((k + m) % 8) v (omega (arith, b.0, el), omega (arith, b.1, eh)),
      λ o. let b = may_between x ((k + m) % 8) v (omega arith) o in (omega (arith, b.0, el), omega (arith, b.1, eh)),
    )
one_exactly (keep n) x k v h =
    let m = kept_bits (n % 8) in
    let el = λ (g : k < m). bit_mod x.low m k g in
    let eh = λ (g : k < m). bit_mod x.high m k g in
    let zl = λ (g : m ≤ k). bit_mod_past x.low m k g in
    let zh = λ (g : m ≤ k). bit_mod_past x.high m k g in (
      λ b. (λ g. between_may x k v (omega (arith, b.0, el g), omega (arith, b.1, eh g)), λ g. omega (arith, b.1, zh g)),
      λ o.
          ⊎_elim
          (λ g. let b = may_between x k v h (o.0 g) in (omega (arith, b.0, el g), omega (arith, b.1, eh g)))
          (λ g. (omega (arith, zl g, o.1 g), omega (arith, zh g, o.1 g)))
          (cases_lt k m),
    )

-- a total between those of the least and of the greatest parts has parts between theirs
split : (a b c d t : ℕ) → a ≤ b → c ≤ d → a + c ≤ t → t ≤ b + d → (u v : ℕ) × ((a ≤ u) × (u ≤ b) × (c ≤ v) × (v ≤ d) × (t ≡ u + v))
split a b c d t p q r s =
    let u : ℕ = min b (t - c) in
    (u, t - u, (omega arith, omega arith, omega arith, omega arith, omega arith))

-- a total of bits that two marks leave
split_may : (x y : Marks) (k t : ℕ) → bit x.low k + bit y.low k ≤ t → t ≤ bit x.high k + bit y.high k → (u v : ℕ) × (May (marks_has x) k u × May (marks_has y) k v × (t ≡ u + v))
split_may x y k t p q =
    let s = split (bit x.low k) (bit x.high k) (bit y.low k) (bit y.high k) t (ordered x k) (ordered y k) p q in
    (s.0, s.1, (between_may x k s.0 (s.2.0, s.2.1), between_may y k s.1 (s.2.2, s.2.3), s.2.4))

-- Opened b o lo hi k: bit k of b is that of the total lo, and bit k of o says whether a total up to hi has another
Opened : ℕ → ℕ → ℕ → ℕ → ℕ → Type 0
Opened b o lo hi k = (lo ≤ hi) × (bit b k ≡ lo % 2) × (lo ≡ hi → bit o k ≡ 0) × (lo < hi → bit o k ≡ 1)

module _ (b o lo hi k v : ℕ) (g : Opened b o lo hi k) where
  opened_total : Between (least_of b o) (most_of b o) k v → (t : ℕ) × ((lo ≤ t) × (t ≤ hi) × (v ≡ t % 2))
  unfolding Opened
  opened_total (p, q) =
      let l = bit_at_xor (bit_or b o) o k in
      let h = bit_at_or b o k in
      ⊎_elim
      (λ e. let z = g.2 e in (lo, (omega arith, omega arith, omega (arith, g.1))))
      (λ n.
      let z = g.3 (omega (arith, g.0)) in
      ⊎_elim (λ e. (lo, (omega arith, omega (arith, g.0), e))) (λ d. (lo + 1, (omega arith, omega (arith, g.0), omega arith))) (cases_eq v (lo % 2)))
      (cases_eq lo hi)

  total_opened : (t : ℕ) → lo ≤ t → t ≤ hi → v ≡ t % 2 → Between (least_of b o) (most_of b o) k v
  unfolding Opened
  total_opened t p q e =
      let l = bit_at_xor (bit_or b o) o k in
      let h = bit_at_or b o k in
      ⊎_elim
      (λ s. let z = g.2 s in (omega (arith, g.1), omega (arith, g.1)))
      (λ n. let z = g.3 (omega (arith, g.0)) in (omega arith, omega arith))
      (cases_eq lo hi)

bit_carries : (a b k : ℕ) → k < 8 → bit (carries_of a b) k ≡ carry_into a b k
bit_carries a b k h =
    omega (arith, bit_at_xor (bit_xor a b) ((a + b) % 256) k, bit_at_xor a b k, bit_mod (a + b) 8 k h, bit_add a b k, carry_le a b k)

xor_opened : (x y : Marks) (k : ℕ) →
    Opened (bit_xor x.low y.low) (open_xor x y) (bit x.low k + bit y.low k) (bit x.high k + bit y.high k) k
unfolding Opened
xor_opened x y k =
    let a = ordered x k in
    let b = ordered y k in
    let o = bit_at_or (open_bits x) (open_bits y) k in
    let p = bit_at_xor x.low x.high k in
    let q = bit_at_xor y.low y.high k in
    (omega arith, bit_at_xor x.low y.low k, λ e. omega arith, λ e. omega arith)

sum_opened : (x y : Marks) (k : ℕ) → k < 8 →
    Opened ((x.low + y.low) % 256) (open_sum x y) (bit x.low k + bit y.low k + carry_into x.low y.low k) (bit x.high k + bit y.high k + carry_into x.high y.high k) k
unfolding Opened
sum_opened x y k h =
    let a = ordered x k in
    let b = ordered y k in
    let c = carry_ordered x y k in
    let d = carry_le x.high y.high k in
    let m = bit_at_or (open_xor x y) (bit_xor (carries_of x.low y.low) (carries_of x.high y.high)) k in
    let n = bit_at_xor (carries_of x.low y.low) (carries_of x.high y.high) k in
    let l = bit_carries x.low y.low k h in
    let g = bit_carries x.high y.high k h in
    let o = bit_at_or (open_bits x) (open_bits y) k in
    let p = bit_at_xor x.low x.high k in
    let q = bit_at_xor y.low y.high k in
    (omega arith, bit_mod (x.low + y.low) 8 k h ∙ bit_add x.low y.low k, λ e. omega arith, λ e. omega arith)

-- low and high of a bit that is the smaller of two
and_between : (a b c d v : ℕ) → b ≤ 1 → d ≤ 1 → (u w : ℕ) → (a ≤ u) × (u ≤ b) → (c ≤ w) × (w ≤ d) → v ≡ u * w → (min a c ≤ v) × (v ≤ min b d)
and_between a b c d v hb hd u w (p, q) (r, s) e =
    let m = mul_bits u w (omega arith) (omega arith) in
    (omega arith, omega arith)

pub two_exactly : (f : Two) (x y : Marks) → Exactly (two_low f x y) (two_high f x y) (TwoMay f (marks_has x) (marks_has y))
two_exactly and x y k v h =
    let el = bit_at_and x.low y.low k in
    let eh = bit_at_and x.high y.high k in
    let a = ordered x k in
    let b = ordered y k in
    let ml = mul_bits (bit x.low k) (bit y.low k) (omega arith) (omega arith) in
    let mh = mul_bits (bit x.high k) (bit y.high k) (omega arith) (omega arith) in (
      λ m.
          ⊎_elim
          (λ e. (bit x.low k, bit y.low k, (between_may x k _ (omega arith, a), between_may y k _ (omega arith, b), omega arith)))
          (λ e. (bit x.high k, bit y.high k, (between_may x k _ (a, omega arith), between_may y k _ (b, omega arith), omega arith)))
          (either_end (bit (two_low and x y) k) (bit (two_high and x y) k) v m.0 m.1 (omega arith)),
      λ o.
          let r = and_between (bit x.low k) (bit x.high k) (bit y.low k) (bit y.high k) v (omega arith) (omega arith) o.0 o.1
          (may_between x k o.0 h o.2.0) (may_between y k o.1 h o.2.1) o.2.2 in
          (omega (arith, r.0), omega (arith, r.1)),
    )
two_exactly xor x y k v h =
    let g = xor_opened x y k in (
      λ m.
          let t = opened_total _ _ _ _ k v g m in
          let s = split_may x y k t.0 t.1.0 t.1.1 in
          (s.0, s.1, (s.2.0, s.2.1, rw (← s.2.2) t.1.2)),
      λ o.
          let a = may_between x k o.0 h o.2.0 in
          let b = may_between y k o.1 h o.2.1 in
          total_opened _ _ _ _ k v g (o.0 + o.1) (omega (arith, a.0, b.0)) (omega (arith, a.1, b.1)) o.2.2,
    )
two_exactly sum x y k v h =
    let g = sum_opened x y k h in (
      λ m.
          let t = opened_total _ _ _ _ k v g m in
          let r = split (bit x.low k + bit y.low k) (bit x.high k + bit y.high k) (carry_into x.low y.low k) (carry_into x.high y.high k) t.0
          (omega (arith, ordered x k, ordered y k)) (carry_ordered x y k) t.1.0 t.1.1 in
          let s = split_may x y k r.0 r.2.0 r.2.1 in
          (s.0, s.1, r.1, (s.2.0, s.2.1, between_carry x y k r.1 (r.2.2, r.2.3), rw (← s.2.2, ← r.2.4) t.1.2)),
      λ o.
          let a = may_between x k o.0 h o.3.0 in
          let b = may_between y k o.1 h o.3.1 in
          let c = carry_between x y k o.2 (omega arith) o.3.2 in
          total_opened _ _ _ _ k v g (o.0 + o.1 + o.2) (omega (arith, a.0, b.0, c.0)) (omega (arith, a.1, b.1, c.1)) o.3.3,
    )
two_exactly carry x y zero v h =
    let l = carry_out x.low y.low (low_below x) (low_below y) in
    let g = carry_out x.high y.high x.small y.small in
    let cl = carry_le x.low y.low 8 in
    let ch = carry_le x.high y.high 8 in (
      λ m. between_carry x y 8 v (omega (arith, m.0), omega (arith, m.1)),
      λ o. let c = carry_between x y 8 v (omega arith) o in (omega (arith, c.0), omega (arith, c.1)),
    )
two_exactly carry x y (suc k) v h =
    let sx = x.small in
    let sy = y.small in
    let l = bit_at_above ((x.low + y.low) / 256) 1 (suc k) (omega (arith, low_below x, low_below y)) (omega arith) in
    let g = bit_at_above ((x.high + y.high) / 256) 1 (suc k) (omega arith) (omega arith) in
    (λ m. omega (arith, m.1), λ o. (omega arith, omega arith))

-- the answer of bytes l and h: low lies within high, and the members are right

pub one_within : (f : One) (x : Marks) (l h : ℕ) → l ≡ one f x.low → h ≡ one f x.high → bit_and l h ≡ l
one_within f x l h el eh =
    rw (el, eh)
    (exactly_within _ _ _ (one_below f x.low (low_below x)) (one_exactly f x) (one f x.high)
    (marks_lawful.one_has f (marks_has x) x.high x.small (high_has x)))

pub one_same : (f : One) (x : Marks) (l h : ℕ) → l ≡ one f x.low → h ≡ one f x.high → Same (Marked (Between l h)) (may_ones f (marks_has x))
one_same f x l h el eh = same_ends l h _ _ _ el eh (same_marked _ _ (OneMay f (marks_has x)) (one_exactly f x))

pub two_within : (f : Two) (x y : Marks) (l h : ℕ) → l < 256 → l ≡ two_low f x y → h ≡ two_high f x y → bit_and l h ≡ l
two_within f x y l h s el eh =
    let g : two_low f x y < 256 = rw el at s in
    rw (el, eh)
    (exactly_within _ _ _ g (two_exactly f x y) (two f x.high y.high)
    (marks_lawful.two_has f (marks_has x) (marks_has y) x.high y.high x.small y.small (high_has x) (high_has y)))

pub two_same : (f : Two) (x y : Marks) (l h : ℕ) → l ≡ two_low f x y → h ≡ two_high f x y → Same (Marked (Between l h)) (may_twos f (marks_has x) (marks_has y))
two_same f x y l h el eh = same_ends l h _ _ _ el eh (same_marked _ _ (TwoMay f (marks_has x) (marks_has y)) (two_exactly f x y))

pub opened_within : (b o : ℕ) → b < 256 → o < 256 → bit_and (least_of b o) (most_of b o) ≡ least_of b o
opened_within b o hb ho =
    let m = most_of b o in
    and_within (least_of b o) m (xor_lt 8 m o (or_lt 8 b o hb ho) ho)
    (λ k _. let l = bit_at_xor m o k in let h = bit_at_or b o k in omega arith)
