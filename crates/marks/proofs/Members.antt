-- The members of marks: what each bit of one may be, and which bytes they are. Assumes nothing.
use Rattle.std.specs.Prelude.{◌≡◌, ℕ, zero, suc, ◌-◌, ◌%◌, ◌^◌, ◌<◌, ◌≤◌, ◌⊎◌, bit_and, refl}
use Rattle.std.proofs.Common.{sym, inl, inr, ⊎_elim, arith, pow_pos, pow_mono}
use Rattle.std.proofs.Math.Nat.{mod-le}
use Rattle.std.proofs.lemmas.Nat.{mod_below, and_le_r}
use Rattle.std.proofs.lemmas.Bool.{cases_lt, cases_eq}
use Rattle.operands.specs.Bytes.{Bytes, Same, Only}
use Rattle.bits.specs.Bits.{bit, carry_into}
use Rattle.bits.specs.Mays.{Marked, May, MayCarry}
use Rattle.std.proofs.lemmas.Nat.Bits.{bit_at_above, same_from_bits_below, bit_at_ones}
use Rattle.bits.proofs.Bits.{bit_mod, bit_mod_past, bits_below, and_within, carry_le, carry_mono}
use Rattle.bits.proofs.Mays.{marked_inside}
use Rattle.marks.specs.declared.mark.Marks.{Marks}
use Rattle.marks.specs.Marks.{Between, marks_has}
use Rattle.marks.specs.Least.{may_between}

pub low_below : (x : Marks) → x.low < 256
low_below x = omega (arith, and_le_r x.low x.high, x.within, x.small)

pub ordered : (x : Marks) (k : ℕ) → bit x.low k ≤ bit x.high k
ordered x k = bits_below x.low x.high x.within k

pub low_has : (x : Marks) → marks_has x x.low
low_has x = (low_below x, λ k h. (omega arith, ordered x k))

pub high_has : (x : Marks) → marks_has x x.high
high_has x = (x.small, λ k h. (ordered x k, omega arith))

pub either_end : (l h v : ℕ) → l ≤ v → v ≤ h → h ≤ 1 → (v ≡ l) ⊎ (v ≡ h)
either_end l h v p q r = ⊎_elim (λ e. inl e) (λ n. inr (omega arith)) (cases_eq v l)

-- each bit between low and high some member has

pub between_may : (x : Marks) (k v : ℕ) → Between x.low x.high k v → May (marks_has x) k v
between_may x k v (p, q) =
    ⊎_elim (λ e. (x.low, (low_has x, sym e))) (λ e. (x.high, (high_has x, sym e)))
    (either_end (bit x.low k) (bit x.high k) v p q (omega arith))

pub carry_ordered : (x y : Marks) (k : ℕ) → carry_into x.low y.low k ≤ carry_into x.high y.high k
carry_ordered x y k = carry_mono x.low y.low x.high y.high k (λ j h. ordered x j) (λ j h. ordered y j)

pub carry_between : (x y : Marks) (k w : ℕ) → k ≤ 8 → MayCarry (marks_has x) (marks_has y) k w → (carry_into x.low y.low k ≤ w) × (w ≤ carry_into x.high y.high k)
unfolding carry_into
carry_between x y zero w h m = (omega arith, omega arith)
carry_between x y (suc k) w h (u, v, c, (p, q, m, e)) =
    let a = may_between x k u (omega arith) p in
    let b = may_between y k v (omega arith) q in
    let d = carry_between x y k c (omega arith) m in
    (omega (arith, a.0, b.0, d.0, e), omega (arith, a.1, b.1, d.1, e))

pub between_carry : (x y : Marks) (k w : ℕ) → (carry_into x.low y.low k ≤ w) × (w ≤ carry_into x.high y.high k) → MayCarry (marks_has x) (marks_has y) k w
unfolding carry_into
between_carry x y zero w (p, q) = omega arith
between_carry x y (suc k) w (p, q) =
    let o = carry_ordered x y k in
    ⊎_elim
    (λ e. (bit x.low k, bit y.low k, carry_into x.low y.low k, ((x.low, (low_has x, refl)), (y.low, (low_has y, refl)), between_carry x y k _ (omega arith, o), e)))
    (λ e. (bit x.high k, bit y.high k, carry_into x.high y.high k, ((x.high, (high_has x, refl)), (y.high, (high_has y, refl)), between_carry x y k _ (o, omega arith), e)))
    (either_end (carry_into x.low y.low (suc k)) (carry_into x.high y.high (suc k)) w p q (carry_le x.high y.high (suc k)))

-- low and high leave exactly the outcomes O
abbrev pub Exactly : ℕ → ℕ → (ℕ → ℕ → Type 0) → Type 0
Exactly l h O = (k v : ℕ) → k < 8 → (Between l h k v → O k v) × (O k v → Between l h k v)

pub same_marked : (l h : ℕ) (O : ℕ → ℕ → Type 0) → Exactly l h O → Same (Marked (Between l h)) (Marked O)
same_marked l h O e =
    (marked_inside (Between l h) O (λ k v g. (e k v g).0), marked_inside O (Between l h) (λ k v g. (e k v g).1))

pub same_ends : (l h a b : ℕ) (P : Bytes) → l ≡ a → h ≡ b → Same (Marked (Between a b)) P → Same (Marked (Between l h)) P
same_ends l h a b P el eh s = rw (el, eh) s

-- low lies within high, if there is a member
pub exactly_within : (l h : ℕ) (O : ℕ → ℕ → Type 0) → l < 256 → Exactly l h O → (b : ℕ) → Marked O b → bit_and l h ≡ l
exactly_within l h O s e b m =
    and_within l h s (λ k g. let w = (e k (bit b k) g).1 (m.1 k g) in omega (arith, w.0, w.1))

-- the marks of one byte
pub same_only : (b : ℕ) → b < 256 → Same (Marked (Between b b)) (Only b)
same_only b h = (
  λ a m. same_from_bits_below 8 a b m.0 h (λ k g. omega (arith, (m.1 k g).0, (m.1 k g).1)),
  λ a e. rw e (h, λ k g. (omega arith, omega arith)),
)

-- membership by two tests of whole bytes
pub within_has : (x : Marks) (b : ℕ) → b < 256 → bit_and x.low b ≡ x.low → bit_and b x.high ≡ b → marks_has x b
within_has x b h p q = (h, λ k g. (bits_below x.low b p k, bits_below b x.high q k))

pub has_within : (x : Marks) (b : ℕ) → marks_has x b → (bit_and x.low b ≡ x.low) × (bit_and b x.high ≡ b)
has_within x b m =
    (and_within x.low b (low_below x) (λ k g. (m.1 k g).0), and_within b x.high m.0 (λ k g. (m.1 k g).1))

-- marks of which each has the other's end have the same end

pub low_same : (x y : Marks) → marks_has y x.low → marks_has x y.low → x.low ≡ y.low
low_same x y p q =
    same_from_bits_below 8 x.low y.low (low_below x) (low_below y) (λ k h. omega (arith, (p.1 k h).0, (q.1 k h).0))

pub high_same : (x y : Marks) → marks_has y x.high → marks_has x y.high → x.high ≡ y.high
high_same x y p q =
    same_from_bits_below 8 x.high y.high x.small y.small (λ k h. omega (arith, (p.1 k h).1, (q.1 k h).1))

-- marks that leave exactly the lowest n bits open
pub lowest_same : (n : ℕ) → n ≤ 8 → Same (Marked (Between 0 (2 ^ n - 1))) (λ b. b < 2 ^ n)
lowest_same n h =
    let p = pow_pos n in
    let zero-past = λ (k : ℕ) (g : n ≤ k). bit_at_above (2 ^ n - 1) n k (omega arith) g in (
      λ b m.
          let low = mod_below b (2 ^ n) p in
          let e : b ≡ b % 2 ^ n =
          same_from_bits_below 8 b (b % 2 ^ n) m.0 (omega (arith, mod-le b (2 ^ n), m.0))
          (λ k g.
          ⊎_elim (λ lt. sym (bit_mod b n k lt))
          (λ ge. omega (arith, (m.1 k g).1, zero-past k ge, bit_mod_past b n k ge))
          (cases_lt k n)) in
          omega arith,
      λ b g.
          let q : 2 ^ n ≤ 256 = pow_mono h in (
            omega arith,
            λ k i. (
              omega (arith, bit_at_above 0 0 k (omega arith) (omega arith)),
              ⊎_elim (λ lt. omega (arith, bit_at_ones n k lt)) (λ ge. omega (arith, bit_at_above b n k g ge)) (cases_lt k n),
            ),
          ),
    )
