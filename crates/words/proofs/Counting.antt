-- Counting the permitted words from 0 up. Assumes nothing.
use Rattle.std.proofs.Common.{◌≡◌, ℕ, suc, ◌+◌, ◌-◌, Bool, true, false, List, ◌∷◌, length, sym, refl, ap, ◌∙◌, subst, arith}
use Rattle.std.specs.List.{range_with_len}
use Rattle.std.specs.Range.{range_inclusive_len, range_inclusive_start, range_inclusive_end, range_inclusive_exhausted}
use Rattle.std.specs.declared.ops.RangeInclusive.{RangeInclusive}
use Rattle.std.proofs.iter.runs.Sources.{nat_range_inclusive_steps}
use Rattle.std.proofs.lemmas.Iterator.{YieldsList}
use Rattle.std.proofs.lemmas.Iterator.Consumers.{YieldsList-from_shown}
use Rattle.std.proofs.lemmas.List.FromFn.{length-range_with_len}
use Rattle.words.specs.Words.{permitted, permitted_below}

-- how many numbers a range has left
abbrev size : RangeInclusive ℕ → ℕ
size s = range_inclusive_len (λ x y. y - x) (range_inclusive_start s) (range_inclusive_end s) (range_inclusive_exhausted s)

abbrev numbers : RangeInclusive ℕ → List ℕ
numbers s = range_with_len (range_inclusive_start s) (size s)

none_left : (s t : RangeInclusive ℕ) → size s ≡ 0 → length (numbers s) ≡ 0
none_left s t e = length-range_with_len (range_inclusive_start s) (size s) ∙ e

-- after an exhausted range nothing is left, and else the numbers go on by one
tail_is : (a b n : ℕ) (spent : Bool) (last : ℕ) → n ≡ range_inclusive_len (λ x y. y - x) b last spent → (spent ≡ false → b ≡ a + 1) → range_with_len (a + 1) n ≡ range_with_len b n
tail_is a b n true last e next = rw e
tail_is a b n false last e next = rw (next refl)

one_less : (s : RangeInclusive ℕ) (x : ℕ) (t : RangeInclusive ℕ) → x ≡ range_inclusive_start s → size t + 1 ≡ size s → (range_inclusive_exhausted t ≡ false → range_inclusive_start t ≡ range_inclusive_start s + 1) → numbers s ≡ x ∷ numbers t
one_less s x t first fewer next =
    let some : size s ≡ suc (size t) = omega (arith, fewer) in
    ap (range_with_len (range_inclusive_start s)) some
    ∙ ap (λ (l : List ℕ). range_inclusive_start s ∷ l) (tail_is (range_inclusive_start s) (range_inclusive_start t) (size t) (range_inclusive_exhausted t) (range_inclusive_end t) refl next)
    ∙ ap (λ (n : ℕ). n ∷ numbers t) (sym first)

yields_numbers : (s : RangeInclusive ℕ) → YieldsList nat_range_inclusive_steps (λ x. x) s (numbers s)
yields_numbers s =
    YieldsList-from_shown nat_range_inclusive_steps (λ x. x) numbers
    (λ s t h. none_left s t h.1.0)
    (λ s x t h. one_less s x t h.1.0 h.1.1 h.1.2)
    s

-- the numbers from 0 up to an end
pub yields_up_to : (s : RangeInclusive ℕ) (end : ℕ) → range_inclusive_start s ≡ 0 → range_inclusive_end s ≡ end → range_inclusive_exhausted s ≡ false → YieldsList nat_range_inclusive_steps (λ x. x) s (range_with_len 0 (end + 1))
yields_up_to s end e f g = subst (YieldsList nat_range_inclusive_steps (λ x. x) s) (rw (e, f, g) (ap (range_with_len 0) (omega arith))) (yields_numbers s)

pub counted_all : permitted_below 65536 ≡ 62720
unfolding permitted permitted_below
counted_all = refl
