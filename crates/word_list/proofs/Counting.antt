-- Counting the permitted words from 0 up. Assumes nothing.
use Rattle.std.proofs.Common.{◌≡◌, ◌∙◌, ℕ, ◌+◌, ◌≤◌, Bool, true, false, cond, ap, sym, refl, arith}
use Rattle.std.specs.List.{range_with_len, sum_by}
use Rattle.std.proofs.lemmas.List.{map-id}
use Rattle.std.proofs.lemmas.List.FromFn.{sum_by-map-range_with_len_more}
use Rattle.words.specs.Words.{permitted, permitted_below}

-- the count after the words below n
abbrev pub Counted : ℕ → ℕ → Type 0
Counted n count = (count ≡ permitted_below n) × (count ≤ n)

pub counted_none : Counted 0 0
unfolding permitted_below
counted_none = (refl, omega arith)

at_most_one : (b : Bool) → cond b 1 0 ≤ 1
at_most_one true = omega arith
at_most_one false = omega arith

below_more : (n : ℕ) → permitted_below (n + 1) ≡ permitted_below n + cond (permitted n) 1 0
unfolding permitted_below
below_more n =
    ap (sum_by (λ x. cond (permitted x) 1 0)) (sym (map-id (range_with_len 0 (n + 1))))
    ∙ sum_by-map-range_with_len_more (λ x. cond (permitted x) 1 0) (λ x. x) 0 n n (omega arith)
    ∙ ap (λ xs. sum_by (λ x. cond (permitted x) 1 0) xs + cond (permitted n) 1 0) (map-id (range_with_len 0 n))

-- one word more, of which b tells whether it is permitted
pub counted_more : (n count r : ℕ) (b : Bool) → Counted n count → r ≡ cond b 1 0 + count → b ≡ permitted n → Counted (n + 1) r
counted_more n count r b h e f =
    let more = below_more n in
    let one = at_most_one (permitted n) in
    let here : r ≡ cond (permitted n) 1 0 + count = e ∙ ap (λ x. cond x 1 0 + count) f in
    (omega (arith, h, here, more), omega (arith, h, here, one))
