-- AND and XOR with one bit of a byte: how each place of a set changes. Assumes nothing.
use Rattle.std.proofs.Common.{◌≡◌, ℕ, ◌+◌, ◌-◌, ◌*◌, ◌/◌, ◌%◌, ◌^◌, ◌<◌, sym, ap, ◌∙◌, subst, ⊎_elim, arith}
use lib.Bits.{bit_and, bit_or, bit_xor, or_lt}
use Rattle.std.proofs.lemmas.Bool.{cases_lt, cases_eq}
use Rattle.operands.specs.Bytes.{Same}
use Rattle.bits.specs.Bits.{bit}
use Rattle.sets.specs.Numbers.{In, in_below}
use Rattle.sets.specs.Steps.{Image}
use Rattle.sets.specs.Mixing.{without, folded_bit, clear_places}
use Rattle.std.proofs.lemmas.Nat.Bits.{bit_at_and, bit_at_or, bit_at_above}
use Rattle.bits.proofs.Bits.{bit_mod}
use Rattle.sets.proofs.Flips.{flip_clear, flip_set, bit_flip, flip_flip, flip_below, flip_high, bit-clear_places, and_without, flip_seventh}
use Rattle.std.proofs.lemmas.Nat.Bits.{bit_at_cat_low}
use Rattle.sets.proofs.Halves.{bit_high, bit_shr, bit_shl_above, bit_shl_under}
use Rattle.sets.proofs.Turns.{wide, image_moved, bit_swapped}

-- a word: s is the length of a block
module _ (w j s k : ℕ) (es : s ≡ 2 ^ j) (hj : j < 7) (hk : k < 128) where
  down : bit k j ≡ 0 → bit (w / 2 ^ s) k ≡ bit w (bit_xor (2 ^ j) k)
  down e = bit_shr w s k ∙ ap (bit w) (ap (λ n. n + k) es ∙ sym (flip_clear j k e))

  pub bit_folded : bit (bit_and (bit_or w (w / 2 ^ s)) (clear_places j)) k ≡ folded_bit (bit k j) (bit w k) (bit w (bit_xor (2 ^ j) k))
  bit_folded =
      let a = bit_at_and (bit_or w (w / 2 ^ s)) (clear_places j) k in
      let o = bit_at_or w (w / 2 ^ s) k in
      let m = bit-clear_places j k hj hk in
      ⊎_elim (λ (e : bit k j ≡ 0). let d = down e in omega arith) (λ (n : bit k j ≡ 0 → ⊥). omega arith) (cases_eq (bit k j) 0)

  raised : ℕ
  raised = bit_and w (clear_places j) * 2 ^ s % 2 ^ 128

  -- a place that lacks bit j gets nothing from below
  raised_clear : bit k j ≡ 0 → bit raised k ≡ 0
  unfolding raised
  raised_clear e =
      bit_mod (bit_and w (clear_places j) * 2 ^ s) 128 k hk ∙ ⊎_elim
      (λ lt. bit_shl_under s (bit_and w (clear_places j)) k lt)
      (λ ge.
      let i : ℕ = k - s in
      let d : s + i ≡ k = omega arith in
      let set : bit i j ≡ 0 → ⊥ = λ z.
      let same : bit_xor (2 ^ j) i ≡ k = flip_clear j i z ∙ ap (λ n. n + i) (sym es) ∙ d in
      omega (arith, bit_flip j i, ap (λ n. bit n j) same, e, z) in
      ap (bit (bit_and w (clear_places j) * 2 ^ s)) (sym d) ∙ bit_shl_above s (bit_and w (clear_places j)) i
      ∙ omega (arith, bit_at_and w (clear_places j) i, bit-clear_places j i hj (omega arith), set))
      (cases_lt k s)

  raised_set : bit k j ≡ 1 → bit raised k ≡ bit w (bit_xor (2 ^ j) k)
  unfolding raised
  raised_set e =
      let i = bit_xor (2 ^ j) k in
      let d : s + i ≡ k = omega (arith, es, flip_set j k e) in
      bit_mod (bit_and w (clear_places j) * 2 ^ s) 128 k hk ∙ ap (bit (bit_and w (clear_places j) * 2 ^ s)) (sym d)
      ∙ bit_shl_above s (bit_and w (clear_places j)) i
      ∙ omega (arith, bit_at_and w (clear_places j) i, bit-clear_places j i hj (omega arith), bit_flip j k, e)

  pub bit_exchanged : bit (bit_or (bit_and (w / 2 ^ s) (clear_places j)) (bit_and w (clear_places j) * 2 ^ s % 2 ^ 128)) k ≡ bit w (bit_xor (2 ^ j) k)
  unfolding raised
  bit_exchanged =
      let o = bit_at_or (bit_and (w / 2 ^ s) (clear_places j)) raised k in
      let a = bit_at_and (w / 2 ^ s) (clear_places j) k in
      let m = bit-clear_places j k hj hk in
      ⊎_elim
      (λ (e : bit k j ≡ 0). omega (arith, o, a, m, e, down e, raised_clear e))
      (λ (n : bit k j ≡ 0 → ⊥). let e : bit k j ≡ 1 = omega arith in omega (arith, o, a, m, e, raised_set e))
      (cases_eq (bit k j) 0)

-- the bit at a place, after bit j was flipped
abbrev pub other_bit : ℕ → ℕ → ℕ → ℕ
other_bit p own other = other

-- n has, at each place, what a change of bit j makes of the bits of x
abbrev pub Mixed : (ℕ → ℕ → ℕ → ℕ) → ℕ → ℕ → ℕ → ℕ → Type 0
Mixed of j w x n = (k : ℕ) → k < w → bit n k ≡ of (bit k j) (bit x k) (bit x (bit_xor (2 ^ j) k))

pub mixed_wide : (of : ℕ → ℕ → ℕ → ℕ) (j low high lo hi : ℕ) → j < 7 → low < 2 ^ 128 → lo < 2 ^ 128 →
    Mixed of j 128 low lo → Mixed of j 128 high hi → Mixed of j 256 (wide low high) (wide lo hi)
mixed_wide of j low high lo hi hj sl so f g k hk =
    let n = wide low high in
    let At : ℕ → Type 0 = λ z. bit (wide lo hi) z ≡ of (bit z j) (bit n z) (bit n (bit_xor (2 ^ j) z)) in
    ⊎_elim
    (λ lt.
    let i = bit_xor (2 ^ j) k in
    let own = bit_at_cat_low high 128 low k lt in
    let other = bit_at_cat_low high 128 low i (flip_below 7 j k hj lt) in
    bit_at_cat_low hi 128 lo k lt ∙ f k lt ∙ ap (λ z. of (bit k j) z (bit low i)) (sym own) ∙ ap (of (bit k j) (bit n k)) (sym other))
    (λ ge.
    let h : ℕ = k - 128 in
    let e : 128 + h ≡ k = omega arith in
    let i = bit_xor (2 ^ j) h in
    let own = bit_high 128 high low sl h in
    let other = ap (bit n) (flip_high j h hj (omega arith)) ∙ bit_high 128 high low sl i in
    let place : bit (128 + h) j ≡ bit h j = bit_at_cat_low 1 7 h j hj in
    subst At e
    (bit_high 128 hi lo so h ∙ g h (omega arith) ∙ ap (λ z. of z (bit high h) (bit high i)) (sym place)
    ∙ ap (λ z. of (bit (128 + h) j) z (bit high i)) (sym own) ∙ ap (of (bit (128 + h) j) (bit n (128 + h))) (sym other)))
    (cases_lt k 128)

-- bit 7 of a place says which word it stands in
module _ (low high : ℕ) (sl : low < 2 ^ 128) (sh : high < 2 ^ 128) where
  seventh : (k : ℕ) → k < 256 → bit (wide high low) k ≡ bit (wide low high) (bit_xor 128 k)
  seventh k h = bit_swapped low high k sl sh h ∙ ap (bit (wide low high)) (sym (flip_seventh k h))

  pub mixed_swapped : Mixed other_bit 7 256 (wide low high) (wide high low)
  mixed_swapped = seventh

  pub mixed_merged : Mixed folded_bit 7 256 (wide low high) (wide (bit_or low high) 0)
  mixed_merged k h =
      let other = seventh k h in
      let small = or_lt 128 low high sl sh in
      ⊎_elim
      (λ lt. omega (arith, other, bit_at_cat_low 0 128 (bit_or low high) k lt, bit_at_or low high k, bit_at_cat_low high 128 low k lt, bit_at_cat_low low 128 high k lt))
      (λ ge. omega (arith, bit_at_above (wide (bit_or low high) 0) 128 k (omega arith) ge))
      (cases_lt k 128)

-- from places to members
pub image_flipped : (j r n : ℕ) → j < 8 → r < 2 ^ 256 → n < 2 ^ 256 → Mixed other_bit j 256 n r → Same (In r) (Image (bit_xor (2 ^ j)) (In n))
image_flipped j r n hj hr hn f =
    image_moved r n (bit_xor (2 ^ j)) (bit_xor (2 ^ j)) hr hn f (λ k h. flip_flip j k) (λ c h. (flip_below 8 j c hj h, flip_flip j c))

pub image_cleared : (j r n : ℕ) → j < 8 → r < 2 ^ 256 → n < 2 ^ 256 → Mixed folded_bit j 256 n r → Same (In r) (Image (without (2 ^ j)) (In n))
image_cleared j r n hj hr hn f = (
  (λ k h.
      let lt = in_below 256 r k hr h in
      let is = f k lt in
      let place : bit k j ≡ 0 = omega arith in
      let flip = flip_clear j k place in
      let i = bit_xor (2 ^ j) k in
      ⊎_elim
      (λ own. (k, (own, sym (kept k lt place))))
      (λ (no : bit n k ≡ 1 → ⊥).
      let c : bit n i ≡ 1 = omega arith in
      (i, (c, omega (arith, flip, dropped i (flip_below 8 j k hj lt) (omega (arith, bit_flip j k, place))))))
      (cases_eq (bit n k) 1)),
  (λ k (c, (h, e)).
      let lt = in_below 256 n c hn h in
      let lk : k < 256 = omega (arith, e, and_without j c hj lt) in
      let is = f k lk in
      ⊎_elim
      (λ (z : bit c j ≡ 0).
      let same : k ≡ c = e ∙ kept c lt z in
      omega (arith, is, ap (λ m. bit m j) same, z, ap (bit n) same, h))
      (λ (no : bit c j ≡ 0 → ⊥).
      let one : bit c j ≡ 1 = omega arith in
      let same : bit_xor (2 ^ j) c ≡ k = omega (arith, e, flip_set j c one, dropped c lt one) in
      let place : bit k j ≡ 0 = omega (arith, ap (λ m. bit m j) same, bit_flip j c, one) in
      let back : bit_xor (2 ^ j) k ≡ c = omega (arith, flip_clear j k place, flip_set j c one, same) in
      omega (arith, is, place, ap (bit n) back, h))
      (cases_eq (bit c j) 0)),
)
  where
    kept : (c : ℕ) → c < 256 → bit c j ≡ 0 → bit_and (255 - 2 ^ j) c ≡ c
    kept c h z = omega (arith, and_without j c hj h, ap (λ m. m * 2 ^ j) z)

    dropped : (c : ℕ) → c < 256 → bit c j ≡ 1 → bit_and (255 - 2 ^ j) c + 2 ^ j ≡ c
    dropped c h z = omega (arith, and_without j c hj h, ap (λ m. m * 2 ^ j) z)
