-- Rows whose bytes all differ: each bit of the set moves to a place of its own. Assumes nothing.
use Rattle.std.proofs.Common.{◌≡◌, ℕ, ◌+◌, ◌-◌, ◌*◌, ◌%◌, ◌^◌, ◌<◌, sym, ap, ◌∙◌, ⊎_elim, arith}
use Rattle.std.proofs.lemmas.Bool.{cases_lt}
use Rattle.operands.specs.Bytes.{Same, two}
use Rattle.operands.specs.Bytes.Two.{sum}
use Rattle.bits.specs.Bits.{bit}
use Rattle.sets.specs.Numbers.{In, in_below}
use Rattle.sets.specs.Steps.{Image}
use Rattle.std.proofs.lemmas.Nat.Bits.{bit_at_cat_low}
use Rattle.sets.proofs.Halves.{bit_high}

-- the bit at k comes from back k
pub image_moved : (r n : ℕ) (f back : ℕ → ℕ) → r < 2 ^ 256 → n < 2 ^ 256 →
    ((k : ℕ) → k < 256 → bit r k ≡ bit n (back k)) →
    ((k : ℕ) → k < 256 → f (back k) ≡ k) →
    ((c : ℕ) → c < 256 → (f c < 256) × (back (f c) ≡ c)) →
    Same (In r) (Image f (In n))
image_moved r n f back hr hn moved there here = (
  (λ k h. let lt = in_below 256 r k hr h in (back k, (sym (moved k lt) ∙ h, sym (there k lt)))),
  (λ k (c, (h, e)).
      let t = here c (in_below 256 n c hn h) in
      ap (bit r) e ∙ moved (f c) t.0 ∙ ap (bit n) t.1 ∙ h),
)

-- the word w moved up by b places, with the top of below under it
abbrev pub Up : ℕ → ℕ → ℕ → ℕ → Type 0
Up b w below r = ((k : ℕ) → b + k < 128 → bit r (b + k) ≡ bit w k) × ((k : ℕ) → k < b → bit r k ≡ bit below (128 - b + k))

abbrev pub wide : ℕ → ℕ → ℕ
wide low high = high * 2 ^ 128 + low

module _ (b low high lo hi : ℕ) (hb : b < 128) (sl : low < 2 ^ 128) (so : lo < 2 ^ 128) (ul : Up b low high lo) (uh : Up b high low hi) where
  -- two words moved up, each with the top of the other under it
  pub bit_turned : (k : ℕ) → k < 256 → bit (wide lo hi) k ≡ bit (wide low high) ((k + (256 - b)) % 256)
  bit_turned k h =
      ⊎_elim
      (λ k<128. bit_at_cat_low hi 128 lo k k<128 ∙ ⊎_elim
      (λ k<b.
      let e : 128 + (128 - b + k) ≡ (k + (256 - b)) % 256 = omega arith in
      ul.1 k k<b ∙ sym (bit_high 128 high low sl (128 - b + k)) ∙ ap (bit (wide low high)) e)
      (λ b≤k.
      let i : ℕ = k - b in
      let d : b + i ≡ k = omega arith in
      let e : i ≡ (k + (256 - b)) % 256 = omega arith in
      ap (bit lo) (sym d) ∙ ul.0 i (omega arith) ∙ sym (bit_at_cat_low high 128 low i (omega arith)) ∙ ap (bit (wide low high)) e)
      (cases_lt k b))
      (λ k≥128.
      let j : ℕ = k - 128 in
      let f : 128 + j ≡ k = omega arith in
      ap (bit (wide lo hi)) (sym f) ∙ bit_high 128 hi lo so j ∙ ⊎_elim
      (λ j<b.
      let e : 128 - b + j ≡ (k + (256 - b)) % 256 = omega arith in
      uh.1 j j<b ∙ sym (bit_at_cat_low high 128 low (128 - b + j) (omega arith)) ∙ ap (bit (wide low high)) e)
      (λ b≤j.
      let i : ℕ = j - b in
      let d : b + i ≡ j = omega arith in
      let e : 128 + i ≡ (k + (256 - b)) % 256 = omega arith in
      ap (bit hi) (sym d) ∙ uh.0 i (omega arith) ∙ sym (bit_high 128 high low sl i) ∙ ap (bit (wide low high)) e)
      (cases_lt j b))
      (cases_lt k 128)

-- the two words exchanged
pub bit_swapped : (low high k : ℕ) → low < 2 ^ 128 → high < 2 ^ 128 → k < 256 → bit (wide high low) k ≡ bit (wide low high) ((k + 128) % 256)
bit_swapped low high k sl sh h =
    ⊎_elim
    (λ lt. let e : 128 + k ≡ (k + 128) % 256 = omega arith in
    bit_at_cat_low low 128 high k lt ∙ sym (bit_high 128 high low sl k) ∙ ap (bit (wide low high)) e)
    (λ ge.
    let j : ℕ = k - 128 in
    let f : 128 + j ≡ k = omega arith in
    let e : j ≡ (k + 128) % 256 = omega arith in
    ap (bit (wide high low)) (sym f) ∙ bit_high 128 low high sh j ∙ sym (bit_at_cat_low high 128 low j (omega arith)) ∙ ap (bit (wide low high)) e)
    (cases_lt k 128)

-- sums modulo 256 move every bit
pub image_sum : (a r n : ℕ) → a < 256 → r < 2 ^ 256 → n < 2 ^ 256 →
    ((k : ℕ) → k < 256 → bit r k ≡ bit n ((k + (256 - a)) % 256)) → Same (In r) (Image (two sum a) (In n))
image_sum a r n ha hr hn moved =
    image_moved r n (two sum a) (λ k. (k + (256 - a)) % 256) hr hn moved (λ k h. omega arith) (λ c h. (omega arith, omega arith))
