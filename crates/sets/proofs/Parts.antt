-- AND and XOR with a byte, one bit of it after another. Assumes nothing.
use Rattle.std.proofs.Common.{◌≡◌, ℕ, ◌+◌, ◌-◌, ◌*◌, ◌%◌, ◌^◌, ◌<◌, ◌≢◌, sym, refl, ap, ◌∙◌, subst, arith}
use lib.Bits.{bit_and, bit_xor, and_comm, and_mask, xor_assoc, xor_zero_l}
use Rattle.std.proofs.lemmas.Nat.{and_assoc, mod-pow-add, pow_below}
use Rattle.std.proofs.lemmas.Nat.Bits.{bit_at_above, bit_at_not}
use Rattle.std.specs.Int.{w8}
use Rattle.operands.specs.Bytes.{Bytes, Same}
use Rattle.bits.specs.Bits.{bit}
use Rattle.sets.specs.Numbers.{In, in_below}
use Rattle.sets.specs.Steps.{Image}
use Rattle.sets.specs.Mixing.{without, BitByBit}
use Rattle.sets.proofs.Flips.{flip_clear, and_without}

pub xor_by_bits : BitByBit bit_xor
xor_by_bits =
    record {
      none = λ b h. xor_zero_l b;
      more = λ j p b hj hp.
          sym (xor_assoc (2 ^ j) p b) ∙ ap (λ z. bit_xor z b) (flip_clear j p (bit_at_above p j j hp (omega arith)));
    }

has_bit : (j p : ℕ) → j < 8 → p < 2 ^ j → bit (255 - p) j ≡ 1
has_bit j p hj hp =
    omega (arith, bit_at_not w8 p j (omega (arith, pow_below j 8 hj)) hj, bit_at_above p j j hp (omega arith))

pub without_by_bits : BitByBit without
without_by_bits =
    record {
      none = λ b h. and_comm 255 b ∙ omega (arith, and_mask b 8);
      more = λ j p b hj hp.
          let fewer : bit_and (255 - 2 ^ j) (255 - p) ≡ 255 - (2 ^ j + p) =
          omega (arith, and_without j (255 - p) hj (omega arith), ap (λ z. z * 2 ^ j) (has_bit j p hj hp)) in
          sym (and_assoc b (255 - 2 ^ j) (255 - p)) ∙ ap (λ z. bit_and z b) fewer;
    }

module _ (f : ℕ → ℕ → ℕ) (law : BitByBit f) where
  pub image_none : (p n : ℕ) → p ≡ 0 → n < 2 ^ 256 → Same (In n) (Image (f p) (In n))
  image_none p n e h = (
    (λ k i. (k, (i, sym (same k i)))),
    (λ k (c, (i, is)). ap (bit n) (is ∙ same c i) ∙ i),
  )
    where
      same : (c : ℕ) → In n c → f p c ≡ c
      same c i = ap (λ z. f z c) e ∙ law.none c (in_below 256 n c h i)

  module _ (a j : ℕ) (hj : j < 8) (P R : Bytes) (g : Same P (Image (f (a % 2 ^ j)) R)) where
    split : a % 2 ^ (j + 1) ≡ bit a j * 2 ^ j + a % 2 ^ j
    split = let e : 1 + j ≡ j + 1 = omega arith in ap (λ i. a % 2 ^ i) (sym e) ∙ mod-pow-add a 1 j

    -- bit j is changed too
    pub image_more : (Q : Bytes) → bit a j ≡ 1 → Same Q (Image (f (2 ^ j)) P) → Same Q (Image (f (a % 2 ^ (j + 1))) R)
    image_more Q e q =
        let p = a % 2 ^ j in
        let next : 2 ^ j + p ≡ a % 2 ^ (j + 1) = omega (arith, split, ap (λ z. z * 2 ^ j) e) in
        let both : (c : ℕ) → f (2 ^ j) (f p c) ≡ f (a % 2 ^ (j + 1)) c = λ c.
        law.more j p c hj (omega arith) ∙ ap (λ z. f z c) next in (
          (λ k h.
              let t = q.0 k h in
              let u = g.0 t.0 t.1.0 in
              (u.0, (u.1.0, t.1.1 ∙ ap (f (2 ^ j)) u.1.1 ∙ both u.0))),
          (λ k (c, (r, is)). q.1 k (f p c, (g.1 (f p c) (c, (r, refl)), is ∙ sym (both c)))),
        )

    pub image_skip : bit a j ≢ 1 → Same P (Image (f (a % 2 ^ (j + 1))) R)
    image_skip n =
        let zero : bit a j ≡ 0 = omega arith in
        let next : a % 2 ^ j ≡ a % 2 ^ (j + 1) = omega (arith, split, ap (λ z. z * 2 ^ j) zero) in
        let Goal : ℕ → Type 0 = λ z. Same P (Image (f z) R) in
        subst Goal next g
