-- A place and the place whose bit j differs. Assumes nothing.
use Rattle.std.proofs.Common.{◌≡◌, ℕ, ◌+◌, ◌-◌, ◌*◌, ◌%◌, ◌^◌, ◌<◌, Bool, eqb, sym, refl, ap, ◌∙◌, arith}
use lib.Bits.{bit_and, bit_xor, and_comm, xor_add_and, xor_assoc, xor_self, xor_zero_l, xor_block}
use Rattle.std.proofs.lemmas.Nat.{and-not, xor_lt, pow_below}
use Rattle.std.proofs.lemmas.Bool.Decides.{Decides-eqb}
use Rattle.operands.proofs.Rotations.{every, every_at}
use Rattle.bits.specs.Bits.{bit}
use Rattle.std.proofs.lemmas.Nat.Bits.{and_pow, bit_at_xor, bit_at-pow_same}
use Rattle.sets.specs.Mixing.{clear_places}

one_bit : (j k : ℕ) → bit_and (2 ^ j) k ≡ bit k j * 2 ^ j
one_bit j k = and_comm (2 ^ j) k ∙ and_pow k j

module _ (j k : ℕ) where
  pub flip_clear : bit k j ≡ 0 → bit_xor (2 ^ j) k ≡ 2 ^ j + k
  flip_clear e = omega (arith, xor_add_and (2 ^ j) k, one_bit j k ∙ ap (λ n. n * 2 ^ j) e)

  pub flip_set : bit k j ≡ 1 → bit_xor (2 ^ j) k + 2 ^ j ≡ k
  flip_set e = omega (arith, xor_add_and (2 ^ j) k, one_bit j k ∙ ap (λ n. n * 2 ^ j) e)

  pub bit_flip : bit (bit_xor (2 ^ j) k) j ≡ 1 - bit k j
  bit_flip = omega (arith, bit_at_xor (2 ^ j) k j, bit_at-pow_same j)

  pub flip_flip : bit_xor (2 ^ j) (bit_xor (2 ^ j) k) ≡ k
  flip_flip = sym (xor_assoc (2 ^ j) (2 ^ j) k) ∙ ap (λ n. bit_xor n k) (xor_self (2 ^ j)) ∙ xor_zero_l k

pub flip_below : (w j k : ℕ) → j < w → k < 2 ^ w → bit_xor (2 ^ j) k < 2 ^ w
flip_below w j k hj hk = xor_lt w (2 ^ j) k (pow_below j w hj) hk

-- in the upper word as in the lower
pub flip_high : (j k : ℕ) → j < 7 → k < 128 → bit_xor (2 ^ j) (128 + k) ≡ 128 + bit_xor (2 ^ j) k
flip_high j k hj hk =
    let a : 0 * 2 ^ 7 + 2 ^ j ≡ 2 ^ j = omega arith in
    let b : 1 * 2 ^ 7 + k ≡ 128 + k = omega arith in
    rw (a, b) at (xor_block 7 0 1 (2 ^ j) k (pow_below j 7 hj) hk)

-- what stands below is tried at every j and every place
abbrev clear : ℕ → ℕ → Bool
clear j k = eqb (bit (clear_places j) k) (1 - bit k j)

pub bit-clear_places : (j k : ℕ) → j < 7 → k < 128 → bit (clear_places j) k ≡ 1 - bit k j
bit-clear_places j k hj hk = (Decides-eqb _ _).0 (every_at 128 (clear j) (every_at 7 (λ i. every 128 (clear i)) refl j hj) k hk)

pub and_without : (j k : ℕ) → j < 8 → k < 256 → bit_and (255 - 2 ^ j) k + bit k j * 2 ^ j ≡ k
and_without j k hj hk = omega (arith, and-not 8 (2 ^ j) k (pow_below j 8 hj) hk, one_bit j k)

abbrev seventh : ℕ → Bool
seventh k = eqb (bit_xor 128 k) ((k + 128) % 256)

pub flip_seventh : (k : ℕ) → k < 256 → bit_xor 128 k ≡ (k + 128) % 256
flip_seventh k h = (Decides-eqb _ _).0 (every_at 256 seventh refl k h)
