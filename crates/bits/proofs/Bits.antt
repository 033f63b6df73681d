-- Laws of bits and of carries; more of bits are std's, of `bit_at`, which is `bit`. Assumes nothing.
use Rattle.std.proofs.Common.{◌≡◌, ℕ, zero, suc, ◌+◌, ◌-◌, ◌*◌, ◌/◌, ◌%◌, ◌^◌, ◌<◌, ◌≤◌, Bool, eqb, sym, refl, ap, ◌∙◌, add-mul, pow-suc, one-add, arith, pow_pos}
use native.Mathlib.Nat.{add-mul-div_right, mod-add-div', div-div-eq-div-mul}
use lib.Bits.{bit_and, and_le_l}
use lib.Pow.{mod-pow-add}
use Rattle.std.proofs.lemmas.Nat.{div-add-mod', mod_below}
use Rattle.std.proofs.lemmas.Nat.Bits.{bit_at_above, bit_at_cat_low, same_from_bits_below, bit_at_and}
use Rattle.std.proofs.lemmas.Bool.Decides.{Decides-eqb}
use Rattle.operands.specs.Bytes.{rotated}
use Rattle.operands.proofs.Rotations.{every, every_at}
use Rattle.bits.specs.Bits.{bit, carry_into}

-- the lowest m bits are kept, and those past them are 0
pub bit_mod : (n m k : ℕ) → k < m → bit (n % 2 ^ m) k ≡ bit n k
bit_mod n m k h = sym (bit_at_cat_low (n / 2 ^ m) m (n % 2 ^ m) k h) ∙ ap (λ x. bit x k) (div-add-mod' n (2 ^ m))

pub bit_mod_past : (n m k : ℕ) → m ≤ k → bit (n % 2 ^ m) k ≡ 0
bit_mod_past n m k h = bit_at_above (n % 2 ^ m) m k (mod_below n (2 ^ m) (pow_pos m)) h

-- a within b, as a test of whole bytes and bit by bit
pub bits_below : (a b : ℕ) → bit_and a b ≡ a → (k : ℕ) → bit a k ≤ bit b k
bits_below a b e k = omega (arith, bit_at_and a b k, ap (λ n. bit n k) e)

pub and_within : (a b : ℕ) → a < 256 → ((k : ℕ) → k < 8 → bit a k ≤ bit b k) → bit_and a b ≡ a
and_within a b ha f =
    same_from_bits_below 8 (bit_and a b) a (omega (arith, and_le_l a b)) ha (λ k h. omega (arith, bit_at_and a b k, f k h))

-- tried at every count, every byte and every bit
rightly : ℕ → ℕ → ℕ → Bool
rightly n b k = eqb (bit (rotated n b) k) (bit b ((k + n) % 8))

pub bit-rotated : (n b k : ℕ) → n < 8 → b < 256 → k < 8 → bit (rotated n b) k ≡ bit b ((k + n) % 8)
unfolding rightly
bit-rotated n b k hn hb hk =
    let all = every_at 8 (λ m. every 256 (λ a. every 8 (rightly m a))) refl n hn in
    (Decides-eqb _ _).0 (every_at 8 (rightly n b) (every_at 256 (λ a. every 8 (rightly n a)) all b hb) k hk)

-- a sum's quotient
div_sum : (x y p : ℕ) → zero < p → (x + y) / p ≡ x / p + y / p + (x % p + y % p) / p
div_sum x y p h =
    let e : x + y ≡ (x % p + y % p) + (x / p + y / p) * p = omega (arith, mod-add-div' x p, mod-add-div' y p, add-mul (x / p) (y / p) p) in
    ap (λ n. n / p) e ∙ add-mul-div_right (x % p + y % p) (x / p + y / p) h ∙ omega arith

-- the carry into bit k is that of the bits below it
pub carry_into_lem : (x y k : ℕ) → carry_into x y k ≡ (x % 2 ^ k + y % 2 ^ k) / 2 ^ k
unfolding carry_into
carry_into_lem x y zero = omega arith
carry_into_lem x y (suc k) =
    let p = 2 ^ k in
    let ih = carry_into_lem x y k in
    let ex : x % 2 ^ suc k ≡ bit x k * p + x % p = rw (← one-add k) (mod-pow-add x 1 k) in
    let ey : y % 2 ^ suc k ≡ bit y k * p + y % p = rw (← one-add k) (mod-pow-add y 1 k) in
    let sum : x % 2 ^ suc k + y % 2 ^ suc k ≡ (x % p + y % p) + (bit x k + bit y k) * p = omega (arith, ex, ey, add-mul (bit x k) (bit y k) p) in
    let double : 2 ^ suc k ≡ p * 2 = pow-suc 2 k in
    let down : (x % 2 ^ suc k + y % 2 ^ suc k) / 2 ^ suc k ≡ (x % p + y % p + (bit x k + bit y k) * p) / p / 2 =
    rw (sum, double) (sym (div-div-eq-div-mul (x % p + y % p + (bit x k + bit y k) * p) p 2)) in
    let q = add-mul-div_right (x % p + y % p) (bit x k + bit y k) (pow_pos k) in
    rw (down, q, ← ih) (omega arith)

pub carry_le : (x y k : ℕ) → carry_into x y k ≤ 1
unfolding carry_into
carry_le x y zero = omega arith
carry_le x y (suc k) = omega (arith, carry_le x y k)

pub carry_mono : (x y u v k : ℕ) → ((j : ℕ) → j < k → bit x j ≤ bit u j) → ((j : ℕ) → j < k → bit y j ≤ bit v j) → carry_into x y k ≤ carry_into u v k
unfolding carry_into
carry_mono x y u v zero f g = omega arith
carry_mono x y u v (suc k) f g =
    omega (arith, carry_mono x y u v k (λ j h. f j (omega arith)) (λ j h. g j (omega arith)), f k (omega arith), g k (omega arith))

pub carry_out : (x y : ℕ) → x < 256 → y < 256 → carry_into x y 8 ≡ (x + y) / 256
carry_out x y hx hy = omega (arith, carry_into_lem x y 8)

pub bit_add : (x y k : ℕ) → bit (x + y) k ≡ (bit x k + bit y k + carry_into x y k) % 2
bit_add x y k = rw carry_into_lem (omega (arith, div_sum x y (2 ^ k) (pow_pos k)))
