-- What `rotate_right` answers is the byte rotated, tried at every byte and every count. Assumes nothing.
use Rattle.std.proofs.Common.{◌≡◌, ℕ, zero, suc, ◌-◌, ◌*◌, ◌/◌, ◌%◌, ◌^◌, ◌<◌, Bool, true, ◌&&◌, eqb, refl}
use lib.Bits.{bit_or}
use Rattle.std.proofs.lemmas.Bool.Decides.{Decides-below_and, Decides-eqb}
use Rattle.operands.specs.Bytes.{rotated}

-- the test f passes at each number below n
abbrev pub every : ℕ → (ℕ → Bool) → Bool
every zero f = true
every (suc n) f = f n && every n f

pub every_at : (n : ℕ) (f : ℕ → Bool) → every n f ≡ true → (k : ℕ) → k < n → f k ≡ true
every_at n f t = (Decides-below_and f (λ k. f k ≡ true) (λ m. every m f) (λ k. (λ e. e, λ e. e)) refl (λ _. refl) n).0 t

abbrev right : ℕ → ℕ → Bool
right n b = eqb (bit_or (b / 2 ^ n) (b * 2 ^ ((8 - n) % 8) % 256)) (rotated n b)

pub rotated_shifts : (n b : ℕ) → n < 8 → b < 256 → bit_or (b / 2 ^ n) (b * 2 ^ ((8 - n) % 8) % 256) ≡ rotated n b
rotated_shifts n b hn hb =
    (Decides-eqb _ _).0 (every_at 256 (right n) (every_at 8 (λ m. every 256 (right m)) refl n hn) b hb)
