-- The mask of a field, by shifts, tried at every length and every bit. Assumes nothing.
use Rattle.std.proofs.Common.{◌≡◌, ℕ, ◌-◌, ◌*◌, ◌/◌, ◌%◌, ◌^◌, ◌<◌, Bool, eqb, refl}
use Rattle.std.proofs.lemmas.Bool.Decides.{Decides-eqb}
use Rattle.operands.proofs.Rotations.{every, every_at}
use Rattle.effects.specs.Fields.{mask_of}

abbrev right : ℕ → ℕ → Bool
right l b = eqb (255 / 2 ^ (8 - l) * 2 ^ (7 - b) % 256) (mask_of l b)

pub mask_shifts : (l b : ℕ) → l < 9 → b < 8 → 255 / 2 ^ (8 - l) * 2 ^ (7 - b) % 256 ≡ mask_of l b
mask_shifts l b hl hb = (Decides-eqb _ _).0 (every_at 8 (right l) (every_at 9 (λ m. every 8 (right m)) refl l hl) b hb)
