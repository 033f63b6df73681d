-- An entry fits where the operands of a word do. Assumes nothing.
use Rattle.std.proofs.Common.{◌≡◌, ℕ, ◌+◌, ◌*◌, ◌%◌, ◌<◌, ◌≤◌, max, sym, subst, mul-le-mul_right, arith, w8, w16, w32, w64}
use mir.Syntax.{Ty, Width, w128}
use mir.Val.{bytes}
use prog.Memory.{align, size, up}
use prog.Align.{align_w, align-bytes, align_size, dv→}

-- the size of an entry whose operands have the alignment k and the size s: both marks stand after the operands
abbrev entry_size : ℕ → ℕ → ℕ
entry_size k s = up (max k 1) (up 1 (up 1 (up k 0 + 16 * s) + 1) + 1)

aligned_fits : (w : Width) (s : ℕ) → s % bytes w ≡ 0 → 16 * s < 9223372036854775808 → entry_size (bytes w) s < 9223372036854775808
aligned_fits w8 s d h = omega arith
aligned_fits w16 s d h = omega arith
aligned_fits w32 s d h = omega arith
aligned_fits w64 s d h = omega arith
aligned_fits w128 s d h = omega arith

pub entry_fits : (τ : Ty) (n : ℕ) → 16 ≤ n → n * size τ < 9223372036854775808 → entry_size (align τ) (size τ) < 9223372036854775808
entry_fits τ n h f =
    subst (λ k. entry_size k (size τ) < 9223372036854775808) (sym (align-bytes τ))
    (aligned_fits (align_w τ) (size τ) (subst (λ k. size τ % k ≡ 0) (align-bytes τ) (dv→ (align τ) (size τ) (align_size τ)))
    (omega (arith, mul-le-mul_right {m = 16} {n = n} (size τ) h)))
