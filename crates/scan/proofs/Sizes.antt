-- An entry is no larger than memory where the operands of a word lie in it. Assumes nothing.
use Rattle.std.proofs.Common.{ℕ, ◌+◌, ◌*◌, ◌<◌, ◌≤◌, max, sym, subst, mul-le-mul_right, arith, w8, w16, w32, w64}
use mir.Syntax.{Ty, Width, w128}
use mir.Val.{bytes}
use prog.Memory.{align, size, up}
use prog.Align.{Dv, dv→, align-bytes, align_size}

-- sixteen operands and two marks, by the alignment and the size of an operand
abbrev pub entry_size : ℕ → ℕ → ℕ
entry_size a s = up (max a 1) (up 1 (up 1 (up a 0 + 16 * s) + 1) + 1)

fits_by_width : (w : Width) (s : ℕ) → Dv (bytes w) s → 16 * s < 9223372036854775808 → entry_size (bytes w) s < 9223372036854775808
fits_by_width w8 s d h = omega arith
fits_by_width w16 s d h = omega arith
fits_by_width w32 s d h = omega arith
fits_by_width w64 s d h = omega arith
fits_by_width w128 s d h = omega (arith, dv→ 16 s d)

pub entry_fits : (τ : Ty) (n : ℕ) → 16 ≤ n → n * size τ < 9223372036854775808 → entry_size (align τ) (size τ) < 9223372036854775808
entry_fits τ n h f =
    let e = align-bytes τ in
    let less : 16 * size τ < 9223372036854775808 = omega (arith, mul-le-mul_right {m = 16} {n = n} (size τ) h) in
    subst (λ a. entry_size a (size τ) < 9223372036854775808) (sym e)
    (fits_by_width _ (size τ) (subst (λ a. Dv a (size τ)) e (align_size τ)) less)
