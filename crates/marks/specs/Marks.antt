-- Marks as a kind of operands. Assumes nothing.
--   Between l h k v    v lies between bit k of l and bit k of h
--   marks_has x        the bytes each of whose bits lies between those of low and high
--   all_marks          every bit may be 0 and may be 1
--   marks_operations   what operations give: each bit on its own (crate bits, specs/Mays.antt)
--   count_mays l h n   of the lowest n bits, how many may be 0, and how many may be 1, together
--   marks_rank x       the same of all eight bits
--   marks_joined x y   the bytes each of whose bits a member of x or of y has
use Rattle.std.specs.Prelude.{ℕ, zero, suc, ◌+◌, ◌-◌, ◌*◌, ◌≤◌, refl}
use Rattle.std.proofs.Common.{arith}
use Rattle.operands.specs.Bytes.{Bytes}
use Rattle.operands.specs.Operations.{Operations, Lawful}
use Rattle.bits.specs.Bits.{bit}
use Rattle.bits.specs.Mays.{Marked, may_either, mays}
use Rattle.bits.proofs.Bits.{bits_below}
use Rattle.bits.proofs.Mays.{mays_lawful}
use Rattle.marks.specs.declared.mark.Marks.{Marks}

abbrev pub Between : ℕ → ℕ → ℕ → ℕ → Type 0
Between l h k v = (bit l k ≤ v) × (v ≤ bit h k)

abbrev pub marks_has : Marks → Bytes
marks_has x = Marked (Between x.low x.high)

abbrev pub all_marks : Marks
all_marks = record { low = 0; high = 255; within = refl; small = omega arith }

abbrev pub marks_operations : Operations Marks
marks_operations = mays marks_has all_marks

pub marks_lawful : Lawful marks_operations
marks_lawful =
    mays_lawful marks_has all_marks (λ x b h. h.0)
    (λ x. (x.high, (x.small, λ k h. (bits_below x.low x.high x.within k, omega arith))))

unfoldable pub count_mays : ℕ → ℕ → ℕ → ℕ
count_mays l h zero = 0
count_mays l h (suc k) = (1 - bit l k) + bit h k + count_mays l h k

-- a bit counts twice at the most
pub count_le : (l h n : ℕ) → count_mays l h n ≤ 2 * n
unfolding count_mays
count_le l h zero = omega arith
count_le l h (suc n) = omega (arith, count_le l h n)

abbrev pub marks_rank : Marks → ℕ
marks_rank x = count_mays x.low x.high 8

abbrev pub marks_joined : Marks → Marks → Bytes
marks_joined x y = may_either (marks_has x) (marks_has y)
