-- The join of marks is least: it lies inside all marks that contain both. Assumes nothing.
use Rattle.std.specs.Prelude.{ℕ, ◌<◌}
use Rattle.std.proofs.Common.{⊎_elim, arith}
use Rattle.operands.specs.Bytes.{Inside}
use Rattle.bits.specs.Bits.{bit}
use Rattle.bits.specs.Mays.{May}
use Rattle.bits.proofs.Mays.{may_inside}
use Rattle.marks.specs.declared.mark.Marks.{Marks}
use Rattle.marks.specs.Marks.{Between, marks_has, marks_joined}

-- a bit of a member lies between low and high
pub may_between : (x : Marks) (k v : ℕ) → k < 8 → May (marks_has x) k v → Between x.low x.high k v
may_between x k v h (b, (m, e)) = (omega (arith, (m.1 k h).0, e), omega (arith, (m.1 k h).1, e))

pub joined_least : (x y u : Marks) → Inside (marks_has x) (marks_has u) → Inside (marks_has y) (marks_has u) → Inside (marks_joined x y) (marks_has u)
joined_least x y u f g b m = (
  m.0,
  λ k h.
      ⊎_elim
      (λ p. may_between u k (bit b k) h (may_inside (marks_has x) (marks_has u) k (bit b k) f p))
      (λ p. may_between u k (bit b k) h (may_inside (marks_has y) (marks_has u) k (bit b k) g p))
      (m.1 k h),
)
