use Rattle.std.proofs.Common.{ℕ, ◌%◌, ◌^◌}
use Rattle.operands.specs.Bytes.{Same}
use Rattle.sets.specs.Numbers.{number, In}
use Rattle.sets.specs.Steps.{Image}
use Rattle.sets.specs.Mixing.{BitByBit, ChangesBit}
use Rattle.sets.proofs.rows.changed.Given as goal

-- the lowest bits are changed, whatever a change is
abbrev pub invariant-loop-j : goal.invariant-loop-j
invariant-loop-j g l =
    (f : ℕ → ℕ → ℕ) → BitByBit f → ChangesBit f (goal.F-post g l.change)
    → Same (In (number l.out)) (Image (f (l.bits % 2 ^ l.j)) (In (number l.initial.out)))
