use Rattle.operands.specs.Bytes.{Two, two}
use Rattle.sets.specs.Numbers.{number, In}
use Rattle.sets.specs.Steps.{Image, GivesRows}
use Rattle.sets.proofs.Gathering.{Gathered}
use Rattle.sets.proofs.images.rows.Given as goal

-- whatever operation the rows are of
abbrev pub invariant-loop-a : goal.invariant-loop-a
invariant-loop-a g l =
    goal.F-IsAlwaysCallable g l.row
    × ((f : Two) → GivesRows f (goal.F-post g l.row)
    → Gathered (number l.fn.xs) (λ a. Image (two f a) (In (number l.ys))) (number l.a-iterator.rest) (number l.out))
