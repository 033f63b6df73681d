use Rattle.operands.specs.Bytes.{Only, one}
use Rattle.operands.specs.Bytes.One.{rotate}
use Rattle.sets.specs.Numbers.{number}
use Rattle.sets.proofs.Gathering.{Gathered}
use Rattle.sets.proofs.images.rotated_members.Given as goal

abbrev pub invariant-loop-b : goal.invariant-loop-b
invariant-loop-b l = Gathered (number l.fn.xs) (λ a. Only (one (rotate l.by) a)) (number l.b-iterator.rest) (number l.out)
