use Rattle.growth.proofs.Stepping.{Stepping}
use Rattle.growth.proofs.step.step.Given as goal

abbrev pub invariant-loop-a : goal.invariant-loop-a
invariant-loop-a g l =
    Stepping g.K.Operand.operations g.K.Operand.lawful g.K.Spreading.joined g.K.Spreading.rank g.K.Spreading.MAX_RANK l.code l.p l.saved l.initial.status l.initial.operands l.a l.low l.status l.operands
