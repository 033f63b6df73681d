use Rattle.growth.proofs.Flowing.{Partly}
use Rattle.growth.proofs.send.send.Given as goal

abbrev pub invariant-loop-r : goal.invariant-loop-r
invariant-loop-r g l =
    Partly g.K.Operand.operations g.K.Spreading.joined g.K.Spreading.rank g.K.Spreading.MAX_RANK l.bare l.initial.risen 0 l.new.operands l.initial.cells l.r l.risen l.cells
