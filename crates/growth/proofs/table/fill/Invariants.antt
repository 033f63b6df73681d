use Rattle.words.specs.Code.{words_in}
use Rattle.growth.specs.Measures.{load}
use Rattle.growth.specs.Memory.{Kept, Quiet}
use Rattle.growth.specs.Growth.{Growing}
use Rattle.growth.proofs.table.fill.Given as goal

abbrev pub invariant-loop-p : goal.invariant-loop-p
invariant-loop-p g l =
    Growing g.K.Operand.operations g.K.Spreading.joined l.code l.status l.operands
    × Kept g.K.Operand.operations (words_in l.code) l.initial.status l.initial.operands l.status l.operands
    × Quiet l.status l.low

abbrev pub decreases-loop-p : goal.decreases-loop-p
decreases-loop-p g l = load g.K.Operand.operations g.K.Spreading.rank g.K.Spreading.MAX_RANK (words_in l.code) l.status l.operands
