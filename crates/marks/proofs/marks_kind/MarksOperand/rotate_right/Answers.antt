use Rattle.operands.specs.Bytes.One.{rotate}
use Rattle.marks.proofs.Closed.{one_within, one_same}
use Rattle.marks.proofs.marks_kind.MarksOperand.rotate_right.Goals as goal

pub invariant_of-result-clause-within : goal.invariant_of-result-clause-within
invariant_of-result-clause-within c = one_within (rotate _) c.args.self _ _ c.rotated_byte.ensures c.rotated_byte-2.ensures

pub returns : goal.returns
returns c = one_same (rotate c.args.by) c.args.self _ _ c.rotated_byte.ensures c.rotated_byte-2.ensures
