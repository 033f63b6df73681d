use Rattle.operands.specs.Bytes.One.{keep}
use Rattle.marks.proofs.Closed.{one_within, one_same}
use Rattle.marks.proofs.marks_kind.MarksOperand.keep_lowest.Goals as goal

pub invariant_of-result-clause-within : goal.invariant_of-result-clause-within
invariant_of-result-clause-within c = one_within (keep _) c.args.self _ _ c.kept_byte.ensures c.kept_byte-2.ensures

pub returns : goal.returns
returns c = one_same (keep c.args.bits) c.args.self _ _ c.kept_byte.ensures c.kept_byte-2.ensures
