use Rattle.std.proofs.Common.{arith}
use Rattle.marks.proofs.Closed.{opened_within}
use Rattle.marks.proofs.ends.opened.Goals as goal

pub invariant_of-result-clause-within : goal.invariant_of-result-clause-within
invariant_of-result-clause-within c = opened_within c.args.b c.args.opens (omega arith) (omega arith)
