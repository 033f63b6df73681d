use Rattle.sets.proofs.Sums.{worked_sum}
use Rattle.sets.proofs.worked.zero_or_one_plus_one.Goals as goal

pub returns : goal.returns
returns c = worked_sum c.zero_or_one_plus_one.result c.zero_or_one_plus_one.ensures
