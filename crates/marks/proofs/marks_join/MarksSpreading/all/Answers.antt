use Rattle.std.proofs.Common.{arith}
use Rattle.marks.proofs.Members.{lowest_same}
use Rattle.marks.proofs.marks_join.MarksSpreading.all.Goals as goal

pub returns : goal.returns
returns c = lowest_same 8 (omega arith)
