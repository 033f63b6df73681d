use Rattle.std.proofs.Common.{arith}
use Rattle.marks.proofs.Members.{same_only}
use Rattle.marks.proofs.marks_kind.MarksOperand.constant.Goals as goal

pub returns : goal.returns
returns c = same_only c.args.b (omega arith)
