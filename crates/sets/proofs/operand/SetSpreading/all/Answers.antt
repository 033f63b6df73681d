use Rattle.std.proofs.Common.{◌∙◌}
use Rattle.operands.specs.Bytes.{Every}
use Rattle.sets.proofs.Unions.{same_from_number, in_all}
use Rattle.sets.proofs.operand.SetSpreading.all.Goals as goal

pub returns : goal.returns
returns c = same_from_number _ _ Every (c.made.ensures ∙ c.all.ensures) in_all
