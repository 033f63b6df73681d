use Rattle.std.proofs.Common.{◌∙◌}
use Rattle.operands.specs.Bytes.{Only}
use Rattle.sets.proofs.Unions.{same_from_number, in_pow}
use Rattle.sets.proofs.operand.SetOperand.constant.Goals as goal

pub returns : goal.returns
returns c =
    let b = c.args.b in
    same_from_number _ _ (Only b) (c.made.ensures ∙ c.only.ensures) (in_pow b)
