use Rattle.operands.specs.Bytes.One.{rotate}
use Rattle.engine.proofs.Values.{value_only, value_one}
use Rattle.engine.proofs.bytes.rotated.Goals as goal

pub returns : goal.returns
returns c =
    let x = c.constant.result in
    value_one c.rotate_right.result x (rotate c.args.by) c.args.byte (value_only x c.args.byte c.constant.ensures) c.rotate_right.ensures
