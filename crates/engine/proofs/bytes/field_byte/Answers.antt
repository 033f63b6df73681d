use Rattle.engine.proofs.Values.{value_only, value_field}
use Rattle.engine.proofs.bytes.field_byte.Goals as goal

pub returns : goal.returns
returns c =
    let x = c.constant.result in
    value_field c.field_value.result x c.args.field c.args.byte (value_only x c.args.byte c.constant.ensures) c.field_value.ensures
