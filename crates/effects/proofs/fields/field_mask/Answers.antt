use Rattle.std.proofs.Common.{◌-◌, ap, ◌∙◌, arith}
use Rattle.effects.specs.Fields.{raised_by}
use Rattle.effects.proofs.Masks.{mask_shifts}
use Rattle.effects.proofs.fields.field_mask.Goals as goal

pub returns : goal.returns
returns c =
    let f = c.args.field in
    c.raised.ensures
    ∙ ap (raised_by (7 - f.bit)) c.ones.ensures
    ∙ mask_shifts f.length f.bit (omega (arith, f.short)) f.placed
