use Rattle.std.proofs.Common.{◌<◌, not, ◌&&◌, length, set, Option, ap, ◌∙◌, arith}
use Rattle.instructions.specs.declared.field.Side.{Side}
use Rattle.instructions.specs.declared.field.Side.TheVariants.{Left, Right}
use Rattle.instructions.specs.Registers.{number_of}
use Rattle.effects.specs.Usage.{select_side, is_side}
use Rattle.flow.proofs.Parts.{number_below_16}
use Rattle.flow.proofs.Storing.{stored_alike}
use Rattle.flow.proofs.entry.Entry.stored.Goals as goal

pub returns : goal.returns
returns g c =
    let o = g.K.Operand.operations in
    let r = c.args.register in
    let e = c.args.self in
    let low = number_below_16 r in
    let few : number_of r < length e.operands = omega arith in
    stored_alike o e c.selected.result (number_of r) (select_side r) c.args.operand low few
    (c.selected.ensures.operands ∙ ap (λ k. set e.operands k c.args.operand) c.number.ensures.value)
    (c.selected.ensures.left ∙ ap (λ (b : Option Side). (e.left && not (is_side Left b))) c.select_side.ensures)
    (c.selected.ensures.right ∙ ap (λ (b : Option Side). (e.right && not (is_side Right b))) c.select_side.ensures)
