use Rattle.std.proofs.Common.{◌<◌, length, get_or, sym, ap, ◌∙◌, arith}
use Rattle.std.proofs.lemmas.List.{get_or_read}
use Rattle.flow.proofs.Parts.{register_has}
use Rattle.flow.proofs.entry.Entry.operand.Goals as goal

pub returns : goal.returns
returns g c =
    let o = g.K.Operand.operations in
    let e = c.args.self.now in
    let x = c.index-self-number in
    let few : c.number.result < length e.operands = omega arith in
    register_has o e c.args.register (get_or e.operands c.number.result x.result)
    (sym x.is ∙ get_or_read e.operands c.number.result x.result few x.is o.some ∙ ap (λ k. get_or e.operands k o.some) c.number.ensures.value)
