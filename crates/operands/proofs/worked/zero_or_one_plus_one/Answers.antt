use Rattle.operands.specs.Bytes.{Only}
use Rattle.operands.specs.Bytes.Two.{sum}
use Rattle.operands.proofs.worked.zero_or_one_plus_one.Goals as goal

pub returns : goal.returns
returns g c =
    let o = g.K.Operand.operations in
    let inside = g.K.Operand.lawful.two_inside sum in
    let P = o.has c.join-either.result.0 in
    let Q = o.has c.constant-one.result in
    let J = g.K.Spreading.joined c.constant-zero.result c.constant-one.result in
    let one = c.constant-one.ensures in
    let either = c.join-either.ensures.members in
    let all = c.add-sum.ensures.sums in (
      c.constant-zero.result,
      c.constant-one.result,
      (
        c.constant-zero.ensures,
        one,
        (
          (λ b h. inside P Q J (Only 1) either.0 one.0 b (all.0 b h)),
          (λ b h. all.1 b (inside J (Only 1) P Q either.1 one.1 b h)),
        ),
      ),
    )
