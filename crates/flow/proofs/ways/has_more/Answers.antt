use Rattle.std.proofs.Common.{◌≡◌, ◌<◌, ◌≤◌, ⊎_elim, arith, rules}
use Rattle.std.proofs.lemmas.Bool.{cases_lt}
use Rattle.flow.proofs.Ranges.{any_in_range}
use Rattle.flow.proofs.ways.has_more.Goals as goal

pub returns : goal.returns
returns g c =
    let has = g.K.Operand.operations.has c.args.x in
    let found = any_in_range _ _ _ c.any.result has c.any.ensures.ran (λ k f called. search rules) (λ k f called. search rules) in (
      λ t. let k = found.0 t in (k.0, (k.1.1.1, λ z. let low = k.1.0 in absurd (omega (arith, low, z)))),
      λ h.
          let b = h.0 in
          let small : b < 256 = g.K.Operand.lawful.bytes c.args.x b h.1.0 in
          let low : 1 ≤ b = ⊎_elim (λ z. let e : b ≡ 0 = omega arith in absurd (h.1.1 e)) (λ z. z) (cases_lt b 1) in
          found.1 (b, (low, (small, h.1.0))),
    )
