-- The worked sum: from what its contract says in every kind. Assumes nothing.
use Rattle.std.proofs.Common.{refl, inl, inr, ⊎_elim, arith}
use Rattle.operands.specs.Bytes.{Same}
use Rattle.operands.specs.Worked.{OneAddedToEither}
use Rattle.sets.specs.declared.set.Set.{Set}
use Rattle.sets.specs.Sets.{set_has, set_joined, set_operations, OneOrTwo}

pub worked_sum : (r : Set) → OneAddedToEither set_operations set_joined r → Same (set_has r) OneOrTwo
worked_sum r (z, o, (hz, ho, hr)) = (
  (λ b h.
      let t = hr.0 b h in
      let y = t.2.1.0 in
      let e = t.2.1.1 in
      ⊎_elim
      (λ p. let x = hz.0 t.0 p in inl (omega arith))
      (λ p. let x = ho.0 t.0 p in inr (omega arith))
      t.2.0),
  (λ b h. ⊎_elim
      (λ e. hr.1 b (0, 1, (inl (hz.1 0 refl), (refl, e))))
      (λ e. hr.1 b (1, 1, (inr (ho.1 1 refl), (refl, e))))
      h),
)
