use Rattle.std.proofs.Common.{inl, inr, ⊎_elim}
use Rattle.std.proofs.lemmas.Bool.{both_ways}
use Rattle.flow.specs.Ways.{Jumps}
use Rattle.flow.specs.Entries.{allows}
use Rattle.scan.proofs.program.Program.strays.Goals as goal

pub returns-then-lacks_some : goal.returns-then-lacks_some
returns-then-lacks_some g c = (
  (λ t. let w = c.lacks_some.ensures.0 t in (w.0, (inl ((c.onward.ensures w.0).0 w.1.0), w.1.1))),
  (λ w. c.if-lacks_some.true),
)

pub returns-else-lacks_some : goal.returns-else-lacks_some
returns-else-lacks_some g c =
    let o = g.K.Operand.operations in
    let jumped = c.lacks_some-else-lacks_some.ensures in (
      (λ t. let w = jumped.0 t in (w.0, (inr ((c.jump.ensures w.0).0 w.1.0), w.1.1))),
      (λ w. ⊎_elim {B = Jumps o c.args.instruction (allows o c.args.entry.now) c.args.p w.0}
          (λ a. absurd (both_ways c.lacks_some.result c.if-lacks_some.false (c.lacks_some.ensures.1 (w.0, ((c.onward.ensures w.0).1 a, w.1.1)))))
          (λ a. jumped.1 (w.0, ((c.jump.ensures w.0).1 a, w.1.1)))
          w.1.0),
    )
