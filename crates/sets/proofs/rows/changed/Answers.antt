use Rattle.std.proofs.Common.{ℕ, ◌+◌, ◌%◌, ◌^◌, sym, ap, ◌∙◌, ◌≡◌, subst, arith}
use Rattle.operands.specs.Bytes.{Same}
use Rattle.sets.specs.Numbers.{number, In}
use Rattle.sets.specs.Steps.{Image}
use Rattle.sets.proofs.Parts.{image_none, image_more, image_skip}
use Rattle.sets.proofs.rows.changed.Goals as goal
use Rattle.sets.proofs.rows.changed.Goals.{then-bits-j-eq1, else-bits-j-eq1}

pub loop-j-init : goal.loop-j-init
loop-j-init g c = λ f law step. image_none f law (c.args.bits % 2 ^ 0) (number c.args.xs) (omega arith) (omega arith)

pub loop-j-preserved : goal.loop-j-preserved
loop-j-preserved g c = λ f law step.
    let a = c.args.bits in
    let j = c.loop-j.j in
    let R = In (number c.args.xs) in
    let P = In (number c.loop-j.out) in
    let before = c.loop-j.invariant f law step in
    let Goal : ℕ → Type 0 = λ z. Same (In z) (Image (f (a % 2 ^ (j + 1))) R) in
    elim c.if-bits-j-eq1.branch [
      | then-bits-j-eq1 w ↦
          subst Goal (sym (ap number w.out-is))
          (image_more f law a j (omega arith) P R before (In (number w.change-out.result)) (omega arith)
          (step c.loop-j.out j w.change-out.result (omega arith) w.change-out.ensures))
      | else-bits-j-eq1 w ↦
          subst Goal (sym (ap number w.out-is)) (image_skip f law a j (omega arith) P R before (omega arith))
    ]

pub returns : goal.returns
returns g c = λ f law step.
    let Goal : ℕ → Type 0 = λ z. Same (In (number c.loop-j.out)) (Image (f z) (In (number c.args.xs))) in
    let end : c.loop-j.j ≡ 8 = omega arith in
    let all : c.args.bits % 2 ^ c.loop-j.j ≡ c.args.bits = ap (λ i. c.args.bits % 2 ^ i) end ∙ omega arith in
    subst Goal all (c.loop-j.invariant f law step)
