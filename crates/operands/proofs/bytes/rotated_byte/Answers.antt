use Rattle.std.proofs.Common.{◌≡◌, ◌%◌, ◌∙◌, arith}
use Rattle.operands.proofs.Rotations.{rotated_shifts}
use Rattle.operands.proofs.bytes.rotated_byte.Goals as goal

pub returns : goal.returns
returns c =
    let n = c.args.by % 8 in
    let e : n % 8 ≡ n = omega arith in
    simp e at c.rotate_right.ensures ∙ rotated_shifts n c.args.b (omega arith) (omega arith)
