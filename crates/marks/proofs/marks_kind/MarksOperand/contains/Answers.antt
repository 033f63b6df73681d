use Rattle.std.proofs.Common.{◌≡◌, ℕ, refl, arith}
use Rattle.marks.proofs.Members.{within_has, has_within}
use Rattle.marks.proofs.marks_kind.MarksOperand.contains.Goals as goal

pub returns-then-is_within : goal.returns-then-is_within
returns-then-is_within c =
    let x = c.args.self in
    let b = c.args.b in
    let last = c.is_within-then-is_within.ensures in
    (λ t. within_has x b (omega arith) (c.if-is_within.ensures.0 refl) (last.0 t), λ m. last.1 (has_within x b m).1)

pub returns-else-is_within : goal.returns-else-is_within
returns-else-is_within c =
    let no = c.if-is_within.false in (
      λ t. absurd (let z : ◌≡◌ {A = ℕ} 0 1 = cc in omega arith),
      λ m. c.is_within.ensures.1 (has_within c.args.self c.args.b m).0,
    )
