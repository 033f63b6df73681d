use Rattle.std.proofs.Common.{refl, arith}
use Rattle.std.proofs.lemmas.Nat.{and_le_l}
use Rattle.operands.specs.Bytes.Two.{and}
use Rattle.marks.proofs.Members.{low_below}
use Rattle.marks.proofs.Closed.{two_within, two_same}
use Rattle.marks.proofs.marks_kind.MarksOperand.and.Goals as goal

pub invariant_of-result-clause-within : goal.invariant_of-result-clause-within
invariant_of-result-clause-within c =
    let x = c.args.self in
    let y = c.args.other in
    two_within and x y _ _ (omega (arith, and_le_l x.low y.low, low_below x)) refl refl

pub returns : goal.returns
returns c = two_same and c.args.self c.args.other _ _ refl refl

pub invariant_of-result-clause-small : goal.invariant_of-result-clause-small
invariant_of-result-clause-small c = omega (arith, and_le_l c.args.self.high c.args.other.high, c.args.self.small)
