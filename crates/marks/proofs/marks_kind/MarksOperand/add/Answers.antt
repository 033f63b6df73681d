use Rattle.operands.specs.Bytes.Two.{sum, carry}
use Rattle.marks.proofs.Closed.{two_same}
use Rattle.marks.proofs.marks_kind.MarksOperand.add.Goals as goal

pub returns-clause-sums : goal.returns-clause-sums
returns-clause-sums c =
    let e = c.opened-sum.ensures in
    two_same sum c.args.self c.args.other _ _ (rw (← c.open_in_sum.ensures) e.low) (rw (← c.open_in_sum.ensures) e.high)

pub returns-clause-carries : goal.returns-clause-carries
returns-clause-carries c = two_same carry c.args.self c.args.other _ _ c.carry_byte.ensures c.carry_byte-2.ensures
