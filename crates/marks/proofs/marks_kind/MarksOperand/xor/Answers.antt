use Rattle.operands.specs.Bytes.Two.{xor}
use Rattle.marks.proofs.Closed.{two_same}
use Rattle.marks.proofs.marks_kind.MarksOperand.xor.Goals as goal

pub returns : goal.returns
returns c =
    let e = c.opened.ensures in
    two_same xor c.args.self c.args.other _ _ (rw (← c.open_in_xor.ensures) e.low) (rw (← c.open_in_xor.ensures) e.high)
