use Rattle.std.proofs.Common.{arith}
use Rattle.sets.proofs.Turns.{bit_turned}
use Rattle.sets.proofs.rows.turned_up.Goals as goal

pub returns : goal.returns
returns c =
    let xs = c.args.xs in
    let l = c.moved_up.ensures in
    let h = c.moved_up-2.ensures in
    bit_turned c.args.by xs.low xs.high c.moved_up.result c.moved_up-2.result c.requires (omega arith) (omega arith) (l.above, l.under) (h.above, h.under)
