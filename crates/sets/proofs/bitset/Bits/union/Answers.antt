use Rattle.std.proofs.Common.{arith}
use lib.Bits.{or_block}
use Rattle.sets.proofs.bitset.Bits.union.Goals as goal

pub returns : goal.returns
returns c =
    let x = c.args.self in
    let y = c.args.other in
    omega (arith, or_block 128 x.high y.high x.low y.low (omega arith) (omega arith))
