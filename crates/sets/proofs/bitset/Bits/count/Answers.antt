use Rattle.std.proofs.Common.{arith}
use lib.Count.{ones_cat}
use Rattle.sets.proofs.bitset.Bits.count.Goals as goal

pub returns : goal.returns
returns c = omega (arith, ones_cat 128 c.args.self.high c.args.self.low (omega arith))
