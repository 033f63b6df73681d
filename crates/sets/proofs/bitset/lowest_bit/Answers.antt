use Rattle.std.proofs.Common.{arith}
use Rattle.sets.proofs.Lowest.{trailing_least}
use Rattle.sets.proofs.bitset.lowest_bit.Goals as goal

pub returns : goal.returns
returns c =
    let t = trailing_least c.args.w c.requires (omega arith) in
    record { small = t.0; found = t.1.0; least = t.1.1 }
