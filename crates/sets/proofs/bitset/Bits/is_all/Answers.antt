use Rattle.std.proofs.Common.{rules, ◌-◌, ◌^◌, arith}
use Rattle.sets.proofs.Words.{number_is}
use Rattle.sets.proofs.bitset.Bits.is_all.Goals as goal

pub returns : goal.returns
returns c =
    number_is c.args.self c.all.result c.eq.result (2 ^ 256 - 1) (omega arith) (omega arith) c.all.ensures (search rules)
