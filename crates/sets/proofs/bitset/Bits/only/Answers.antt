use Rattle.std.proofs.Common.{◌≡◌, ◌+◌, ◌-◌, arith}
use Rattle.std.proofs.lemmas.Nat.{one_shl, pow-add}
use Rattle.sets.proofs.bitset.Bits.only.Goals as goal

pub returns-else-b-lt128 : goal.returns-else-b-lt128
returns-else-b-lt128 c =
    let e : (c.args.b - 128) + 128 ≡ c.args.b = omega arith in
    omega (arith, one_shl (c.args.b - 128) 128 (omega arith), rw e at (pow-add 2 (c.args.b - 128) 128))
