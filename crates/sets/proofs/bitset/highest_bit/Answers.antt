use Rattle.std.proofs.Common.{◌≡◌, ◌-◌, pow-suc, arith}
use lib.Count.{count_leading_zeros}
use Rattle.std.proofs.lemmas.Nat.{leading_top}
use Rattle.sets.proofs.bitset.highest_bit.Goals as goal

pub returns : goal.returns
returns c =
    let t = leading_top 128 c.args.w c.requires (omega arith) in
    let e : 127 - count_leading_zeros 128 c.args.w ≡ t.0 = omega (arith, t.1) in
    rw e (omega (arith, t.1), t.2, omega (arith, t.3, pow-suc 2 t.0))
