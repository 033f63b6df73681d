use Rattle.std.proofs.Common.{◌≡◌, ◌+◌, ◌-◌, arith}
use Rattle.std.proofs.lemmas.Bool.Decides.{nat_tests}
use Rattle.std.proofs.lemmas.Nat.Bits.{bit_at_cat_low}
use Rattle.sets.proofs.Halves.{bit_high}
use Rattle.sets.proofs.bitset.Bits.contains.Goals as goal

pub returns-then-b-lt128 : goal.returns-then-b-lt128
returns-then-b-lt128 c =
    let e = bit_at_cat_low c.args.self.high 128 c.args.self.low c.args.b (omega arith) in
    grind (arith, nat_tests)

pub returns-else-b-lt128 : goal.returns-else-b-lt128
returns-else-b-lt128 c =
    let b : 128 + (c.args.b - 128) ≡ c.args.b = omega arith in
    let e = rw b at (bit_high 128 c.args.self.high c.args.self.low (omega arith) (c.args.b - 128)) in
    grind (arith, nat_tests)
