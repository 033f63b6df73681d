use Rattle.std.proofs.Common.{arith}
use Rattle.std.proofs.lemmas.Nat.{pow-add}
use Rattle.sets.proofs.bitset.Bits.highest.Goals as goal

pub returns-then-self-gt0 : goal.returns-then-self-gt0
returns-then-self-gt0 c = let high = pow-add 2 128 c.highest_bit.result in (omega arith, omega arith)
