use Rattle.std.proofs.Common.{arith}
use Rattle.std.proofs.lemmas.Nat.{one_shl, pow_below}
use Rattle.sets.proofs.rows.block.Goals as goal

pub returns : goal.returns
returns c = let e = one_shl c.args.j 8 (omega arith) in let h = pow_below c.args.j 7 c.requires in (omega arith, omega arith)
