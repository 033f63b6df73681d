use Rattle.operands.specs.Bytes.Two.{sum}
use Rattle.sets.proofs.Unions.{same_from_number, twos_some}
use Rattle.sets.proofs.operand.SetOperand.add.Goals as goal

pub made-requires : goal.made-requires
made-requires c = twos_some sum c.args.self c.args.other _ (c.combined.ensures sum (λ a s r h e. e.1))

pub returns-clause-sums : goal.returns-clause-sums
returns-clause-sums c =
    same_from_number _ _ _ c.made.ensures (c.combined.ensures sum (λ a s r h e. e.1))
