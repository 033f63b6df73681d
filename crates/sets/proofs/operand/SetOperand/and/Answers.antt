use Rattle.operands.specs.Bytes.Two.{and}
use Rattle.sets.proofs.Unions.{same_from_number, twos_some}
use Rattle.sets.proofs.operand.SetOperand.and.Goals as goal

pub made-requires : goal.made-requires
made-requires c = twos_some and c.args.self c.args.other _ (c.combined.ensures and (λ a s r h e. e.1))

pub returns : goal.returns
returns c =
    same_from_number _ _ _ c.made.ensures (c.combined.ensures and (λ a s r h e. e.1))
