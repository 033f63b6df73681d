use Rattle.operands.specs.Bytes.Two.{xor}
use Rattle.sets.proofs.Unions.{same_from_number, twos_some}
use Rattle.sets.proofs.operand.SetOperand.xor.Goals as goal

pub made-requires : goal.made-requires
made-requires c = twos_some xor c.args.self c.args.other _ (c.combined.ensures xor (λ a s r h e. e.1))

pub returns : goal.returns
returns c =
    same_from_number _ _ _ c.made.ensures (c.combined.ensures xor (λ a s r h e. e.1))
