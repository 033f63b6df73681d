use Rattle.sets.proofs.Unions.{image_some}
use Rattle.sets.proofs.operand.SetOperand.keep_lowest.Goals as goal

pub made-requires : goal.made-requires
made-requires c = image_some _ _ _ c.args.self.some c.args.self.fits c.kept_members.ensures
