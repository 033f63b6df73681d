use Rattle.banks.proofs.Ports.{merged_mixed}
use Rattle.banks.proofs.port.merge.Goals as goal

pub returns-clause-bits : goal.returns-clause-bits
returns-clause-bits c = merged_mixed c.args.mask c.args.new c.args.old
