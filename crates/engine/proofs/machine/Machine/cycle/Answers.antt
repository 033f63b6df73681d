use Rattle.std.proofs.Common.{rules}
use Rattle.engine.proofs.Laws.{cycle_keeps_laws}
use Rattle.engine.proofs.machine.Machine.cycle.Goals as goal

pub returns-clause-laws : goal.returns-clause-laws
returns-clause-laws g c = cycle_keeps_laws _ _ _ _ _ _ (search rules)
