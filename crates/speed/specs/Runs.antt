-- A run that is measured from outside. Assumes nothing.
--   begun      a new machine with registers of 0, beside two banks whose ports hold 0 and are writable throughout
--   told r n   what is told of a run: the cycles finished, which are never more than a run can have, and in the lowest eight
--              bits register n
use Rattle.std.specs.Prelude.{ℕ, ◌+◌, ◌*◌, ◌%◌, min, get_or, replicate}
use Rattle.banks.specs.Ports.{Ports, stored}
use Rattle.engine.specs.States.{State}
use Rattle.engine.specs.Cycles.{fresh}
use Rattle.engine.specs.Runs.{Ran, longest_run}

abbrev pub ports : Ports
ports = replicate 256 (stored 0)

abbrev pub begun : State
begun = record { core = fresh (replicate 16 0); left = ports; right = ports }

abbrev pub told : Ran → ℕ → ℕ
told r n = min r.finished longest_run * 256 + get_or r.after.core.registers (n % 16) 0
