-- What the calls on a bench do and answer. Assumes nothing.
--   snapshot_of b         the machine of a bench, and the checksum of each bank
--   called_on code c st   what a call leaves: a drive, a cycle and a run change the state, asking for it does not
--   outcome_of code c b   what a call answers
use Rattle.std.specs.Prelude.{ℕ, List, Ok}
use Rattle.engine.specs.States as states
use Rattle.engine.specs.Cycles.{cycle_of}
use Rattle.engine.specs.Runs.{Ran, run_call}
use Rattle.bench.specs.declared.call.Call.{Call}
use Rattle.bench.specs.declared.call.Call.TheVariants as call
use Rattle.bench.specs.declared.outcome.Outcome.{Outcome}
use Rattle.bench.specs.declared.outcome.Outcome.TheVariants as outcome
use Rattle.bench.specs.declared.outcome.Snapshot.{Snapshot}
use Rattle.bench.specs.declared.bench.Bench.{Bench}
use Rattle.bench.specs.Benches.{state_at, driven_on}
use Rattle.bench.specs.Checksums.{checksum_of, port_bytes}

abbrev pub snapshot_of : Bench → Snapshot
snapshot_of b =
    record {
      machine = b.machine;
      left = checksum_of (port_bytes b.left.ports);
      right = checksum_of (port_bytes b.right.ports);
    }

abbrev pub called_on : List ℕ → Call → states.State → states.State
called_on code (call.Drive s p v) st = driven_on s p v st
called_on code (call.Cycle lines) st = (cycle_of code lines.reset lines.halt st).1
called_on code (call.Run cycles) st = (run_call code cycles st).after
called_on code call.State st = st

abbrev pub ran_to : Ran → Outcome
ran_to r = outcome.Ran r.finished r.fault

abbrev pub outcome_of : List ℕ → Call → Bench → Outcome
outcome_of code (call.Drive s p v) b = outcome.Made (Ok tt)
outcome_of code (call.Cycle lines) b = outcome.Made (cycle_of code lines.reset lines.halt (state_at b)).0
outcome_of code (call.Run cycles) b = ran_to (run_call code cycles (state_at b))
outcome_of code call.State b = outcome.State (snapshot_of b)
