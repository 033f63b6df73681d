-- Runs of many cycles. Assumes nothing.
--   Ran                  what came of a run: how many cycles it finished, the fault that ended it, if any, and what it left
--   run_of code n st     n cycles with neither line active, one after the other, up to the first fault
--   longest_run          the most cycles of a run
--   run_call code n st   a run: a longer one is refused and changes nothing
use Rattle.std.specs.Prelude.{ℕ, zero, suc, ◌+◌, false, cond, List, Some, None, Ok, Err, Option, Result, nat_lt}
use Rattle.engine.specs.declared.fault.EngineFault.{EngineFault}
use Rattle.engine.specs.declared.fault.EngineFault.TheVariants.{RunLength}
use Rattle.engine.specs.States.{State}
use Rattle.engine.specs.Cycles.{cycle_of}

pub record Ran : Type 0 where
  pub finished : ℕ
  pub fault : Option EngineFault
  pub after : State

abbrev pub further : Ran → Ran
further r = record { finished = suc r.finished; fault = r.fault; after = r.after }

-- what a cycle answered and left, and how the run goes on from there
abbrev pub onward : (State → Ran) → Result (Unit {0}) EngineFault → State → Ran
onward rest (Ok u) st = further (rest st)
onward rest (Err f) st = record { finished = 0; fault = Some f; after = st }

abbrev pub run_of : List ℕ → ℕ → State → Ran
run_of code zero st = record { finished = 0; fault = None; after = st }
run_of code (suc n) st =
    onward (λ v. run_of code n v) (cycle_of code false false st).0 (cycle_of code false false st).1

abbrev pub longest_run : ℕ
longest_run = 65536

abbrev pub run_call : List ℕ → ℕ → State → Ran
run_call code n st =
    cond (nat_lt longest_run n) (record { finished = 0; fault = Some RunLength; after = st }) (run_of code n st)

-- a run that was already k cycles on
abbrev pub ahead : ℕ → Ran → Ran
ahead k r = record { finished = k + r.finished; fault = r.fault; after = r.after }
