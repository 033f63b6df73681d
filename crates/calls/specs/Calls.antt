-- Calls of a machine beside its two banks. Assumes nothing.
--   Call               drive a value on a port of a bank, make one cycle, or run a number of cycles
--   driven_on bank k v side ps   the ports of a bank `side` after v was driven on port k of `bank`
--   did code call st   what a call leaves
--   Lone, alone call lone   two banks without a machine: drives reach them, cycles and runs do not
use Rattle.std.specs.Prelude.{ℕ, Bool, cond, List}
use Rattle.instructions.specs.declared.field.Side.{Side}
use Rattle.instructions.specs.declared.field.Side.TheVariants.{Left, Right}
use Rattle.banks.specs.Ports.{Ports, driven_at}
use Rattle.effects.specs.Usage.{same_side}
use Rattle.engine.specs.States.{State}
use Rattle.engine.specs.Cycles.{cycle_of}
use Rattle.engine.specs.Runs.{run_call}

pub data Call : Type 0 where
  drive : (bank : Side) (port value : ℕ) → Call
  cycle : (reset halt : Bool) → Call
  run : (n : ℕ) → Call

abbrev pub driven_on : Side → ℕ → ℕ → Side → Ports → Ports
driven_on bank k v side ps = cond (same_side bank side) (driven_at k v ps) ps

abbrev pub did : List ℕ → Call → State → State
did code (drive bank k v) st =
    record { core = st.core; left = driven_on bank k v Left st.left; right = driven_on bank k v Right st.right }
did code (cycle reset halt) st = (cycle_of code reset halt st).1
did code (run n) st = (run_call code n st).after

pub record Lone : Type 0 where
  pub left : Ports
  pub right : Ports

abbrev pub lone_ports : Side → Lone → Ports
lone_ports Left lone = lone.left
lone_ports Right lone = lone.right

abbrev pub alone : Call → Lone → Lone
alone (drive bank k v) lone =
    record { left = driven_on bank k v Left lone.left; right = driven_on bank k v Right lone.right }
alone (cycle reset halt) lone = lone
alone (run n) lone = lone
