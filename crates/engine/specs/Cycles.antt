-- One cycle. Assumes nothing.
--   core_of m, state_of m l r     what a machine holds, and a machine beside two banks
--   fresh registers               a new machine
--   step_of code st               the word at the address register is run: the answer, and what it leaves
--   cycle_of code reset halt st   a cycle: its answer, and what it leaves
use Rattle.std.specs.Prelude.{ℕ, ◌%◌, Bool, false, cond, List, Some, None, Ok, Err, Option, Result, nat_lt, slice_index, slice_set}
use Rattle.instructions.specs.declared.instruction.Instruction.{Instruction}
use Rattle.words.specs.Words.{meaning}
use Rattle.words.specs.Code.{words_in, word_at}
use Rattle.banks.specs.Ports.{Ports}
use Rattle.engine.specs.declared.fault.EngineFault.{EngineFault}
use Rattle.engine.specs.declared.fault.EngineFault.TheVariants.{Outside, NotPermitted, NotReady}
use Rattle.engine.specs.declared.machine.Machine.{Machine}
use Rattle.engine.specs.States.{Core, State, to, with_core}
use Rattle.engine.specs.Effects.{performed, served}

abbrev pub core_of : Machine → Core
core_of m =
    record {
      registers = m.registers;
      pc = m.pc;
      ar = m.ar;
      left_ready = m.left_ready;
      right_ready = m.right_ready;
    }

abbrev pub state_of : Machine → Ports → Ports → State
state_of m l r = record { core = core_of m; left = l; right = r }

-- a new machine: R10 reduced to its lowest bit, both addresses 0, neither bank ready
abbrev pub fresh : List ℕ → Core
fresh registers =
    record {
      registers = slice_set registers 8 (slice_index registers 8 % 2);
      pc = 0;
      ar = 0;
      left_ready = false;
      right_ready = false;
    }

-- a word that is not permitted, or that uses a bank that is not ready, is refused and changes nothing
abbrev pub executed : Option Instruction → State → Result (Unit {0}) EngineFault × State
executed None st = (Err (NotPermitted st.core.ar), st)
executed (Some i) st = cond (served i st.core) (Ok tt, performed i st) (Err (NotReady st.core.ar), st)

abbrev pub step_of : List ℕ → State → Result (Unit {0}) EngineFault × State
step_of code st =
    cond (nat_lt st.core.ar (words_in code)) (executed (meaning (word_at code st.core.ar)) st)
    (Err (Outside st.core.ar), st)

-- reset sets both addresses to 0, whatever halt says; otherwise halt changes nothing
abbrev pub cycle_of : List ℕ → Bool → Bool → State → Result (Unit {0}) EngineFault × State
cycle_of code reset halt st = cond reset (Ok tt, with_core (to 0 0) st) (cond halt (Ok tt, st) (step_of code st))
