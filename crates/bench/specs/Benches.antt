-- A machine beside its two banks. Assumes nothing.
--   state_at b           what a bench holds
--   started regs l r     a new machine with these registers, and banks of these ports
--   driven_on s p v st   v driven on port p of one bank: the machine and the other bank unchanged
use Rattle.std.specs.Prelude.{ℕ, List}
use Rattle.instructions.specs.declared.field.Side.{Side}
use Rattle.instructions.specs.declared.field.Side.TheVariants.{Left, Right}
use Rattle.banks.specs.Ports.{Ports, driven_at}
use Rattle.engine.specs.States.{State}
use Rattle.engine.specs.Cycles.{state_of, fresh}
use Rattle.bench.specs.declared.bench.Bench.{Bench}

abbrev pub state_at : Bench → State
state_at b = state_of b.machine b.left.ports b.right.ports

abbrev pub started : List ℕ → Ports → Ports → State
started registers l r = record { core = fresh registers; left = l; right = r }

abbrev pub driven_on : Side → ℕ → ℕ → State → State
driven_on Left p v st = record { core = st.core; left = driven_at p v st.left; right = st.right }
driven_on Right p v st = record { core = st.core; left = st.left; right = driven_at p v st.right }
