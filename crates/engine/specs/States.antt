-- What the machine and its two banks hold. Assumes nothing.
--   Core              the processor: sixteen registers, program counter, address register, and for each bank whether it is ready
--   State             the processor and the ports of both banks
--   register r s      what a register holds
--   port_number b s   the number of a bank's selected port, which stands in R7 (left) or R17 (right)
--   port_byte b s     the byte of a bank's selected port
--   stored r v        v stored in a register; a store in R7 or R17 selects a port and makes its bank ready
--   to p a            the program counter becomes p and the address register a
--   with_core f s     f made to the processor, the banks unchanged
--   with_byte b v s   v written to a bank's selected port, the processor and the other bank unchanged
use Rattle.std.specs.Prelude.{ℕ, Bool, ◌||◌, List, slice_index, slice_set}
use Rattle.instructions.specs.declared.field.Side.{Side}
use Rattle.instructions.specs.declared.field.Side.TheVariants.{Left, Right}
use Rattle.instructions.specs.declared.register.Register.{Register}
use Rattle.instructions.specs.Registers.{number_of}
use Rattle.banks.specs.Ports.{Ports, port_at, written_at}
use Rattle.effects.specs.Usage.{selector, select_side, is_side}

pub record Core : Type 0 where
  pub registers : List ℕ
  pub pc : ℕ
  pub ar : ℕ
  pub left_ready : Bool
  pub right_ready : Bool

pub record State : Type 0 where
  pub core : Core
  pub left : Ports
  pub right : Ports

abbrev pub register_of : List ℕ → Register → ℕ
register_of registers r = slice_index registers (number_of r)

abbrev pub register : Register → State → ℕ
register r s = register_of s.core.registers r

abbrev pub ready_of : Side → Core → Bool
ready_of Left c = c.left_ready
ready_of Right c = c.right_ready

abbrev pub ports_of : Side → State → Ports
ports_of Left s = s.left
ports_of Right s = s.right

abbrev pub port_number : Side → State → ℕ
port_number b s = register (selector b) s

abbrev pub port_byte : Side → State → ℕ
port_byte b s = (port_at (ports_of b s) (port_number b s)).byte

abbrev pub stored : Register → ℕ → Core → Core
stored r v c =
    record {
      registers = slice_set c.registers (number_of r) v;
      pc = c.pc;
      ar = c.ar;
      left_ready = c.left_ready || is_side Left (select_side r);
      right_ready = c.right_ready || is_side Right (select_side r);
    }

abbrev pub to : ℕ → ℕ → Core → Core
to p a c =
    record { registers = c.registers; pc = p; ar = a; left_ready = c.left_ready; right_ready = c.right_ready }

abbrev pub with_core : (Core → Core) → State → State
with_core f s = record { core = f s.core; left = s.left; right = s.right }

abbrev pub with_byte : Side → ℕ → State → State
with_byte Left v s =
    record { core = s.core; left = written_at (port_number Left s) v s.left; right = s.right }
with_byte Right v s =
    record { core = s.core; left = s.left; right = written_at (port_number Right s) v s.right }
