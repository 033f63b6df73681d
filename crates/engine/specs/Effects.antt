-- What an instruction does to machine and banks, one rule of the manual after the other. Assumes nothing.
--   source_byte s st     the source: a register, rotated right; or a field of its bank's selected port
--   latch_side b f       the bank whose port fills the bits outside a field that is written: that of the data, if they came from one
--   bus_byte f v latch   what is written to the port of a field: the latch, its bits in the field from the result v
--   delivered, transmitted, overflowed   where results, constants and the carry of ADD go
--   performed i st       machine and banks after the instruction
--   served i c           every bank that the instruction uses is ready
use Rattle.std.specs.Prelude.{ℕ, ◌+◌, ◌-◌, ◌%◌, Bool, cond, not, ◌&&◌, ◌||◌, Some, None, Option, ◌==◌}
use Rattle.instructions.specs.declared.field.Field.{Field}
use Rattle.instructions.specs.declared.field.Side.{Side}
use Rattle.instructions.specs.declared.field.Side.TheVariants.{Left, Right}
use Rattle.instructions.specs.declared.register.Register.TheVariants.{R0, R10}
use Rattle.instructions.specs.declared.instruction.Source.{Source}
use Rattle.instructions.specs.declared.instruction.Source.TheVariants as source
use Rattle.instructions.specs.declared.instruction.Destination.{Destination}
use Rattle.instructions.specs.declared.instruction.Destination.TheVariants as destination
use Rattle.instructions.specs.declared.instruction.Operation.{Operation}
use Rattle.instructions.specs.declared.instruction.Instruction.{Instruction}
use Rattle.instructions.specs.declared.instruction.Instruction.TheVariants.{Alu, Xec, Nzt, Xmit, Jmp}
use Rattle.operands.specs.Bytes.{one}
use Rattle.operands.specs.Bytes.One.{rotate}
use Rattle.banks.specs.Ports.{merged}
use Rattle.effects.specs.Arithmetic.{field_byte, result_byte, carry_byte}
use Rattle.effects.specs.Fields.{raised_by, field_mask}
use Rattle.effects.specs.Addresses.{next_address, page_size, in_page}
use Rattle.effects.specs.Usage.{source_side, whole_port, uses}
use Rattle.engine.specs.States.{Core, State, register, ready_of, port_byte, stored, to, with_core, with_byte}

abbrev pub source_byte : Source → State → ℕ
source_byte (source.Register r n) st = one (rotate n) (register r st)
source_byte (source.Field f) st = field_byte f (port_byte f.side st)

abbrev pub latch_side : Option Side → Field → Side
latch_side None f = f.side
latch_side (Some b) f = b

abbrev pub bus_byte : Field → ℕ → ℕ → ℕ
bus_byte f v latch = merged (field_mask f) (raised_by (7 - f.bit) v) latch

-- a result goes to a register, or to a field of its bank's selected port
abbrev pub delivered : Destination → ℕ → Option Side → State → State
delivered (destination.Register r) v origin st = with_core (stored r v) st
delivered (destination.Field f) v origin st = with_byte f.side (bus_byte f v (port_byte (latch_side origin f) st)) st

-- a transmit to R12 or R13 writes the whole port of its bank and changes no register
abbrev pub transmitted_to : Option Side → Destination → ℕ → State → State
transmitted_to (Some b) d v st = with_byte b v st
transmitted_to None d v st = delivered d v None st

abbrev pub transmitted : Destination → ℕ → State → State
transmitted d v st = transmitted_to (whole_port d) d v st

-- ADD leaves its carry in R10
abbrev pub overflowed : Option ℕ → Core → Core
overflowed None c = c
overflowed (Some v) c = stored R10 v c

abbrev pub computed : Operation → Source → Destination → State → State
computed o s d st =
    delivered d (result_byte o (source_byte s st) (register R0 st)) (source_side s) (with_core (overflowed (carry_byte o (source_byte s st) (register R0 st))) st)

-- XEC sets the address register alone, the others both addresses; a page is that of the program counter
abbrev pub jumped : ℕ → State → State
jumped a st = with_core (to a a) st

abbrev pub performed : Instruction → State → State
performed (Alu o s d) st = jumped (next_address st.core.pc) (computed o s d st)
performed (Xmit j d) st = jumped (next_address st.core.pc) (transmitted d j st)
performed (Nzt s j) st =
    jumped (cond (source_byte s st == 0) (next_address st.core.pc) (in_page (page_size s) st.core.pc j)) st
performed (Xec s j) st = with_core (to st.core.pc (in_page (page_size s) st.core.pc (j + source_byte s st))) st
performed (Jmp a) st = jumped (a % 8192) st

abbrev pub served : Instruction → Core → Bool
served i c = (not (uses i Left) || ready_of Left c) && (not (uses i Right) || ready_of Right c)
