-- Which banks an instruction selects and uses. Assumes nothing.
--   selector b, select_side r   R7 is the left bank's, R17 the right bank's: it holds the number of the selected port,
--              and a store into it selects
--   uses i b   the instruction reads or writes the bank b: by its source, by its destination,
--              or by a transmit to R12 (left) or R13 (right); selecting a port uses no bank
use Rattle.std.specs.Prelude.{Bool, true, false, cond, ◌||◌, Some, None, Option, ◌==◌}
use Rattle.instructions.specs.declared.field.Side.{Side}
use Rattle.instructions.specs.declared.field.Side.TheVariants.{Left, Right}
use Rattle.instructions.specs.declared.register.Register.{Register}
use Rattle.instructions.specs.declared.register.Register.TheVariants.{R7, R17}
use Rattle.instructions.specs.declared.instruction.Source.{Source}
use Rattle.instructions.specs.declared.instruction.Source.TheVariants as source
use Rattle.instructions.specs.declared.instruction.Destination.{Destination}
use Rattle.instructions.specs.declared.instruction.Destination.TheVariants as destination
use Rattle.instructions.specs.declared.instruction.Instruction.{Instruction}
use Rattle.instructions.specs.declared.instruction.Instruction.TheVariants.{Alu, Xec, Nzt, Xmit, Jmp}
use Rattle.instructions.specs.Registers.{number_of}

abbrev pub same_side : Side → Side → Bool
same_side Left Left = true
same_side Left Right = false
same_side Right Left = false
same_side Right Right = true

-- the register that holds the number of a bank's selected port
abbrev pub selector : Side → Register
selector Left = R7
selector Right = R17

-- the bank whose port a store into a register selects, if any
abbrev pub select_side : Register → Option Side
select_side r = cond (number_of r == 7) (Some Left) (cond (number_of r == 15) (Some Right) None)

-- the bank that a transmit to a register writes, if any
abbrev pub transmit_side : Register → Option Side
transmit_side r = cond (number_of r == 10) (Some Left) (cond (number_of r == 11) (Some Right) None)

abbrev pub is_side : Side → Option Side → Bool
is_side b None = false
is_side b (Some a) = same_side a b

abbrev pub source_side : Source → Option Side
source_side (source.Register r t) = None
source_side (source.Field f) = Some f.side

abbrev pub destination_side : Destination → Option Side
destination_side (destination.Register r) = None
destination_side (destination.Field f) = Some f.side

-- the bank whose port a transmit writes whole, if any
abbrev pub whole_port : Destination → Option Side
whole_port (destination.Register r) = transmit_side r
whole_port (destination.Field f) = None

abbrev pub transmitted_side : Destination → Option Side
transmitted_side (destination.Register r) = transmit_side r
transmitted_side (destination.Field f) = Some f.side

abbrev pub uses : Instruction → Side → Bool
uses (Alu o s d) b = is_side b (source_side s) || is_side b (destination_side d)
uses (Xec s j) b = is_side b (source_side s)
uses (Nzt s j) b = is_side b (source_side s)
uses (Xmit j d) b = is_side b (transmitted_side d)
uses (Jmp a) b = false
