-- The eight classes of instructions. Assumes nothing.
--   class_of i       the class of an instruction
--   class_number c   the number of a class, which stands in bits 0-2 of a word
--   mnemonic_of c    the letters by which a listing has the class
use Rattle.std.specs.Prelude.{ℕ, List, codes}
use Rattle.instructions.specs.declared.instruction.Operation.{Operation}
use Rattle.instructions.specs.declared.instruction.Operation.TheVariants as operation
use Rattle.instructions.specs.declared.instruction.Instruction.{Instruction}
use Rattle.instructions.specs.declared.instruction.Instruction.TheVariants.{Alu, Xec, Nzt, Xmit, Jmp}
use Rattle.instructions.specs.declared.instruction.Class.{Class}
use Rattle.instructions.specs.declared.instruction.Class.TheVariants as class

abbrev pub operation_class : Operation → Class
operation_class operation.Move = class.Move
operation_class operation.Add = class.Add
operation_class operation.And = class.And
operation_class operation.Xor = class.Xor

abbrev pub class_of : Instruction → Class
class_of (Alu o s d) = operation_class o
class_of (Xec s j) = class.Xec
class_of (Nzt s j) = class.Nzt
class_of (Xmit j d) = class.Xmit
class_of (Jmp a) = class.Jmp

abbrev pub class_number : Class → ℕ
class_number class.Move = 0
class_number class.Add = 1
class_number class.And = 2
class_number class.Xor = 3
class_number class.Xec = 4
class_number class.Nzt = 5
class_number class.Xmit = 6
class_number class.Jmp = 7

abbrev pub mnemonic_of : Class → List ℕ
mnemonic_of class.Move = codes "MOVE"
mnemonic_of class.Add = codes "ADD"
mnemonic_of class.And = codes "AND"
mnemonic_of class.Xor = codes "XOR"
mnemonic_of class.Xec = codes "XEC"
mnemonic_of class.Nzt = codes "NZT"
mnemonic_of class.Xmit = codes "XMIT"
mnemonic_of class.Jmp = codes "JMP"
