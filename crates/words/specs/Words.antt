-- What an instruction word means. Assumes nothing.
--   opcode, S, L, D     the four parts of a word: bits 0-2, 3-7, 8-10 and 11-15; bit 0 is the most significant one
--   meaning w           the instruction that a word means, or none
--   Alone w r           no word but w means what r is, if it is an instruction
--   permitted w         whether the manual permits the word
--   permitted_below n   how many words below n are permitted
use Rattle.std.specs.Prelude.{◌≡◌, ℕ, ◌+◌, ◌*◌, ◌/◌, ◌%◌, ◌<◌, Bool, cond, not, ◌&&◌, ◌||◌, Some, None, Option, ◌==◌, nat_lt}
use Rattle.std.specs.List.{count_by, range_with_len}
use Rattle.instructions.specs.declared.instruction.Source.{Source}
use Rattle.instructions.specs.declared.instruction.Source.TheVariants as source
use Rattle.instructions.specs.declared.instruction.Destination.{Destination}
use Rattle.instructions.specs.declared.instruction.Destination.TheVariants as destination
use Rattle.instructions.specs.declared.instruction.Operation.{Operation}
use Rattle.instructions.specs.declared.instruction.Operation.TheVariants as operation
use Rattle.instructions.specs.declared.instruction.Instruction.{Instruction}
use Rattle.instructions.specs.declared.instruction.Instruction.TheVariants.{Alu, Xec, Nzt, Xmit, Jmp}
use Rattle.instructions.specs.Registers.{register_of}
use Rattle.words.specs.Fields.{field_of}

abbrev pub opcode : ℕ → ℕ
opcode w = w / 8192

abbrev pub part_s : ℕ → ℕ
part_s w = w / 256 % 32

abbrev pub part_l : ℕ → ℕ
part_l w = w / 32 % 8

abbrev pub part_d : ℕ → ℕ
part_d w = w % 32

-- a number below o20 is a register, any other a bank field of length l
abbrev pub source_of : ℕ → ℕ → ℕ → Source
source_of s rotate l = cond (nat_lt s 16) (source.Register (register_of s) rotate) (source.Field (field_of s l))

abbrev pub destination_of : ℕ → ℕ → Destination
destination_of d l = cond (nat_lt d 16) (destination.Register (register_of d)) (destination.Field (field_of d l))

-- beside a register the constant J fills bits 8-15, beside a bank field bits 11-15
abbrev pub constant_of : ℕ → ℕ → ℕ → ℕ
constant_of s l d = cond (nat_lt s 16) (l * 32 + d) d

abbrev pub operation_of : ℕ → Operation
operation_of c =
    cond (c == 0) operation.Move (cond (c == 1) operation.Add (cond (c == 2) operation.And operation.Xor))

-- MOVE, ADD, AND, XOR: R10 is no destination, and L rotates only from register to register
abbrev pub alu_of : ℕ → ℕ → ℕ → ℕ → Option Instruction
alu_of c s l d =
    cond (d == 8) None (Some (Alu (operation_of c) (source_of s (cond (nat_lt d 16) l 0) l) (destination_of d l)))

-- XEC: a bank field has 1 to 5 bits
abbrev pub xec_of : ℕ → ℕ → ℕ → Option Instruction
xec_of s l d =
    cond (not (nat_lt s 16) && (l == 0 || nat_lt 5 l)) None (Some (Xec (source_of s 0 l) (constant_of s l d)))

abbrev pub nzt_of : ℕ → ℕ → ℕ → Option Instruction
nzt_of s l d = Some (Nzt (source_of s 0 l) (constant_of s l d))

-- XMIT: bits 3-7 are the destination, which is not R10
abbrev pub xmit_of : ℕ → ℕ → ℕ → Option Instruction
xmit_of s l d = cond (s == 8) None (Some (Xmit (constant_of s l d) (destination_of s l)))

abbrev pub jmp_of : ℕ → ℕ → ℕ → Option Instruction
jmp_of s l d = Some (Jmp (s * 256 + l * 32 + d))

unfoldable pub meaning_of : ℕ → ℕ → ℕ → ℕ → Option Instruction
meaning_of c s l d =
    cond (nat_lt c 4) (alu_of c s l d)
    (cond (c == 4) (xec_of s l d)
    (cond (c == 5) (nzt_of s l d)
    (cond (c == 6) (xmit_of s l d)
    (jmp_of s l d))))

abbrev pub meaning : ℕ → Option Instruction
meaning w = meaning_of (opcode w) (part_s w) (part_l w) (part_d w)

-- no other word means what w means
abbrev pub Alone : ℕ → Option Instruction → Type 0
Alone w None = Unit {0}
Alone w (Some i) = (v : ℕ) → v < 65536 → meaning v ≡ Some i → v ≡ w

-- R10 holds the overflow and is no destination, of MOVE to XOR in bits 11-15, of XMIT in bits 3-7
abbrev pub writes_r10 : ℕ → Bool
writes_r10 w = (nat_lt (opcode w) 4 && part_d w == 8) || (opcode w == 6 && part_s w == 8)

-- XEC takes 1 to 5 bits of a bank field
abbrev pub executes_too_many : ℕ → Bool
executes_too_many w = opcode w == 4 && (not (nat_lt (part_s w) 16) && (part_l w == 0 || nat_lt 5 (part_l w)))

unfoldable pub permitted : ℕ → Bool
permitted w = not (writes_r10 w || executes_too_many w)

unfoldable pub permitted_below : ℕ → ℕ
permitted_below n = count_by permitted (range_with_len 0 n)
