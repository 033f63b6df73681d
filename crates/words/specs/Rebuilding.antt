-- The word of an instruction. Assumes nothing.
--   Rebuilt i r    r is a word exactly if that word means the instruction i, so it is none exactly if no word does
--   parts_word i   the word that the parts of an instruction make, whether or not it means the instruction
use Rattle.std.specs.Prelude.{◌≡◌, ℕ, ◌+◌, ◌*◌, ◌%◌, ◌<◌, Some, None, Option}
use Rattle.instructions.specs.declared.field.Field.{Field}
use Rattle.instructions.specs.declared.field.Side.{Side}
use Rattle.instructions.specs.declared.field.Side.TheVariants.{Left, Right}
use Rattle.instructions.specs.declared.instruction.Source.{Source}
use Rattle.instructions.specs.declared.instruction.Source.TheVariants as source
use Rattle.instructions.specs.declared.instruction.Destination.{Destination}
use Rattle.instructions.specs.declared.instruction.Destination.TheVariants as destination
use Rattle.instructions.specs.declared.instruction.Instruction.{Instruction}
use Rattle.instructions.specs.declared.instruction.Instruction.TheVariants.{Alu, Xec, Nzt, Xmit, Jmp}
use Rattle.instructions.specs.Registers.{number_of}
use Rattle.instructions.specs.Operands.{source_field, destination_field}
use Rattle.instructions.specs.Classes.{class_of, class_number}
use Rattle.words.specs.Words.{meaning}

abbrev pub Rebuilt : Instruction → Option ℕ → Type 0
Rebuilt i r = (w : ℕ) → w < 65536 → (r ≡ Some w → meaning w ≡ Some i) × (meaning w ≡ Some i → r ≡ Some w)

abbrev pub side_number : Side → ℕ
side_number Left = 16
side_number Right = 24

abbrev pub field_number : Field → ℕ
field_number f = side_number f.side + f.bit

abbrev pub source_number : Source → ℕ
source_number (source.Register r t) = number_of r
source_number (source.Field f) = field_number f

abbrev pub destination_number : Destination → ℕ
destination_number (destination.Register r) = number_of r
destination_number (destination.Field f) = field_number f

-- what stands in bits 8-10 beside a destination, where a register source is rotated by t
abbrev pub length_beside : ℕ → Destination → ℕ
length_beside t (destination.Register r) = t
length_beside t (destination.Field f) = f.length % 8

abbrev pub length_number : Source → Destination → ℕ
length_number (source.Register r t) d = length_beside t d
length_number (source.Field f) d = f.length % 8

-- what a bank field, or none, adds to bits 8-10 beside a constant
abbrev pub coded_length : Option Field → ℕ
coded_length None = 0
coded_length (Some f) = f.length % 8

abbrev pub word_of : ℕ → ℕ → ℕ → ℕ → ℕ
word_of c s l d = c * 8192 + s * 256 + l * 32 + d

abbrev pub parts_word : Instruction → ℕ
parts_word (Alu o s d) = word_of (class_number (class_of (Alu o s d))) (source_number s) (length_number s d) (destination_number d)
parts_word (Xec s j) = word_of 4 (source_number s) (coded_length (source_field s)) j
parts_word (Nzt s j) = word_of 5 (source_number s) (coded_length (source_field s)) j
parts_word (Xmit j d) = word_of 6 (destination_number d) (coded_length (destination_field d)) j
parts_word (Jmp a) = word_of 7 0 0 (a % 8192)
