-- What the meaning of a word tells of the word. Assumes nothing.
use Rattle.std.proofs.Common.{◌≡◌, ℕ, ◌<◌, is_some, IfSome, Some, arith}
use Rattle.std.proofs.lemmas.Bool.Decides.{nat_tests}
use Rattle.instructions.specs.declared.instruction.Instruction.{Instruction}
use Rattle.instructions.specs.declared.instruction.Instruction.TheVariants.{Alu, Xec, Nzt, Xmit, Jmp}
use Rattle.words.specs.Rebuilding.{destination_number}
use Rattle.words.proofs.Numbers.{number-register_of, number_field_of}
use Rattle.words.specs.Words.{meaning_of, meaning, permitted, opcode}
use Rattle.instructions.specs.Classes.{class_of, class_number}

-- a word is permitted exactly where it has a meaning
pub meaning_permitted : (w : ℕ) → is_some (meaning w) ≡ permitted w
unfolding meaning_of permitted
meaning_permitted w = grind (arith, nat_tests)

-- the first three bits are the number of the class
pub meaning_class : (w : ℕ) → w < 65536 → IfSome (meaning w) (λ i. class_number (class_of i) ≡ opcode w)
unfolding meaning_of
meaning_class w h = grind (arith, nat_tests)

-- the number of a destination, or 0 where there is none
abbrev pub result_number : Instruction → ℕ
result_number (Alu o s d) = destination_number d
result_number (Xmit j d) = destination_number d
result_number (Xec s j) = 0
result_number (Nzt s j) = 0
result_number (Jmp a) = 0

-- nothing is stored in R10
pub meaning_spares_r10 : (w : ℕ) (i : Instruction) → meaning w ≡ Some i → result_number i ≡ 8 → ⊥
unfolding meaning_of
meaning_spares_r10 w i h e = grind (arith, nat_tests, number-register_of, number_field_of)
