-- Registers and their numbers. Assumes nothing.
--   registers       the sixteen registers in the order of their numbers
--   register_of n   the register that a number stands for, by its lowest four bits
--   number_of r     the number that stands for a register
use Rattle.std.specs.Prelude.{ℕ, ◌%◌, List, [], ◌∷◌, slice_index_or}
use Rattle.instructions.specs.declared.register.Register.{Register}
use Rattle.instructions.specs.declared.register.Register.TheVariants.{R0, R1, R2, R3, R4, R5, R6, R7, R10, R11, R12, R13, R14, R15, R16, R17}

abbrev pub registers : List Register
registers = R0 ∷ R1 ∷ R2 ∷ R3 ∷ R4 ∷ R5 ∷ R6 ∷ R7 ∷ R10 ∷ R11 ∷ R12 ∷ R13 ∷ R14 ∷ R15 ∷ R16 ∷ R17 ∷ []

abbrev pub register_of : ℕ → Register
register_of n = slice_index_or registers (n % 16) R0

abbrev pub number_of : Register → ℕ
number_of R0 = 0
number_of R1 = 1
number_of R2 = 2
number_of R3 = 3
number_of R4 = 4
number_of R5 = 5
number_of R6 = 6
number_of R7 = 7
number_of R10 = 8
number_of R11 = 9
number_of R12 = 10
number_of R13 = 11
number_of R14 = 12
number_of R15 = 13
number_of R16 = 14
number_of R17 = 15
