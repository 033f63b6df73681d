-- Which words run at an address, and where they go on, from a state. Assumes nothing.
--   instruction_at code a   what the word at an address means
--   RunsAt o code s p a     while the program counter is p, the word at a may run: the word at p itself, or if that is an XEC
--                           each of its targets
--   Runs o code s p i       an instruction other than XEC that runs while the program counter is p
--   Next o i s p q          q may be the next value of the program counter
use Rattle.std.specs.Prelude.{◌≡◌, ℕ, ◌+◌, ◌%◌, ◌<◌, Bool, true, false, ◌⊎◌, List, Some, None, Option, ◌≢◌}
use Rattle.instructions.specs.declared.instruction.Instruction.{Instruction}
use Rattle.instructions.specs.declared.instruction.Instruction.TheVariants.{Alu, Xec, Nzt, Xmit, Jmp}
use Rattle.words.specs.Words.{meaning}
use Rattle.words.specs.Code.{words_in, word_at}
use Rattle.operands.specs.Operations.{Operations}
use Rattle.effects.specs.Addresses.{next_address, page_size, in_page}
use Rattle.flow.specs.States.{State, source_bytes}

abbrev pub instruction_at : List ℕ → ℕ → Option Instruction
instruction_at code a = meaning (word_at code a)

abbrev pub is_xec : Instruction → Bool
is_xec (Alu o s d) = false
is_xec (Xmit j d) = false
is_xec (Nzt s j) = false
is_xec (Xec s j) = true
is_xec (Jmp a) = false

-- the addresses of the words that the instruction at p makes run
abbrev pub Reaches : {K : Type 0} → Operations K → State → ℕ → Instruction → ℕ → Type 0
Reaches o s p (Alu f x d) a = a ≡ p
Reaches o s p (Xmit j d) a = a ≡ p
Reaches o s p (Nzt x j) a = a ≡ p
Reaches o s p (Xec x j) a = (b : ℕ) × (source_bytes o x s b × (a ≡ in_page (page_size x) p (j + b)))
Reaches o s p (Jmp j) a = a ≡ p

abbrev pub ReachesBy : {K : Type 0} → Operations K → State → ℕ → Option Instruction → ℕ → Type 0
ReachesBy o s p None a = a ≡ p
ReachesBy o s p (Some i) a = Reaches o s p i a

abbrev pub RunsAt : {K : Type 0} → Operations K → List ℕ → State → ℕ → ℕ → Type 0
RunsAt o code s p a = ReachesBy o s p (instruction_at code p) a

abbrev pub Runs : {K : Type 0} → Operations K → List ℕ → State → ℕ → Instruction → Type 0
Runs o code s p i =
    (a : ℕ) × (RunsAt o code s p a × ((a < words_in code) × ((instruction_at code a ≡ Some i) × (is_xec i ≡ false))))

abbrev pub GoesOn : {K : Type 0} → Operations K → Instruction → State → Type 0
GoesOn o (Alu f x d) s = Unit {0}
GoesOn o (Xmit j d) s = Unit {0}
GoesOn o (Nzt x j) s = source_bytes o x s 0
GoesOn o (Xec x j) s = ⊥
GoesOn o (Jmp a) s = ⊥

abbrev pub Jumps : {K : Type 0} → Operations K → Instruction → State → ℕ → ℕ → Type 0
Jumps o (Alu f x d) s p q = ⊥
Jumps o (Xmit j d) s p q = ⊥
Jumps o (Nzt x j) s p q = (q ≡ in_page (page_size x) p j) × ((b : ℕ) × (source_bytes o x s b × (b ≢ 0)))
Jumps o (Xec x j) s p q = ⊥
Jumps o (Jmp a) s p q = q ≡ a % 8192

abbrev pub Next : {K : Type 0} → Operations K → Instruction → State → ℕ → ℕ → Type 0
Next o i s p q = ((q ≡ next_address p) × GoesOn o i s) ⊎ Jumps o i s p q
