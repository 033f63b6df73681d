-- Where the words stand that can run at an address. Assumes nothing.
--   Hits P n j k     by some byte of P an XEC with the constant j reaches place k of a page of n addresses
--   first_target i p, target_count i   the lowest address, and how many there are from it on: p alone, or the page of an XEC
use Rattle.std.specs.Prelude.{◌≡◌, ℕ, ◌+◌, ◌*◌, ◌/◌, ◌%◌, Some, None, Option}
use Rattle.operands.specs.Bytes.{Bytes}
use Rattle.instructions.specs.declared.instruction.Instruction.{Instruction}
use Rattle.instructions.specs.declared.instruction.Instruction.TheVariants.{Alu, Xec, Nzt, Xmit, Jmp}
use Rattle.effects.specs.Addresses.{page_size}

abbrev pub span_first : Instruction → ℕ → ℕ
span_first (Alu o s d) p = p
span_first (Xmit j d) p = p
span_first (Nzt s j) p = p
span_first (Xec s j) p = p / page_size s * page_size s
span_first (Jmp a) p = p

abbrev pub span_count : Instruction → ℕ
span_count (Alu o s d) = 1
span_count (Xmit j d) = 1
span_count (Nzt s j) = 1
span_count (Xec s j) = page_size s
span_count (Jmp a) = 1

abbrev pub first_target : Option Instruction → ℕ → ℕ
first_target None p = p
first_target (Some i) p = span_first i p

abbrev pub target_count : Option Instruction → ℕ
target_count None = 1
target_count (Some i) = span_count i

-- some byte of P leads to a place in a page of n addresses
abbrev pub Hits : Bytes → ℕ → ℕ → ℕ → Type 0
Hits P n offset place = (b : ℕ) × (P b × ((offset + b) % n ≡ place))
