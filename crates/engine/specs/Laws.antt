-- Laws of a cycle, above the rules of the single instructions. Assumes nothing.
--   KeepsAllButAddresses a b   registers, ready flags and both banks are in b what they were in a
--   OnePort a b                at most one port of one bank differs, and only in writable bits
--   Runs code reset halt a i   neither line is active and the word at the address register means i
--   Spares i a b               what the instruction i leaves alone
--   KeepsOwnBits i a b         a written field leaves the port's own bits outside the field, unless data came from the other bank
--   CycleLaws                  all of them, of a cycle from a that answers r and leaves b
use Rattle.std.specs.Prelude.{◌≡◌, ℕ, ◌<◌, Bool, true, false, List, Some, None, Err, Option, Result}
use Rattle.instructions.specs.declared.field.Side.{Side}
use Rattle.instructions.specs.declared.register.Register.TheVariants.{R10}
use Rattle.instructions.specs.declared.instruction.Destination.{Destination}
use Rattle.instructions.specs.declared.instruction.Destination.TheVariants as destination
use Rattle.instructions.specs.declared.instruction.Operation.{Operation}
use Rattle.instructions.specs.declared.instruction.Operation.TheVariants as operation
use Rattle.instructions.specs.declared.instruction.Instruction.{Instruction}
use Rattle.instructions.specs.declared.instruction.Instruction.TheVariants.{Alu, Xec, Nzt, Xmit, Jmp}
use Rattle.bits.specs.Bits.{bit}
use Rattle.words.specs.Words.{meaning}
use Rattle.words.specs.Code.{word_at}
use Rattle.banks.specs.Ports.{port_at}
use Rattle.effects.specs.Fields.{field_mask}
use Rattle.effects.specs.Usage.{source_side, whole_port}
use Rattle.engine.specs.declared.fault.EngineFault.{EngineFault}
use Rattle.engine.specs.States.{State, register, ports_of, port_number}
use Rattle.engine.specs.Effects.{latch_side}

pub record KeepsAllButAddresses (a b : State) : Type 0 where
  pub registers : b.core.registers ≡ a.core.registers
  pub left_ready : b.core.left_ready ≡ a.core.left_ready
  pub right_ready : b.core.right_ready ≡ a.core.right_ready
  pub left : b.left ≡ a.left
  pub right : b.right ≡ a.right

pub record OnePort (a b : State) : Type 0 where
  pub bank : Side
  pub port : ℕ
  pub others : (side : Side) (k : ℕ) → ((side ≡ bank) × (k ≡ port) → ⊥) → port_at (ports_of side b) k ≡ port_at (ports_of side a) k
  pub mask : (port_at (ports_of bank b) port).mask ≡ (port_at (ports_of bank a) port).mask
  pub fixed : (j : ℕ) → bit (port_at (ports_of bank a) port).mask j ≡ 0 → bit (port_at (ports_of bank b) port).byte j ≡ bit (port_at (ports_of bank a) port).byte j

abbrev pub KeepsRegistersIf : Option Side → State → State → Type 0
KeepsRegistersIf None a b = Unit {0}
KeepsRegistersIf (Some side) a b = b.core.registers ≡ a.core.registers

-- XEC changes the address register alone, NZT and JMP both addresses alone, and a transmit to R12 or R13 no register
abbrev pub Spares : Instruction → State → State → Type 0
Spares (Alu o s d) a b = Unit {0}
Spares (Xmit j d) a b = KeepsRegistersIf (whole_port d) a b
Spares (Nzt s j) a b = KeepsAllButAddresses a b
Spares (Xec s j) a b = KeepsAllButAddresses a b × (b.core.pc ≡ a.core.pc)
Spares (Jmp n) a b = KeepsAllButAddresses a b

-- a field that is written while the bits around it come from the origin's port
abbrev pub KeepsOwn : Destination → Option Side → State → State → Type 0
KeepsOwn (destination.Register r) origin a b = Unit {0}
KeepsOwn (destination.Field f) origin a b =
    latch_side origin f ≡ f.side → (j : ℕ) → bit (field_mask f) j ≡ 0 →
    bit (port_at (ports_of f.side b) (port_number f.side a)).byte j ≡ bit (port_at (ports_of f.side a) (port_number f.side a)).byte j

abbrev pub KeepsOwnBits : Instruction → State → State → Type 0
KeepsOwnBits (Alu o s d) a b = KeepsOwn d (source_side s) a b
KeepsOwnBits (Xmit j d) a b = KeepsOwn d None a b
KeepsOwnBits (Nzt s j) a b = Unit {0}
KeepsOwnBits (Xec s j) a b = Unit {0}
KeepsOwnBits (Jmp n) a b = Unit {0}

abbrev pub is_add : Operation → Bool
is_add operation.Move = false
is_add operation.Add = true
is_add operation.And = false
is_add operation.Xor = false

abbrev pub adds : Instruction → Bool
adds (Alu o s d) = is_add o
adds (Xmit j d) = false
adds (Nzt s j) = false
adds (Xec s j) = false
adds (Jmp n) = false

pub record InstructionLaws (i : Instruction) (a b : State) : Type 0 where
  pub spares : Spares i a b
  pub own_bits : KeepsOwnBits i a b
  pub only_add_sets_r10 : adds i ≡ false → register R10 b ≡ register R10 a
  pub r10_is_a_bit : register R10 a < 2 → register R10 b < 2
  pub one_port : OnePort a b

abbrev pub Runs : List ℕ → Bool → Bool → State → Instruction → Type 0
Runs code reset halt a i = (reset ≡ false) × ((halt ≡ false) × (meaning (word_at code a.core.ar) ≡ Some i))

pub record CycleLaws (code : List ℕ) (reset halt : Bool) (a : State) (r : Result (Unit {0}) EngineFault) (b : State) : Type 0 where
  pub reset_only_addresses : reset ≡ true → KeepsAllButAddresses a b
  pub reset_to_zero : reset ≡ true → (b.core.pc ≡ 0) × (b.core.ar ≡ 0)
  pub halt_changes_nothing : reset ≡ false → halt ≡ true → b ≡ a
  pub refusal_changes_nothing : (f : EngineFault) → r ≡ Err f → b ≡ a
  pub word_keeps_laws : (i : Instruction) → Runs code reset halt a i → InstructionLaws i a b
