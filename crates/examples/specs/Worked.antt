-- Worked examples of the chip, over the definitions that the contracts of the code use. Assumes nothing.
--   bench registers pc b   a machine with these registers and this program counter, beside two banks of storage that are ready;
--                          each port of the left one holds b
--   ran w st               machine and banks after the word w
--   WorkedExamples         the examples; words are written in decimal, with their hexadecimal form beside them
use Rattle.std.specs.Prelude.{◌≡◌, ℕ, true, List, ◌∷◌, replicate, Some, None}
use Rattle.instructions.specs.declared.field.Side.TheVariants.{Left}
use Rattle.instructions.specs.declared.register.Register.TheVariants.{R2, R7, R10}
use Rattle.instructions.specs.declared.instruction.Destination.TheVariants as destination
use Rattle.instructions.specs.declared.instruction.Instruction.TheVariants.{Xmit}
use Rattle.words.specs.Words.{meaning}
use Rattle.banks.specs.Ports.{stored_ports}
use Rattle.effects.specs.Fields.{mask_of}
use Rattle.engine.specs.States.{State, register, port_byte}
use Rattle.engine.specs.Cycles.{executed}

abbrev pub bench : List ℕ → ℕ → ℕ → State
bench registers pc b =
    record {
      core = record { registers = registers; pc = pc; ar = pc; left_ready = true; right_ready = true };
      left = stored_ports (replicate 256 b);
      right = stored_ports (replicate 256 0);
    }

-- R0 and R1 as given, the others 0
abbrev pub holding : ℕ → ℕ → List ℕ
holding r0 r1 = r0 ∷ r1 ∷ replicate 14 0

abbrev pub ran : ℕ → State → State
ran w st = (executed (meaning w) st).1

pub record WorkedExamples : Type 0 where
  -- hC705 transmits 5 to R7
  pub selects : meaning 50949 ≡ Some (Xmit 5 (destination.Register R7))
  -- hD743 writes hF3 over hF0: 3 in the two lowest bits
  pub writes_two_bits : port_byte Left (ran 55107 (bench (holding 0 0) 0 240)) ≡ 243
  -- h0008 has R10 as its destination, h97DF executes by six bits
  pub not_permitted : (meaning 8 ≡ None) × (meaning 38879 ≡ None)
  -- h2102: 200 + 100 is 44 and a carry
  pub adds : (register R2 (ran 8450 (bench (holding 100 200) 0 0)) ≡ 44) × (register R10 (ran 8450 (bench (holding 100 200) 0 0)) ≡ 1)
  -- h0122 rotates h81 by one place
  pub rotates : register R2 (ran 290 (bench (holding 0 129) 0 0)) ≡ 192
  -- eight bits from bit 3: what would stand left of bit 0 is cut off
  pub cuts_off : mask_of 8 3 ≡ 240
  -- h97BF at 40: (31 + 1) modulo 32, in the page of 32 words that begins at 32
  pub executes : ((ran 38847 (bench (holding 0 0) 40 1)).core.ar ≡ 32) × ((ran 38847 (bench (holding 0 0) 40 1)).core.pc ≡ 40)
  -- hA105 at 300: to 5 in the page of 256 words that begins at 256, or on
  pub branches : ((ran 41221 (bench (holding 0 1) 300 0)).core.pc ≡ 261) × ((ran 41221 (bench (holding 0 0) 300 0)).core.pc ≡ 301)
