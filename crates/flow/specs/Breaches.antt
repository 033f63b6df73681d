-- What a table can show to be wrong with a program, at an address p whose entry allows the state s. Assumes nothing.
--   cover i            the bank that an instruction writes and the bits that it may set there: the field's, or all eight where it
--                      transmits to R12 or R13 or brings data from the opposite bank
--   Occurs o code grants s p k   the breach k occurs
--   order k            the order in which breaches are told
--   FirstAt, ClearAt   k occurs and none that is told before it; none occurs
--   Meets o code grants t   the table keeps the rules and has no breach
use Rattle.std.specs.Prelude.{◌≡◌, ℕ, ◌<◌, ◌≤◌, true, cond, ◌⊎◌, List, Some, None, Option, ◌≢◌, bit_and}
use Rattle.instructions.specs.declared.field.Field.{Field}
use Rattle.instructions.specs.declared.field.Side.{Side}
use Rattle.instructions.specs.declared.instruction.Destination.{Destination}
use Rattle.instructions.specs.declared.instruction.Destination.TheVariants as destination
use Rattle.instructions.specs.declared.instruction.Instruction.{Instruction}
use Rattle.instructions.specs.declared.instruction.Instruction.TheVariants.{Alu, Xec, Nzt, Xmit, Jmp}
use Rattle.instructions.specs.Registers.{number_of}
use Rattle.words.specs.Code.{words_in}
use Rattle.image.specs.Grants.{mask_of}
use Rattle.operands.specs.Operations.{Operations}
use Rattle.effects.specs.Fields.{field_mask}
use Rattle.effects.specs.Usage.{same_side, selector, source_side, whole_port, uses}
use Rattle.flow.specs.declared.breach.Breach.{Breach}
use Rattle.flow.specs.declared.breach.Breach.TheVariants.{NotPermitted, Outside, Chain, Unready, Withheld}
use Rattle.flow.specs.States.{State, Unready as MayBeUnready}
use Rattle.flow.specs.Ways.{instruction_at, is_xec, RunsAt, Runs, Next}
use Rattle.flow.specs.Tables.{Table, holds, Rules}

abbrev pub Cover : Type 0
Cover = Option (Side × ℕ)

-- bits around the field come from the port that the data came from, so data from the opposite bank cover the whole port
abbrev pub cover_from : Option Side → Field → ℕ
cover_from None f = field_mask f
cover_from (Some b) f = cond (same_side b f.side) (field_mask f) 255

abbrev pub field_cover : Option Side → Destination → Cover
field_cover origin (destination.Register r) = None
field_cover origin (destination.Field f) = Some (f.side, cover_from origin f)

abbrev pub port_cover : Option Side → Destination → Cover
port_cover None d = field_cover None d
port_cover (Some b) d = Some (b, 255)

abbrev pub cover : Instruction → Cover
cover (Alu o s d) = field_cover (source_side s) d
cover (Xmit j d) = port_cover (whole_port d) d
cover (Nzt s j) = None
cover (Xec s j) = None
cover (Jmp a) = None

-- some port that may be selected does not grant all the bits
abbrev pub Exceeds : List ℕ → Cover → State → Type 0
Exceeds grants None s = ⊥
Exceeds grants (Some c) s =
    (k : ℕ) × (s (number_of (selector c.0)) k × (bit_and c.1 (mask_of grants c.0 k) ≢ c.1))

abbrev pub UsesUnready : Instruction → State → Type 0
UsesUnready i s = (b : Side) × ((uses i b ≡ true) × MayBeUnready b s)

abbrev pub Occurs : {K : Type 0} → Operations K → List ℕ → List ℕ → State → ℕ → Breach → Type 0
Occurs o code grants s p NotPermitted =
    (a : ℕ) × (RunsAt o code s p a × ((a < words_in code) × (instruction_at code a ≡ None)))
Occurs o code grants s p Outside =
    ((a : ℕ) × (RunsAt o code s p a × (words_in code ≤ a)))
    ⊎ ((i : Instruction) × (Runs o code s p i × ((q : ℕ) × (Next o i s p q × (words_in code ≤ q)))))
Occurs o code grants s p Chain =
    (a : ℕ) × (RunsAt o code s p a × ((a < words_in code) × ((i : Instruction) × ((instruction_at code a ≡ Some i) × (is_xec i ≡ true)))))
Occurs o code grants s p Unready =
    (i : Instruction) × (((instruction_at code p ≡ Some i) ⊎ Runs o code s p i) × UsesUnready i s)
Occurs o code grants s p Withheld = (i : Instruction) × (Runs o code s p i × Exceeds grants (cover i) s)

abbrev pub order : Breach → ℕ
order NotPermitted = 0
order Outside = 1
order Chain = 2
order Unready = 3
order Withheld = 4

abbrev pub FirstAt : {K : Type 0} → Operations K → List ℕ → List ℕ → State → ℕ → Breach → Type 0
FirstAt o code grants s p k =
    Occurs o code grants s p k × ((j : Breach) → order j < order k → Occurs o code grants s p j → ⊥)

abbrev pub ClearAt : {K : Type 0} → Operations K → List ℕ → List ℕ → State → ℕ → Type 0
ClearAt o code grants s p = (j : Breach) → Occurs o code grants s p j → ⊥

pub record Meets {K : Type 0} (o : Operations K) (code grants : List ℕ) (t : Table K) : Type 0 where
  pub rules : Rules o code t
  pub clear : (p : ℕ) → p < words_in code → t.entry p ≡ true → ClearAt o code grants (holds o t p) p
