-- What may stand when a word runs, and what a word makes of it, over any kind of operands. Assumes nothing.
--   State             which bytes each register may hold, by the register's number; and as two parts more, 16 for the left bank
--                     and 17 for the right, whether the bank may be unready: all numbers if so, none if not
--   Fits s u          everything that s allows, u allows
--   Alike s u         both allow the same
--   stored_in r P s   the bytes P stored in a register; a store in R7 or R17 makes its bank ready
--   source_bytes o x s   what a source may give: a register's bytes rotated; of a bank any byte may be read
--   after o i s       the state after the instruction i, by the operations of the kind
--   start o           the state in which a machine starts: any bytes, in R10 the lowest bit of any byte, both banks unready
use Rattle.std.specs.Prelude.{ℕ, ◌<◌, cond, Some, None, Option, ◌==◌, nat_lt}
use Rattle.instructions.specs.declared.field.Side.{Side}
use Rattle.instructions.specs.declared.field.Side.TheVariants.{Left, Right}
use Rattle.instructions.specs.declared.register.Register.{Register}
use Rattle.instructions.specs.declared.register.Register.TheVariants.{R10}
use Rattle.instructions.specs.declared.instruction.Source.{Source}
use Rattle.instructions.specs.declared.instruction.Source.TheVariants as source
use Rattle.instructions.specs.declared.instruction.Destination.{Destination}
use Rattle.instructions.specs.declared.instruction.Destination.TheVariants as destination
use Rattle.instructions.specs.declared.instruction.Operation.{Operation}
use Rattle.instructions.specs.declared.instruction.Operation.TheVariants as operation
use Rattle.instructions.specs.declared.instruction.Instruction.{Instruction}
use Rattle.instructions.specs.declared.instruction.Instruction.TheVariants.{Alu, Xec, Nzt, Xmit, Jmp}
use Rattle.instructions.specs.Registers.{number_of}
use Rattle.operands.specs.Bytes.{Bytes, Inside, Only, Every}
use Rattle.operands.specs.Bytes.One.{rotate, keep}
use Rattle.operands.specs.Bytes.Two.{carry}
use Rattle.operands.specs.Operations.{Operations}
use Rattle.effects.specs.Arithmetic.{field_bytes, result_bytes}
use Rattle.effects.specs.Usage.{select_side, whole_port}

abbrev pub State : Type 1
State = ℕ → Bytes

abbrev pub Fits : State → State → Type 0
Fits s u = (r : ℕ) → r < 18 → Inside (s r) (u r)

abbrev pub Alike : State → State → Type 0
Alike s u = Fits s u × Fits u s

abbrev pub put : State → ℕ → Bytes → State
put s t P r = cond (r == t) P (s r)

-- the part that tells whether a bank may be unready
abbrev pub unready_part : Side → ℕ
unready_part Left = 16
unready_part Right = 17

abbrev pub Unready : Side → State → Type 0
Unready b s = s (unready_part b) 0

abbrev pub Nothing : Bytes
Nothing b = ⊥

abbrev pub selected : Option Side → State → State
selected None s = s
selected (Some b) s = put s (unready_part b) Nothing

abbrev pub stored_in : Register → Bytes → State → State
stored_in r P s = selected (select_side r) (put s (number_of r) P)

abbrev pub source_bytes : {K : Type 0} → Operations K → Source → State → Bytes
source_bytes o (source.Register r n) s = o.ones (rotate n) (s (number_of r))
source_bytes o (source.Field f) s = field_bytes o f Every

-- ADD leaves its carry in R10, which is register 8
abbrev pub carried_in : {K : Type 0} → Operations K → Operation → Bytes → State → State
carried_in o operation.Move P s = s
carried_in o operation.Add P s = put s 8 (o.twos carry P (s 0))
carried_in o operation.And P s = s
carried_in o operation.Xor P s = s

-- the same by an operand that has the carries, if there are any
abbrev pub carried_by : {K : Type 0} → Operations K → Option K → State → State
carried_by o None s = s
carried_by o (Some k) s = stored_in R10 (o.has k) s

-- what goes to a bank leaves the registers as they are
abbrev pub delivered_in : Destination → Bytes → State → State
delivered_in (destination.Register r) P s = stored_in r P s
delivered_in (destination.Field f) P s = s

abbrev pub transmitted_in : Option Side → Destination → Bytes → State → State
transmitted_in None d P s = delivered_in d P s
transmitted_in (Some b) d P s = s

abbrev pub computed_in : {K : Type 0} → Operations K → Operation → Source → Destination → State → State
computed_in o f x d s =
    delivered_in d (result_bytes o f (source_bytes o x s) (s 0)) (carried_in o f (source_bytes o x s) s)

abbrev pub after : {K : Type 0} → Operations K → Instruction → State → State
after o (Alu f x d) s = computed_in o f x d s
after o (Xmit j d) s = transmitted_in (whole_port d) d (Only j) s
after o (Nzt x j) s = s
after o (Xec x j) s = s
after o (Jmp a) s = s

abbrev pub start_register : {K : Type 0} → Operations K → ℕ → Bytes
start_register o r = cond (r == 8) (o.ones (keep 1) Every) Every

abbrev pub start : {K : Type 0} → Operations K → State
start o r = cond (nat_lt r 16) (start_register o r) (λ b. Unit {0})
