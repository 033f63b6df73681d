-- A machine and two banks that are lent together. Assumes nothing.
--   seen l r b         what is lent: the machine, and the ports of each bank
--   SameLoans a b      the machine and both banks of b are those that a lends
--   Does l r f a b     what was lent became what f makes of it, and the same machine and banks are lent still
--   Gives l r f a b x  the same where f answers too, and the answer is x
use Rattle.std.specs.Prelude.{◌≡◌, Result}
use Rattle.banks.specs.Ports.{Ports}
use Rattle.engine.specs.declared.beside.Beside.{Beside}
use Rattle.engine.specs.declared.fault.EngineFault.{EngineFault}
use Rattle.engine.specs.States.{State}
use Rattle.engine.specs.Cycles.{state_of}

abbrev pub seen : {L R : Type 0} → (L → Ports) → (R → Ports) → Beside L R → State
seen l r b = state_of b.machine.now (l b.left.now) (r b.right.now)

abbrev pub SameLoans : {L R : Type 0} → Beside L R → Beside L R → Type 0
SameLoans a b =
    (b.machine.ghost_name ≡ a.machine.ghost_name) × (b.left.ghost_name ≡ a.left.ghost_name) × (b.right.ghost_name ≡ a.right.ghost_name)

abbrev pub Does : {L R : Type 0} → (L → Ports) → (R → Ports) → (State → State) → Beside L R → Beside L R → Type 0
Does l r f a b = (seen l r b ≡ f (seen l r a)) × SameLoans a b

abbrev pub Gives : {L R : Type 0} → (L → Ports) → (R → Ports) → (State → Result (Unit {0}) EngineFault × State) → Beside L R → Beside L R → Result (Unit {0}) EngineFault → Type 0
Gives l r f a b x = ((x, seen l r b) ≡ f (seen l r a)) × SameLoans a b
