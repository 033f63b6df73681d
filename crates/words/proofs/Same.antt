-- A derived `==` answers whether its two values are equal. Assumes nothing.
use Rattle.std.proofs.Common.{◌≡◌, ℕ, ◌+◌, ◌%◌, ◌<◌, ◌≤◌, Bool, Option, Some, None, Decides, refl, ap, subst, arith}
use native.Mathlib.Bridge.{le_prop}
use Rattle.std.specs.Option.{option_eq}
use Rattle.std.proofs.lemmas.Bool.Decides.{nat_tests, Decides-at, Decides-like, Decides-and}
use Rattle.instructions.specs.declared.field.Field.{Field}
use Rattle.instructions.specs.declared.field.Side.{Side}
use Rattle.instructions.specs.declared.instruction.Source.{Source}
use Rattle.instructions.specs.declared.instruction.Source.TheVariants as source
use Rattle.instructions.specs.declared.instruction.Destination.TheVariants as destination
use Rattle.instructions.specs.declared.instruction.Destination.{Destination}
use Rattle.instructions.specs.declared.instruction.Operation.{Operation}
use Rattle.instructions.specs.declared.instruction.Instruction.{Instruction}
use Rattle.instructions.specs.declared.instruction.Instruction.TheVariants.{Alu, Xec, Nzt, Xmit, Jmp}
use Rattle.words.specs.Fields.{field_of}
use Rattle.words.specs.Rebuilding.{side_number}
use Rattle.instructions.specs.contracts.instruction.Source.{as_values as source_parts}
use Rattle.instructions.specs.contracts.instruction.Destination.{as_values as destination_parts}
use Rattle.instructions.specs.contracts.instruction.SourcePartialEq.TheImpl as source_eq
use Rattle.instructions.specs.contracts.instruction.DestinationPartialEq.TheImpl as destination_eq
use Rattle.instructions.specs.contracts.instruction.OperationPartialEq.TheImpl as operation_eq
use Rattle.instructions.specs.contracts.instruction.InstructionPartialEq.TheImpl as instruction_eq

field_path : (s t : Side) (b c m n : ℕ) → s ≡ t → b ≡ c → m ≡ n → (p : b < 8) (q : 0 < m) (r : m ≤ 8) (u : c < 8) (v : 0 < n) (w : n ≤ 8) → ◌≡◌ {A = Field} (record { side = s; bit = b; length = m; placed = p; nonempty = q; short = r }) (record { side = t; bit = c; length = n; placed = u; nonempty = v; short = w })
field_path s t b c m n e f g =
    subst (λ (t : Side). (p : b < 8) (q : 0 < m) (r : m ≤ 8) (u : c < 8) (v : 0 < n) (w : n ≤ 8) → ◌≡◌ {A = Field} (record { side = s; bit = b; length = m; placed = p; nonempty = q; short = r }) (record { side = t; bit = c; length = n; placed = u; nonempty = v; short = w })) e
    (subst (λ (c : ℕ). (p : b < 8) (q : 0 < m) (r : m ≤ 8) (u : c < 8) (v : 0 < n) (w : n ≤ 8) → ◌≡◌ {A = Field} (record { side = s; bit = b; length = m; placed = p; nonempty = q; short = r }) (record { side = s; bit = c; length = n; placed = u; nonempty = v; short = w })) f
    (subst (λ (n : ℕ). (p : b < 8) (q : 0 < m) (r : m ≤ 8) (u : b < 8) (v : 0 < n) (w : n ≤ 8) → ◌≡◌ {A = Field} (record { side = s; bit = b; length = m; placed = p; nonempty = q; short = r }) (record { side = s; bit = b; length = n; placed = u; nonempty = v; short = w })) g
    (λ p q r u v w. λ i. record { side = s; bit = b; length = m; placed = le_prop p u i; nonempty = le_prop q v i; short = le_prop r w i })))

-- a field is its bank, its bit and its length
pub field_same : (x y : Field) → x.side ≡ y.side → x.bit ≡ y.bit → x.length ≡ y.length → x ≡ y
field_same x y e f g =
    field_path x.side y.side x.bit y.bit x.length y.length e f g
    x.placed x.nonempty x.short y.placed y.nonempty y.short

-- a field is known by its bank, its bit and its length
field_known : (f : Field) → f ≡ field_of (side_number f.side + f.bit) (f.length % 8)
unfolding field_of
field_known f =
    field_same f (field_of (side_number f.side + f.bit) (f.length % 8)) (grind (arith, nat_tests)) (grind arith) (grind arith)

abbrev known_source : Source → Source
known_source (source.Register r t) = source.Register r t
known_source (source.Field f) = source.Field (field_of (side_number f.side + f.bit) (f.length % 8))

abbrev known_destination : Destination → Destination
known_destination (destination.Register r) = destination.Register r
known_destination (destination.Field f) = destination.Field (field_of (side_number f.side + f.bit) (f.length % 8))

-- the same, in the forms that `grind` uses at each source and destination in sight
pub source_known : (x : Source) → (source_parts x ≡ source_parts x) × (x ≡ known_source x)
source_known (source.Register r t) = (refl, refl)
source_known (source.Field f) = (refl, ap source.Field (field_known f))

pub destination_known : (x : Destination) → (destination_parts x ≡ destination_parts x) × (x ≡ known_destination x)
destination_known (destination.Register r) = (refl, refl)
destination_known (destination.Field f) = (refl, ap destination.Field (field_known f))

pub destination_decides : (x y : Destination) (r : Bool) → (r ≡ (destination_eq.ghosts).eq x y) → Decides r (x ≡ y)
destination_decides x y r h = grind (arith, source_known, destination_known)

pub source_decides : (x y : Source) (r : Bool) → (r ≡ (source_eq.ghosts).eq x y) → Decides r (x ≡ y)
source_decides x y r h = grind (arith, source_known, destination_known)

operation_decides : (x y : Operation) → Decides ((operation_eq.ghosts).eq x y) (x ≡ y)
operation_decides x y = grind arith

alu_decides : (o u : Operation) (s t : Source) (d e : Destination) → Decides ((instruction_eq.ghosts).eq (Alu o s d) (Alu u t e)) (Alu o s d ≡ Alu u t e)
alu_decides o u s t d e =
    Decides-like _
    (λ (w : (o ≡ u) × ((s ≡ t) × (d ≡ e))). let a = w.0 in let b = w.1.0 in let c = w.1.1 in cc)
    (λ w. (cc, (cc, cc)))
    (Decides-and _ _ (operation_decides o u) (Decides-and _ _ (source_decides s t _ refl) (destination_decides d e _ refl)))

pub instruction_decides : (x y : Instruction) (r : Bool) → (r ≡ (instruction_eq.ghosts).eq x y) → Decides r (x ≡ y)
instruction_decides (Alu o s d) (Alu u t e) r h = Decides-at r _ h (alu_decides o u s t d e)
instruction_decides x y r h = grind (arith, source_known, destination_known)

-- so does the `==` of a decoded word and an instruction
pub meaning_decides : (o : Option Instruction) (i : Instruction) (r : Bool) → (r ≡ option_eq (instruction_eq.ghosts).eq o (Some i)) → Decides r (o ≡ Some i)
meaning_decides None i r h = grind arith
meaning_decides (Some x) i r h =
    let decides = instruction_decides x i r h in
    (λ t. ap Some (decides.0 t), λ e. let same : x ≡ i = cc in decides.1 same)
