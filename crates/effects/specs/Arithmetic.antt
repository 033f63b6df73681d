-- What the arithmetic and logic unit gives, over any kind of operands. Assumes nothing.
--   field_bytes o f P       from the bytes P of a port those that the field f reads: rotated right until the field's
--                           lowest bit is bit 7, and as many of the lowest bits kept as the field has
--   result_bytes o op P Q   from the bytes P of a source and the bytes Q of R0 those that an operation gives
--   Carried o op P Q k      k has the carries, and only ADD has any
--   field_byte, result_byte, carry_byte   the same for bytes: the carry is 1 if the full sum exceeds 255, else 0
use Rattle.std.specs.Prelude.{◌≡◌, ℕ, ◌+◌, ◌-◌, cond, Some, None, Option, nat_lt}
use Rattle.instructions.specs.declared.field.Field.{Field}
use Rattle.instructions.specs.declared.instruction.Operation.{Operation}
use Rattle.instructions.specs.declared.instruction.Operation.TheVariants.{Move, Add, And, Xor}
use Rattle.operands.specs.Bytes.{Bytes, Same, one, two}
use Rattle.operands.specs.Bytes.One.{rotate, keep}
use Rattle.operands.specs.Bytes.Two.{and, xor, sum, carry}
use Rattle.operands.specs.Operations.{Operations}

abbrev pub field_bytes : {K : Type 0} → Operations K → Field → Bytes → Bytes
field_bytes o f P = o.ones (keep f.length) (o.ones (rotate (7 - f.bit)) P)

abbrev pub result_bytes : {K : Type 0} → Operations K → Operation → Bytes → Bytes → Bytes
result_bytes o Move P Q = P
result_bytes o Add P Q = o.twos sum P Q
result_bytes o And P Q = o.twos and P Q
result_bytes o Xor P Q = o.twos xor P Q

abbrev pub Carried : {K : Type 0} → Operations K → Operation → Bytes → Bytes → Option K → Type 0
Carried o Move P Q k = k ≡ None
Carried o Add P Q None = ⊥
Carried o Add P Q (Some k) = Same (o.has k) (o.twos carry P Q)
Carried o And P Q k = k ≡ None
Carried o Xor P Q k = k ≡ None

abbrev pub field_byte : Field → ℕ → ℕ
field_byte f b = one (keep f.length) (one (rotate (7 - f.bit)) b)

abbrev pub result_byte : Operation → ℕ → ℕ → ℕ
result_byte Move a b = a
result_byte Add a b = two sum a b
result_byte And a b = two and a b
result_byte Xor a b = two xor a b

abbrev pub carry_byte : Operation → ℕ → ℕ → Option ℕ
carry_byte Move a b = None
carry_byte Add a b = Some (cond (nat_lt 255 (a + b)) 1 0)
carry_byte And a b = None
carry_byte Xor a b = None
