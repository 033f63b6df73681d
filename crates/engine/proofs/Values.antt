-- Bytes are operands of one member, so what an operation gives is one byte. Assumes nothing.
use Rattle.std.proofs.Common.{◌≡◌, ℕ, ◌+◌, ◌-◌, ◌/◌, ◌<◌, cond, ltb, Some, None, Option, refl, ap, ◌∙◌, arith}
use Rattle.std.proofs.lemmas.Bool.Decides.{nat_tests}
use Rattle.std.specs.Option.{MatchOption, IsSomeAnd}
use Rattle.instructions.specs.declared.field.Field.{Field}
use Rattle.instructions.specs.declared.instruction.Operation.{Operation}
use Rattle.instructions.specs.declared.instruction.Operation.TheVariants.{Move, Add, And, Xor}
use Rattle.operands.specs.Bytes.{Same, Only, One, Two, one, two}
use Rattle.operands.specs.Bytes.One.{rotate, keep}
use Rattle.operands.specs.Bytes.Two.{and, xor, sum, carry}
use Rattle.operands.specs.Exact.{exact_ones, exact_twos}
use Rattle.operands.specs.Single.{byte_has, byte_operations}
use Rattle.operands.specs.declared.byte.Byte.{Byte}
use Rattle.effects.specs.Arithmetic.{field_bytes, result_bytes, Carried, field_byte, result_byte, carry_byte}

pub value_only : (x : Byte) (b : ℕ) → Same (byte_has x) (Only b) → x.value ≡ b
value_only x b s = s.0 x.value refl

pub value_one : (x y : Byte) (f : One) (b : ℕ) → y.value ≡ b → Same (byte_has x) (exact_ones f (byte_has y)) → x.value ≡ one f b
value_one x y f b e s =
    let h = s.0 x.value refl in
    h.1.1 ∙ ap (one f) (h.1.0 ∙ e)

pub value_field : (x y : Byte) (f : Field) (b : ℕ) → y.value ≡ b → Same (byte_has x) (field_bytes byte_operations f (byte_has y)) → x.value ≡ field_byte f b
value_field x y f b e s =
    let h = s.0 x.value refl in
    let k = h.1.0 in
    h.1.1 ∙ ap (one (keep f.length)) (k.1.1 ∙ ap (one (rotate (7 - f.bit))) (k.1.0 ∙ e))

value_two : (x y z : Byte) (f : Two) (a b : ℕ) → y.value ≡ a → z.value ≡ b → Same (byte_has x) (exact_twos f (byte_has y) (byte_has z)) → x.value ≡ two f a b
value_two x y z f a b d e s =
    let h = s.0 x.value refl in
    h.2.1.1 ∙ ap (λ n. two f n h.1) (h.2.0 ∙ d) ∙ ap (two f a) (h.2.1.0 ∙ e)

value_result : (o : Operation) (x y z : Byte) (a b : ℕ) → y.value ≡ a → z.value ≡ b → Same (byte_has x) (result_bytes byte_operations o (byte_has y) (byte_has z)) → x.value ≡ result_byte o a b
value_result Move x y z a b d e s = s.0 x.value refl ∙ d
value_result Add x y z a b d e s = value_two x y z sum a b d e s
value_result And x y z a b d e s = value_two x y z and a b d e s
value_result Xor x y z a b d e s = value_two x y z xor a b d e s

-- a sum has a carry if it exceeds 255
pub carry_above : (a b : ℕ) → a < 256 → b < 256 → (a + b) / 256 ≡ cond (ltb 255 (a + b)) 1 0
carry_above a b h k = grind (arith, nat_tests)

abbrev pub value_of : Option Byte → Option ℕ
value_of None = None
value_of (Some x) = Some x.value

value_carry : (o : Operation) (k : Option Byte) (y z : Byte) (a b : ℕ) → y.value ≡ a → z.value ≡ b → Carried byte_operations o (byte_has y) (byte_has z) k → value_of k ≡ carry_byte o a b
value_carry Move k y z a b d e s = ap value_of s
value_carry Add None y z a b d e s = absurd s
value_carry Add (Some x) y z a b d e s =
    ap Some (value_two x y z carry a b d e s ∙ carry_above a b (omega (arith, y.small, d)) (omega (arith, z.small, e)))
value_carry And k y z a b d e s = ap value_of s
value_carry Xor k y z a b d e s = ap value_of s

value_taken : (k : Option Byte) (v : Option ℕ) (P : Byte → ℕ → Type 0) → ((x : Byte) (n : ℕ) → P x n → n ≡ x.value) → MatchOption k (v ≡ None) (λ x. IsSomeAnd v (P x)) → v ≡ value_of k
value_taken None v P q h = h
value_taken (Some x) None P q h = absurd h
value_taken (Some x) (Some n) P q h = ap Some (q x n h)

-- the result and the carry of an operation on bytes
pub value_computed : (o : Operation) (r : Byte × Option Byte) (y z : Byte) (a b : ℕ) (v : Option ℕ) (P : Byte → ℕ → Type 0) → ((x : Byte) (n : ℕ) → P x n → n ≡ x.value) → Same (byte_has y) (Only a) → Same (byte_has z) (Only b) → Same (byte_has r.0) (result_bytes byte_operations o (byte_has y) (byte_has z)) → Carried byte_operations o (byte_has y) (byte_has z) r.1 → MatchOption r.1 (v ≡ None) (λ x. IsSomeAnd v (P x)) → (r.0.value ≡ result_byte o a b) × (v ≡ carry_byte o a b)
value_computed o r y z a b v P q sy sz sr sk h =
    let d = value_only y a sy in
    let f = value_only z b sz in
    (value_result o r.0 y z a b d f sr, value_taken r.1 v P q h ∙ value_carry o r.1 y z a b d f sk)
