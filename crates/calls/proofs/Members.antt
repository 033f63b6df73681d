-- What a machine reads and computes is among what its table foresees. Assumes nothing.
use Rattle.std.proofs.Common.{◌≡◌, ℕ, ◌+◌, ◌-◌, ◌*◌, ◌/◌, ◌%◌, ◌^◌, ◌<◌, Bool, cond, eqb, ltb, get_or, refl, subst, arith}
use native.Mathlib.Nat.{mod-le}
use Rattle.std.proofs.lemmas.Nat.{mod_below}
use Rattle.std.proofs.lemmas.Bool.Decides.{Decides-eqb}
use Rattle.instructions.specs.declared.field.Field.{Field}
use Rattle.instructions.specs.declared.instruction.Source.{Source}
use Rattle.instructions.specs.declared.instruction.Source.TheVariants as source
use Rattle.instructions.specs.declared.instruction.Operation.{Operation}
use Rattle.instructions.specs.declared.instruction.Operation.TheVariants as operation
use Rattle.instructions.specs.Registers.{number_of}
use Rattle.operands.specs.Bytes.{Bytes, Every, rotated, kept, kept_bits, one}
use Rattle.operands.specs.Bytes.One.{rotate, keep}
use Rattle.operands.specs.Bytes.Two.{and, xor, sum, carry}
use Rattle.operands.specs.Operations.{Operations, Lawful}
use Rattle.operands.proofs.Rotations.{every, every_at}
use Rattle.effects.specs.Arithmetic.{field_bytes, field_byte, result_bytes, result_byte}
use Rattle.engine.specs.States.{State, register, port_byte}
use Rattle.engine.specs.Effects.{source_byte}
use Rattle.engine.proofs.Values.{carry_above}
use Rattle.flow.specs.States.{State as Allowance, source_bytes}
use Rattle.flow.proofs.Parts.{number_below_16}

-- a byte rotated on by what is left of a full turn, tried at every count and every byte
abbrev turns_back : ℕ → ℕ → Bool
turns_back n y = eqb (rotated n (rotated ((8 - n) % 8) y)) y

turned_back : (n y : ℕ) → n < 8 → y < 256 → rotated n (rotated ((8 - n) % 8) y) ≡ y
turned_back n y hn hy =
    (Decides-eqb _ _).0 (every_at 256 (turns_back n) (every_at 8 (λ m. every 256 (turns_back m)) refl n hn) y hy)

rotated_small : (n b : ℕ) → rotated n b < 256
rotated_small n b = mod_below (b / 2 ^ n + b * 2 ^ (8 - n)) 256 (omega arith)

kept_small : (n b : ℕ) → b < 256 → kept n b < 256
kept_small n b h = omega (arith, mod-le b (2 ^ kept_bits n))

-- what a source gives is a byte
pub source_small : (x : Source) (st : State) → source_byte x st < 256
source_small (source.Register r n) st = rotated_small (n % 8) (register r st)
source_small (source.Field f) st = kept_small (f.length % 8) _ (rotated_small ((7 - f.bit) % 8) (port_byte f.side st))

module _ {K : Type 0} (o : Operations K) (l : Lawful o) where
  -- a number that is rotated is a byte, and every byte is one that a byte is rotated to
  every_rotated : (n b : ℕ) → o.ones (rotate n) Every (one (rotate n) b)
  every_rotated n b =
      let m = n % 8 in
      let y = rotated m b in
      let z = rotated ((8 - m) % 8) y in
      let small = rotated_small ((8 - m) % 8) y in
      subst (o.ones (rotate n) Every) (turned_back m y (omega arith) (rotated_small m b)) (l.one_has (rotate n) Every z small small)

  -- whatever number a port holds
  field_has : (f : Field) (b : ℕ) → field_bytes o f Every (field_byte f b)
  field_has f b = l.one_has (keep f.length) _ _ (rotated_small ((7 - f.bit) % 8) b) (every_rotated (7 - f.bit) b)

  pub source_has : (x : Source) (s : Allowance) (st : State) → ((r : ℕ) → r < 16 → get_or st.core.registers r 0 < 256) → ((r : ℕ) → r < 16 → s r (get_or st.core.registers r 0)) → source_bytes o x s (source_byte x st)
  source_has (source.Register r n) s st small has =
      let low = number_below_16 r in
      l.one_has (rotate n) (s (number_of r)) (register r st) (small (number_of r) low) (has (number_of r) low)
  source_has (source.Field f) s st small has = field_has f (port_byte f.side st)

  pub result_has : (f : Operation) (P Q : Bytes) (a b : ℕ) → a < 256 → b < 256 → P a → Q b → result_bytes o f P Q (result_byte f a b)
  result_has operation.Move P Q a b ha hb p q = p
  result_has operation.Add P Q a b ha hb p q = l.two_has sum P Q a b ha hb p q
  result_has operation.And P Q a b ha hb p q = l.two_has and P Q a b ha hb p q
  result_has operation.Xor P Q a b ha hb p q = l.two_has xor P Q a b ha hb p q

  pub carry_has : (P Q : Bytes) (a b : ℕ) → a < 256 → b < 256 → P a → Q b → o.twos carry P Q (cond (ltb 255 (a + b)) 1 0)
  carry_has P Q a b ha hb p q = subst (o.twos carry P Q) (carry_above a b ha hb) (l.two_has carry P Q a b ha hb p q)
