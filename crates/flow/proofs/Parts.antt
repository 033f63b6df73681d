-- The parts of a state: registers and marks. Assumes nothing.
use Rattle.std.proofs.Common.{◌≡◌, ℕ, ◌-◌, ◌<◌, ◌≤◌, Bool, true, false, cond, eqb, ltb, get_or, sym, subst, arith}
use Rattle.std.proofs.lemmas.Bool.{lt-ltb, le-ltb}
use Rattle.instructions.specs.declared.register.Register.{Register}
use Rattle.instructions.specs.declared.register.Register.TheVariants.{R0, R1, R2, R3, R4, R5, R6, R7, R10, R11, R12, R13, R14, R15, R16, R17}
use Rattle.instructions.specs.Registers.{number_of}
use Rattle.operands.specs.Bytes.{Bytes, Same}
use Rattle.operands.specs.Bytes.One.{rotate, keep}
use Rattle.operands.specs.Operations.{Operations, Lawful}
use Rattle.instructions.specs.declared.field.Field.{Field}
use Rattle.effects.specs.Arithmetic.{field_bytes}
use Rattle.effects.proofs.Bytes.{same_ones}
use Rattle.flow.specs.Tables.{marked, seen}
use Rattle.flow.specs.Entries.{allows}
use Rattle.flow.specs.declared.entry.Entry.{Entry}

-- a choice between two sets, where the test is known
pub same_then : (t : Bool) (P Q : Bytes) → t ≡ true → Same P (cond t P Q)
same_then t P Q e = subst (λ z. Same P (cond z P Q)) (sym e) (λ b m. m, λ b m. m)

pub same_else : (t : Bool) (P Q : Bytes) → t ≡ false → Same Q (cond t P Q)
same_else t P Q e = subst (λ z. Same Q (cond z P Q)) (sym e) (λ b m. m, λ b m. m)

pub number_below_16 : (r : Register) → number_of r < 16
number_below_16 R0 = omega arith
number_below_16 R1 = omega arith
number_below_16 R2 = omega arith
number_below_16 R3 = omega arith
number_below_16 R4 = omega arith
number_below_16 R5 = omega arith
number_below_16 R6 = omega arith
number_below_16 R7 = omega arith
number_below_16 R10 = omega arith
number_below_16 R11 = omega arith
number_below_16 R12 = omega arith
number_below_16 R13 = omega arith
number_below_16 R14 = omega arith
number_below_16 R15 = omega arith
number_below_16 R16 = omega arith
number_below_16 R17 = omega arith

module _ {K : Type 0} (o : Operations K) where
  pub seen_register : (cell : ℕ → K) (left right : Bool) (r : ℕ) → r < 16 → Same (o.has (cell r)) (seen o cell left right r)
  seen_register cell left right r h = same_then (ltb r 16) (o.has (cell r)) (marked (cond (eqb r 16) left right)) (lt-ltb r 16 h)

  pub seen_mark : (cell : ℕ → K) (left right : Bool) (r : ℕ) → 16 ≤ r → Same (marked (cond (eqb r 16) left right)) (seen o cell left right r)
  seen_mark cell left right r h = same_else (ltb r 16) (o.has (cell r)) (marked (cond (eqb r 16) left right)) (le-ltb r 16 h)

  -- an operand that was read from an entry
  pub register_has : (e : Entry K) (r : Register) (x : K) → x ≡ get_or e.operands (number_of r) o.some → Same (o.has x) (allows o e (number_of r))
  register_has e r x h =
      subst (λ (y : K). Same (o.has y) (allows o e (number_of r))) (sym h)
      (seen_register (λ k. get_or e.operands k o.some) e.left e.right (number_of r) (number_below_16 r))

-- a field of the same bytes
pub same_field : {K : Type 0} (o : Operations K) (laws : Lawful o) (f : Field) (P Q R : Bytes) → Same P (field_bytes o f Q) → Same Q R → Same P (field_bytes o f R)
same_field o laws f P Q R p q =
    let turn = rotate (7 - f.bit) in
    same_ones o laws (keep f.length) P (o.ones turn Q) (o.ones turn R) p (same_ones o laws turn (o.ones turn Q) Q R (λ b m. m, λ b m. m) q)
