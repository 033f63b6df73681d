-- What results and constants leave of an entry. Assumes nothing.
use Rattle.std.proofs.Common.{◌≡◌, ℕ, Some, None, Option, sym, subst}
use Rattle.instructions.specs.declared.field.Side.{Side}
use Rattle.instructions.specs.declared.instruction.Source.{Source}
use Rattle.instructions.specs.declared.instruction.Destination.{Destination}
use Rattle.instructions.specs.declared.instruction.Operation.{Operation}
use Rattle.instructions.specs.declared.instruction.Operation.TheVariants as operation
use Rattle.operands.specs.Bytes.{Bytes, Same, Only}
use Rattle.operands.specs.Bytes.Two.{carry as carry_of}
use Rattle.operands.specs.Operations.{Operations, Lawful}
use Rattle.effects.specs.Arithmetic.{result_bytes, Carried}
use Rattle.flow.specs.States.{State, Alike, put, source_bytes, carried_in, carried_by, delivered_in, transmitted_in, computed_in}
use Rattle.flow.proofs.Storing.{same_trans}
use Rattle.flow.proofs.Monotone.{fits_refl, fits_then, put_more, delivered_more, result_more}

pub alike_refl : (s : State) → Alike s s
alike_refl s = (fits_refl s, fits_refl s)

pub alike_then : (s t u : State) → Alike s t → Alike t u → Alike s u
alike_then s t u f g = (fits_then s t u f.0 g.0, fits_then u t s g.1 f.1)

-- the same bytes delivered to states that are alike
pub delivered_alike : (d : Destination) (P Q : Bytes) (s u : State) → Same P Q → Alike s u → Alike (delivered_in d P s) (delivered_in d Q u)
delivered_alike d P Q s u p a = (delivered_more d P Q s u p.0 a.0, delivered_more d Q P u s p.1 a.1)

pub transmitted_alike : (b : Option Side) (d : Destination) (j : ℕ) (P : Bytes) (s u : State) → b ≡ None → Same P (Only j) → Alike s (delivered_in d P u) → Alike s (transmitted_in b d (Only j) u)
transmitted_alike b d j P s u e p a =
    subst (λ (c : Option Side). Alike s (transmitted_in c d (Only j) u)) (sym e)
    (alike_then s (delivered_in d P u) (delivered_in d (Only j) u) a (delivered_alike d P (Only j) u u p (alike_refl u)))

module _ {K : Type 0} (o : Operations K) (l : Lawful o) where
  result_same : (f : Operation) (P Q U V : Bytes) → Same P U → Same Q V → Same (result_bytes o f P Q) (result_bytes o f U V)
  result_same f P Q U V p q = (result_more o l f P Q U V p.0 q.0, result_more o l f U V P Q p.1 q.1)

  put_alike : (s : State) (t : ℕ) (P Q : Bytes) → Same P Q → Alike (put s t P) (put s t Q)
  put_alike s t P Q p = (put_more s s t P Q (fits_refl s) p.0, put_more s s t Q P (fits_refl s) p.1)

  carried_by_none : (c : Option K) (s : State) → c ≡ None → Alike (carried_by o c s) s
  carried_by_none c s e = subst (λ (k : Option K). Alike (carried_by o k s) s) (sym e) (alike_refl s)

  carried_alike : (f : Operation) (c : Option K) (P Q U : Bytes) (s : State) → Same P U → Same Q (s 0) → Carried o f P Q c → Alike (carried_by o c s) (carried_in o f U s)
  carried_alike operation.Move c P Q U s p q h = carried_by_none c s h
  carried_alike operation.And c P Q U s p q h = carried_by_none c s h
  carried_alike operation.Xor c P Q U s p q h = carried_by_none c s h
  carried_alike operation.Add None P Q U s p q h = absurd h
  carried_alike operation.Add (Some k) P Q U s p q h =
      put_alike s 8 (o.has k) (o.twos carry_of U (s 0))
      (same_trans (o.has k) (o.twos carry_of P Q) (o.twos carry_of U (s 0)) h
      (l.two_inside carry_of P Q U (s 0) p.0 q.0, l.two_inside carry_of U (s 0) P Q p.1 q.1))

  -- a result with its carry, from operands that have the bytes of the source and of R0
  pub computed_alike : (f : Operation) (x : Source) (d : Destination) (c : Option K) (a b v : K) (s m u : State) → Same (o.has a) (source_bytes o x s) → Same (o.has b) (s 0) → Same (o.has v) (result_bytes o f (o.has a) (o.has b)) → Carried o f (o.has a) (o.has b) c → Alike m (carried_by o c s) → Alike u (delivered_in d (o.has v) m) → Alike u (computed_in o f x d s)
  computed_alike f x d c a b v s m u sa sb sv sc am au =
      let P = source_bytes o x s in
      let R = result_bytes o f P (s 0) in
      let value : Same (o.has v) R = same_trans (o.has v) (result_bytes o f (o.has a) (o.has b)) R sv (result_same f (o.has a) (o.has b) P (s 0) sa sb) in
      let middle : Alike m (carried_in o f P s) = alike_then m (carried_by o c s) (carried_in o f P s) am (carried_alike f c (o.has a) (o.has b) P s sa sb sc) in
      alike_then u (delivered_in d (o.has v) m) (computed_in o f x d s) au (delivered_alike d (o.has v) R m (carried_in o f P s) value middle)
