-- A state that allows more has every way on, runs every word, and leaves a state that allows more. Assumes nothing.
use Rattle.std.proofs.Common.{ℕ, ◌<◌, Bool, true, false, cond, eqb, List, Some, None, Option, inl, inr, ⊎_elim, arith}
use Rattle.instructions.specs.declared.field.Side.{Side}
use Rattle.instructions.specs.declared.register.Register.{Register}
use Rattle.instructions.specs.declared.instruction.Source.{Source}
use Rattle.instructions.specs.declared.instruction.Source.TheVariants as source
use Rattle.instructions.specs.declared.instruction.Destination.{Destination}
use Rattle.instructions.specs.declared.instruction.Destination.TheVariants as destination
use Rattle.instructions.specs.declared.instruction.Operation.{Operation}
use Rattle.instructions.specs.declared.instruction.Operation.TheVariants as operation
use Rattle.instructions.specs.declared.instruction.Instruction.{Instruction}
use Rattle.instructions.specs.declared.instruction.Instruction.TheVariants.{Alu, Xec, Nzt, Xmit, Jmp}
use Rattle.instructions.specs.Registers.{number_of}
use Rattle.operands.specs.Bytes.{Bytes, Inside, Only}
use Rattle.operands.specs.Bytes.Two.{and, xor, sum, carry}
use Rattle.operands.specs.Bytes.One.{rotate}
use Rattle.operands.specs.Operations.{Operations, Lawful}
use Rattle.effects.specs.Arithmetic.{result_bytes}
use Rattle.effects.specs.Usage.{select_side, whole_port}
use Rattle.flow.specs.States.{State, Fits, put, Nothing, unready_part, selected, stored_in, source_bytes, carried_in, delivered_in, transmitted_in, after}
use Rattle.flow.proofs.Parts.{number_below_16}
use Rattle.flow.specs.Ways.{ReachesBy, instruction_at, Runs, Next}

number_below_18 : (r : Register) → number_of r < 18
number_below_18 r = omega (arith, number_below_16 r)

pub fits_refl : (s : State) → Fits s s
fits_refl s r h b m = m

pub fits_then : (s t u : State) → Fits s t → Fits t u → Fits s u
fits_then s t u f g r h b m = g r h b (f r h b m)

choose_more : (c : Bool) (P Q U V : Bytes) → Inside P U → Inside Q V → Inside (cond c P Q) (cond c U V)
choose_more true P Q U V f g = f
choose_more false P Q U V f g = g

pub put_more : (s u : State) (t : ℕ) (P Q : Bytes) → Fits s u → Inside P Q → Fits (put s t P) (put u t Q)
put_more s u t P Q f h r l = choose_more (eqb r t) P (s r) Q (u r) h (f r l)

selected_more : (b : Option Side) (s u : State) → Fits s u → Fits (selected b s) (selected b u)
selected_more None s u f = f
selected_more (Some b) s u f = put_more s u (unready_part b) Nothing Nothing f (λ k m. m)

pub stored_more : (r : Register) (P Q : Bytes) (s u : State) → Inside P Q → Fits s u → Fits (stored_in r P s) (stored_in r Q u)
stored_more r P Q s u h f = selected_more (select_side r) _ _ (put_more s u (number_of r) P Q f h)

pub delivered_more : (d : Destination) (P Q : Bytes) (s u : State) → Inside P Q → Fits s u → Fits (delivered_in d P s) (delivered_in d Q u)
delivered_more (destination.Register r) P Q s u h f = stored_more r P Q s u h f
delivered_more (destination.Field k) P Q s u h f = f

transmitted_more : (b : Option Side) (d : Destination) (P : Bytes) (s u : State) → Fits s u → Fits (transmitted_in b d P s) (transmitted_in b d P u)
transmitted_more None d P s u f = delivered_more d P P s u (λ k m. m) f
transmitted_more (Some b) d P s u f = f

module _ {K : Type 0} (o : Operations K) (l : Lawful o) where
  pub source_more : (x : Source) (s u : State) → Fits s u → Inside (source_bytes o x s) (source_bytes o x u)
  source_more (source.Register r n) s u f = l.one_inside (rotate n) _ _ (f (number_of r) (number_below_18 r))
  source_more (source.Field k) s u f = λ b m. m

  pub result_more : (f : Operation) (P Q U V : Bytes) → Inside P U → Inside Q V → Inside (result_bytes o f P Q) (result_bytes o f U V)
  result_more operation.Move P Q U V g h = g
  result_more operation.Add P Q U V g h = l.two_inside sum P Q U V g h
  result_more operation.And P Q U V g h = l.two_inside and P Q U V g h
  result_more operation.Xor P Q U V g h = l.two_inside xor P Q U V g h

  pub carried_more : (f : Operation) (P Q : Bytes) (s u : State) → Inside P Q → Fits s u → Fits (carried_in o f P s) (carried_in o f Q u)
  carried_more operation.Move P Q s u h g = g
  carried_more operation.Add P Q s u h g = put_more s u 8 _ _ g (l.two_inside carry P (s 0) Q (u 0) h (g 0 (omega arith)))
  carried_more operation.And P Q s u h g = g
  carried_more operation.Xor P Q s u h g = g

  pub after_more : (i : Instruction) (s u : State) → Fits s u → Fits (after o i s) (after o i u)
  after_more (Alu f x d) s u h =
      let from = source_more x s u h in
      delivered_more d _ _ _ _ (result_more f _ _ _ _ from (h 0 (omega arith))) (carried_more f _ _ s u from h)
  after_more (Xmit j d) s u h = transmitted_more (whole_port d) d (Only j) s u h
  after_more (Nzt x j) s u h = h
  after_more (Xec x j) s u h = h
  after_more (Jmp a) s u h = h

  pub next_more : (i : Instruction) (s u : State) (p q : ℕ) → Fits s u → Next o i s p q → Next o i u p q
  next_more (Alu f x d) s u p q h n = n
  next_more (Xmit j d) s u p q h n = n
  next_more (Nzt x j) s u p q h n =
      let from = source_more x s u h in
      ⊎_elim (λ a. inl (a.0, from 0 a.1)) (λ a. inr (a.0, (a.1.0, (from a.1.0 a.1.1.0, a.1.1.1)))) n
  next_more (Xec x j) s u p q h n = n
  next_more (Jmp a) s u p q h n = n

  pub reaches_more : (i : Option Instruction) (s u : State) (p a : ℕ) → Fits s u → ReachesBy o s p i a → ReachesBy o u p i a
  reaches_more None s u p a h n = n
  reaches_more (Some (Alu f x d)) s u p a h n = n
  reaches_more (Some (Xmit j d)) s u p a h n = n
  reaches_more (Some (Nzt x j)) s u p a h n = n
  reaches_more (Some (Xec x j)) s u p a h n = (n.0, (source_more x s u h n.0 n.1.0, n.1.1))
  reaches_more (Some (Jmp j)) s u p a h n = n

  pub runs_more : (code : List ℕ) (s u : State) (p : ℕ) (i : Instruction) → Fits s u → Runs o code s p i → Runs o code u p i
  runs_more code s u p i h n = (n.0, (reaches_more (instruction_at code p) s u p n.0 h n.1.0, n.1.1))
