-- The state after an instruction allows what the instruction leaves. Assumes nothing.
use Rattle.std.proofs.Common.{◌≡◌, ℕ, ◌<◌, false, ◌||◌, ◌≢◌, length, get_or, set, Some, None, Option, sym, refl, ◌∙◌, subst, arith, length-set, get_or-set_other, get_or-set_same}
use Rattle.std.proofs.lemmas.Bool.{or_parts, true≢false}
use Rattle.instructions.specs.declared.field.Side.{Side}
use Rattle.instructions.specs.declared.field.Side.TheVariants.{Left, Right}
use Rattle.instructions.specs.declared.register.Register.{Register}
use Rattle.instructions.specs.declared.register.Register.TheVariants.{R0, R10}
use Rattle.instructions.specs.declared.instruction.Destination.{Destination}
use Rattle.instructions.specs.declared.instruction.Destination.TheVariants as destination
use Rattle.instructions.specs.declared.instruction.Operation.{Operation}
use Rattle.instructions.specs.declared.instruction.Operation.TheVariants as operation
use Rattle.instructions.specs.declared.instruction.Instruction.{Instruction}
use Rattle.instructions.specs.declared.instruction.Instruction.TheVariants.{Alu, Xec, Nzt, Xmit, Jmp}
use Rattle.instructions.specs.Registers.{number_of}
use Rattle.operands.specs.Bytes.{Bytes, Only}
use Rattle.operands.specs.Operations.{Operations, Lawful}
use Rattle.effects.specs.Arithmetic.{result_bytes, result_byte, carry_byte}
use Rattle.effects.specs.Usage.{select_side, is_side, source_side, whole_port}
use Rattle.engine.specs.States.{Core, State, register, ready_of, stored, to, with_core}
use Rattle.engine.specs.Effects.{source_byte, delivered, transmitted_to, overflowed, performed}
use Rattle.engine.proofs.Laws.{core-with_byte}
use Rattle.flow.specs.States.{State as Allowance, Fits, put, unready_part, Unready, selected, stored_in, source_bytes, carried_in, delivered_in, transmitted_in, after}
use Rattle.flow.proofs.Parts.{number_below_16}
use Rattle.flow.proofs.Storing.{put_here, put_other, unready_above, unready_below, selected_register}
use Rattle.calls.proofs.Ports.{here_and_elsewhere}
use Rattle.calls.proofs.Members.{source_small, source_has, result_has, carry_has}

-- the registers are among what is allowed, and a bank that is not ready is one that may be unready
pub record Allowed (s : Allowance) (c : Core) : Type 0 where
  pub size : length c.registers ≡ 16
  pub members : (r : ℕ) → r < 16 → s r (get_or c.registers r 0)
  pub marks : (side : Side) → ready_of side c ≡ false → Unready side s

ready_stored : (side : Side) (r : Register) (v : ℕ) (c : Core) → ready_of side (stored r v c) ≡ (ready_of side c || is_side side (select_side r))
ready_stored Left r v c = refl
ready_stored Right r v c = refl

ready_to : (side : Side) (p a : ℕ) (c : Core) → ready_of side (to p a c) ≡ ready_of side c
ready_to Left p a c = refl
ready_to Right p a c = refl

-- a select of another bank leaves the mark
mark_selected : (side : Side) (b : Option Side) (s : Allowance) → is_side side b ≡ false → Unready side s → Unready side (selected b s)
mark_selected side None s e h = h
mark_selected Left (Some Left) s e h = absurd (true≢false e)
mark_selected Left (Some Right) s e h = h
mark_selected Right (Some Left) s e h = h
mark_selected Right (Some Right) s e h = absurd (true≢false e)

pub allowed_to : (p a : ℕ) (s : Allowance) (c : Core) → Allowed s c → Allowed s (to p a c)
allowed_to p a s c h =
    record { size = h.size; members = h.members; marks = λ side e. h.marks side (sym (ready_to side p a c) ∙ e) }

-- what allows more
pub allowed_more : (s u : Allowance) (c : Core) → Fits s u → Allowed s c → Allowed u c
allowed_more s u c f h =
    record {
      size = h.size;
      members = λ r lt. f r (omega arith) _ (h.members r lt);
      marks = λ side e. f (unready_part side) (unready_below side) 0 (h.marks side e);
    }

allowed_stored : (r : Register) (P : Bytes) (v : ℕ) (s : Allowance) (c : Core) → P v → Allowed s c → Allowed (stored_in r P s) (stored r v c)
allowed_stored r P v s c p h =
    let n = number_of r in
    let xs = c.registers in
    let low = number_below_16 r in
    record {
      size = length-set xs n v ∙ h.size;
      members = λ k lt. (selected_register (select_side r) (put s n P) k lt).0 _
          (here_and_elsewhere (λ i. i < 16 → put s n P i (get_or (set xs n v) i 0)) n
          (λ i. (put_here s n n P refl).0 _ (subst P (sym (get_or-set_same xs n v 0 (omega (arith, low, h.size)))) p))
          (λ i e lt. (put_other s n i P e).0 _ (subst (s i) (sym (get_or-set_other xs n i v 0 e)) (h.members i lt)))
          k lt);
      marks = λ side e.
          let was = or_parts (ready_of side c) (is_side side (select_side r)) (sym (ready_stored side r v c) ∙ e) in
          let apart : unready_part side ≢ n = let u = unready_above side in omega arith in
          mark_selected side (select_side r) (put s n P) was.1 ((put_other s n (unready_part side) P apart).0 0 (h.marks side was.0));
    }

allowed_delivered : (d : Destination) (P : Bytes) (v : ℕ) (origin : Option Side) (s : Allowance) (st : State) → P v → Allowed s st.core → Allowed (delivered_in d P s) (delivered d v origin st).core
allowed_delivered (destination.Register r) P v origin s st p h = allowed_stored r P v s st.core p h
allowed_delivered (destination.Field f) P v origin s st p h = subst (λ (c : Core). Allowed s c) (sym (core-with_byte f.side _ st)) h

allowed_transmitted : (q : Option Side) (d : Destination) (v : ℕ) (s : Allowance) (st : State) → Allowed s st.core → Allowed (transmitted_in q d (Only v) s) (transmitted_to q d v st).core
allowed_transmitted None d v s st h = allowed_delivered d (Only v) v None s st refl h
allowed_transmitted (Some b) d v s st h = subst (λ (c : Core). Allowed s c) (sym (core-with_byte b v st)) h

module _ {K : Type 0} (o : Operations K) (l : Lawful o) where
  allowed_carried : (f : Operation) (P : Bytes) (a : ℕ) (s : Allowance) (c : Core) → a < 256 → get_or c.registers 0 0 < 256 → P a → Allowed s c → Allowed (carried_in o f P s) (overflowed (carry_byte f a (get_or c.registers 0 0)) c)
  allowed_carried operation.Move P a s c ha hb p h = h
  allowed_carried operation.And P a s c ha hb p h = h
  allowed_carried operation.Xor P a s c ha hb p h = h
  allowed_carried operation.Add P a s c ha hb p h =
      allowed_stored R10 _ _ s c (carry_has o l P (s 0) a (get_or c.registers 0 0) ha hb p (h.members 0 (omega arith))) h

  pub allowed_after : (i : Instruction) (s : Allowance) (st : State) → ((r : ℕ) → r < 16 → get_or st.core.registers r 0 < 256) → Allowed s st.core → Allowed (after o i s) (performed i st).core
  allowed_after (Alu f x d) s st small h =
      let a = source_byte x st in
      let b = register R0 st in
      let P = source_bytes o x s in
      let p = source_has o l x s st small h.members in
      let ha = source_small x st in
      let hb = small 0 (omega arith) in
      let c = carry_byte f a b in
      allowed_to _ _ _ _
      (allowed_delivered d (result_bytes o f P (s 0)) (result_byte f a b) (source_side x) (carried_in o f P s) (with_core (overflowed c) st)
      (result_has o l f P (s 0) a b ha hb p (h.members 0 (omega arith)))
      (allowed_carried f P a s st.core ha hb p h))
  allowed_after (Xmit j d) s st small h = allowed_to _ _ _ _ (allowed_transmitted (whole_port d) d j s st h)
  allowed_after (Nzt x j) s st small h = allowed_to _ _ _ _ h
  allowed_after (Xec x j) s st small h = allowed_to _ _ _ _ h
  allowed_after (Jmp a) s st small h = allowed_to _ _ _ _ h
