-- Where a machine goes on is where its table goes on. Assumes nothing.
use Rattle.std.proofs.Common.{◌≡◌, ℕ, ◌<◌, false, cond, eqb, get_or, refl, ap, subst, inl, inr, ⊎_elim}
use Rattle.std.proofs.lemmas.Bool.{cases_Bool, eqb-true, eqb-false, true≢false}
use Rattle.instructions.specs.declared.instruction.Instruction.{Instruction}
use Rattle.instructions.specs.declared.instruction.Instruction.TheVariants.{Alu, Xec, Nzt, Xmit, Jmp}
use Rattle.operands.specs.Operations.{Operations, Lawful}
use Rattle.effects.specs.Addresses.{next_address, page_size, in_page}
use Rattle.engine.specs.States.{State}
use Rattle.engine.specs.Effects.{source_byte, performed}
use Rattle.flow.specs.States.{State as Allowance, source_bytes}
use Rattle.flow.specs.Ways.{is_xec, Next}
use Rattle.calls.proofs.Members.{source_has}
use Rattle.calls.proofs.Stores.{Allowed}

-- every instruction but XEC sets both addresses alike
pub both_addresses : (i : Instruction) (st : State) → is_xec i ≡ false → (performed i st).core.ar ≡ (performed i st).core.pc
both_addresses (Alu f x d) st e = refl
both_addresses (Xmit j d) st e = refl
both_addresses (Nzt x j) st e = refl
both_addresses (Xec x j) st e = absurd (true≢false e)
both_addresses (Jmp a) st e = refl

module _ {K : Type 0} (o : Operations K) (l : Lawful o) (s : Allowance) (st : State) (small : (r : ℕ) → r < 16 → get_or st.core.registers r 0 < 256) (h : Allowed s st.core) where
  -- the program counter goes on to an address that is foreseen
  pub next_performed : (i : Instruction) → is_xec i ≡ false → Next o i s st.core.pc (performed i st).core.pc
  next_performed (Alu f x d) e = inl (refl, tt)
  next_performed (Xmit j d) e = inl (refl, tt)
  next_performed (Nzt x j) e =
      let b = source_byte x st in
      let has = source_has o l x s st small h.members in
      let p = st.core.pc in
      ⊎_elim
      (λ z. inl (ap (λ t. cond t (next_address p) (in_page (page_size x) p j)) z, subst (source_bytes o x s) (eqb-true b 0 z) has))
      (λ z. inr (ap (λ t. cond t (next_address p) (in_page (page_size x) p j)) z, (b, (has, eqb-false b 0 z))))
      (cases_Bool (eqb b 0))
  next_performed (Xec x j) e = absurd (true≢false e)
  next_performed (Jmp a) e = inr refl
