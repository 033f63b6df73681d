-- A cycle on a table without a breach is not refused, and keeps what stands. Assumes nothing.
use Rattle.std.proofs.Common.{◌≡◌, ℕ, ◌+◌, ◌<◌, Bool, true, false, cond, not, ◌||◌, ◌⊎◌, List, Some, None, Ok, Err, Option, Result, sym, refl, ap, ◌∙◌, subst, inl, inr, ⊎_elim, arith}
use lib.Bits.{bit_and}
use Rattle.std.proofs.lemmas.Bool.{cases_lt, cases_eq, cases_Bool, and_from, lt-ltb}
use Rattle.instructions.specs.declared.field.Side.{Side}
use Rattle.instructions.specs.declared.field.Side.TheVariants.{Left, Right}
use Rattle.instructions.specs.declared.instruction.Source.{Source}
use Rattle.instructions.specs.declared.instruction.Instruction.{Instruction}
use Rattle.instructions.specs.declared.instruction.Instruction.TheVariants.{Alu, Xec, Nzt, Xmit, Jmp}
use Rattle.instructions.specs.Registers.{number_of}
use Rattle.bits.proofs.Bits.{bits_below}
use Rattle.words.specs.Words.{meaning}
use Rattle.words.specs.Code.{words_in, word_at}
use Rattle.words.proofs.Meanings.{meaning_spares_r10}
use Rattle.image.specs.Grants.{mask_of}
use Rattle.operands.specs.Operations.{Operations, Lawful}
use Rattle.banks.specs.Ports.{Ports}
use Rattle.effects.specs.Addresses.{page_size, in_page}
use Rattle.effects.specs.Usage.{selector, uses}
use Rattle.engine.specs.declared.fault.EngineFault.{EngineFault}
use Rattle.engine.specs.declared.fault.EngineFault.TheVariants as fault
use Rattle.engine.specs.States.{Core, State, ready_of, ports_of, port_number, to, with_core}
use Rattle.engine.specs.Effects.{source_byte, performed, served}
use Rattle.engine.specs.Cycles.{executed, cycle_of}
use Rattle.engine.proofs.Laws.{ports-with_core, laws_performed}
use Rattle.flow.specs.declared.breach.Breach.TheVariants as breach
use Rattle.flow.specs.States.{State as Allowance, after}
use Rattle.flow.specs.Ways.{instruction_at, is_xec, ReachesBy, RunsAt, Runs}
use Rattle.flow.specs.Tables.{Table, holds}
use Rattle.flow.specs.Breaches.{Cover, cover, Exceeds, ClearAt, Meets}
use Rattle.flow.proofs.Parts.{number_below_16}
use Rattle.calls.specs.Calls.{Lone, lone_ports}
use Rattle.calls.specs.Promise.{Withheld}
use Rattle.calls.proofs.Ports.{Alongside}
use Rattle.calls.proofs.Writes.{Avoids, performed_covered, alongside_covered}
use Rattle.calls.proofs.Members.{source_has}
use Rattle.calls.proofs.Stores.{Allowed, allowed_to, allowed_more, allowed_after}
use Rattle.calls.proofs.Addresses.{next_performed, both_addresses}
use Rattle.calls.proofs.Standing.{Stands, stands_small, stands_start}

-- what a cycle answers and leaves
abbrev pub Outcome : Type 0
Outcome = Result (Unit {0}) EngineFault × State

-- an instruction is served where each bank that it uses is ready
ready_if_used : (u r : Bool) → (u ≡ true → r ≡ true) → (not u || r) ≡ true
ready_if_used true r f = f refl
ready_if_used false r f = refl

all_served : (i : Instruction) (c : Core) → ((side : Side) → uses i side ≡ true → ready_of side c ≡ true) → served i c ≡ true
all_served i c f =
    and_from _ _ (ready_if_used (uses i Left) (ready_of Left c) (f Left)) (ready_if_used (uses i Right) (ready_of Right c) (f Right))

cycle_performs : (code : List ℕ) (st : State) (i : Instruction) → st.core.ar < words_in code → instruction_at code st.core.ar ≡ Some i → served i st.core ≡ true → cycle_of code false false st ≡ (Ok tt, performed i st)
cycle_performs code st i h e s =
    let a = st.core.ar in
    ap (λ b. cond {A = Outcome} b (executed (meaning (word_at code a)) st) (Err (fault.Outside a), st)) (lt-ltb a (words_in code) h)
    ∙ ap (λ (w : Option Instruction). executed w st) e
    ∙ ap (λ b. cond {A = Outcome} b (Ok tt, performed i st) (Err (fault.NotReady a), st)) s

-- what exceeds no grant writes no withheld bit
avoids_withheld : (grants : List ℕ) (c : Cover) (s : Allowance) (st : State) → (Exceeds grants c s → ⊥) → Allowed s st.core → Avoids (Withheld grants) c st
avoids_withheld grants None s st n h = tt
avoids_withheld grants (Some c) s st n h = λ j w.
    let r = selector c.0 in
    let k = port_number c.0 st in
    let within : bit_and c.1 (mask_of grants c.0 k) ≡ c.1 =
    ⊎_elim (λ e. e) (λ e. absurd (n (k, (h.members (number_of r) (number_below_16 r), e)))) (cases_eq (bit_and c.1 (mask_of grants c.0 k)) c.1) in
    (w.0, omega (arith, bits_below c.1 (mask_of grants c.0 k) within j, w.1))

-- the word at an address is an XEC, or is reached from there
aims : {K : Type 0} (o : Operations K) (s : Allowance) (p : ℕ) (w : Option Instruction) → ((x : Source) × (j : ℕ) × (w ≡ Some (Xec x j))) ⊎ ReachesBy o s p w p
aims o s p None = inr refl
aims o s p (Some (Alu f x d)) = inr refl
aims o s p (Some (Xmit j d)) = inr refl
aims o s p (Some (Nzt x j)) = inr refl
aims o s p (Some (Xec x j)) = inl (x, j, refl)
aims o s p (Some (Jmp a)) = inr refl

module _ {K : Type 0} (o : Operations K) (l : Lawful o) (code grants : List ℕ) (t : Table K) (m : Meets o code grants t) (st : State) (lone : Lone) (g : Stands o code grants t st lone) where
  -- the state that the entry at the program counter allows
  abbrev here : Allowance
  here = holds o t st.core.pc

  clear : ClearAt o code grants here st.core.pc
  clear = m.clear st.core.pc g.pc_inside g.entered

  -- an instruction that runs, or stands, at the program counter is served
  runs_served : (i : Instruction) → (instruction_at code st.core.pc ≡ Some i) ⊎ Runs o code here st.core.pc i → served i st.core ≡ true
  runs_served i how =
      all_served i st.core
      (λ side u. ⊎_elim (λ e. e) (λ e. absurd (clear breach.Unready (i, (how, (side, (u, g.allowed.marks side e)))))) (cases_Bool (ready_of side st.core)))

  banks_performed : (i : Instruction) → Avoids (Withheld grants) (cover i) st → (side : Side) → Alongside (Withheld grants side) (ports_of side (performed i st)) (lone_ports side lone)
  banks_performed i n side = alongside_covered (Withheld grants) (cover i) st (performed i st) side (lone_ports side lone) (performed_covered i st) n (g.banks side)

  -- an instruction other than XEC
  stands_performed : (i : Instruction) → Runs o code here st.core.pc i → Stands o code grants t (performed i st) lone
  stands_performed i runs =
      let v = performed i st in
      let q = v.core.pc in
      let plain = runs.1.1.1.1 in
      let small = stands_small o l code grants t st lone g in
      let next = next_performed o l here st small g.allowed i plain in
      let within : q < words_in code =
      ⊎_elim (λ h. h) (λ h. absurd (clear breach.Outside (inr (i, (runs, (q, (next, h))))))) (cases_lt q (words_in code)) in
      let flow = m.rules.flows st.core.pc g.pc_inside g.entered i runs q within next in
      let avoids = avoids_withheld grants (cover i) here st (λ x. clear breach.Withheld (i, (runs, x))) g.allowed in
      record {
        pc_inside = within;
        ar_inside = subst (λ a. a < words_in code) (sym (both_addresses i st plain)) within;
        entered = flow.0;
        allowed = allowed_more (after o i here) (holds o t q) v.core flow.1 (allowed_after o l i here st small g.allowed);
        carry = (laws_performed i st (meaning_spares_r10 (word_at code runs.0) i runs.1.1.1.0)).r10_is_a_bit g.carry;
        banks = banks_performed i avoids;
        aimed = inl (both_addresses i st plain);
      }

  -- an XEC at the program counter
  stands_aimed : (x : Source) (j : ℕ) → instruction_at code st.core.pc ≡ Some (Xec x j) → Stands o code grants t (performed (Xec x j) st) lone
  stands_aimed x j e =
      let b = source_byte x st in
      let a = in_page (page_size x) st.core.pc (j + b) in
      let target : RunsAt o code here st.core.pc a =
      subst (λ (w : Option Instruction). ReachesBy o here st.core.pc w a) (sym e) (b, (source_has o l x here st (stands_small o l code grants t st lone g) g.allowed.members, refl)) in
      record {
        pc_inside = g.pc_inside;
        ar_inside = ⊎_elim (λ h. h) (λ h. absurd (clear breach.Outside (inl (a, (target, h))))) (cases_lt a (words_in code));
        entered = g.entered;
        allowed = allowed_to st.core.pc a here st.core g.allowed;
        carry = g.carry;
        banks = banks_performed (Xec x j) tt;
        aimed = inr target;
      }

  -- a cycle performs an instruction and keeps all
  abbrev pub Performs : Type 0
  Performs = (i : Instruction) × (cycle_of code false false st ≡ (Ok tt, performed i st)) × Stands o code grants t (performed i st) lone

  performs_reached : (w : Option Instruction) → instruction_at code st.core.ar ≡ w → RunsAt o code here st.core.pc st.core.ar → Performs
  performs_reached None e r = absurd (clear breach.NotPermitted (st.core.ar, (r, (g.ar_inside, e))))
  performs_reached (Some i) e r =
      ⊎_elim
      (λ x. absurd (clear breach.Chain (st.core.ar, (r, (g.ar_inside, (i, (e, x)))))))
      (λ x.
      let runs : Runs o code here st.core.pc i = (st.core.ar, (r, (g.ar_inside, (e, x)))) in
      (i, cycle_performs code st i g.ar_inside e (runs_served i (inr runs)), stands_performed i runs))
      (cases_Bool (is_xec i))

  performs_own : st.core.ar ≡ st.core.pc → Performs
  performs_own same =
      elim (aims o here st.core.pc (instruction_at code st.core.pc)) [
        | inl x ↦
            let i = Xec x.0 x.1 in
            (i, cycle_performs code st i g.ar_inside (ap (instruction_at code) same ∙ x.2) (runs_served i (inl x.2)), stands_aimed x.0 x.1 x.2)
        | inr r ↦ performs_reached (instruction_at code st.core.ar) refl (subst (λ a. RunsAt o code here st.core.pc a) (sym same) r)
      ]

  pub stands_cycled : Performs
  stands_cycled = ⊎_elim performs_own (performs_reached (instruction_at code st.core.ar) refl) g.aimed

  pub stands_reset : Stands o code grants t (with_core (to 0 0) st) lone
  stands_reset =
      stands_start o l code grants t (with_core (to 0 0) st) lone m.rules (omega (arith, g.pc_inside)) refl refl g.allowed.size (stands_small o l code grants t st lone g) g.carry
      (λ side. subst (λ (ps : Ports). Alongside (Withheld grants side) ps (lone_ports side lone)) (sym (ports-with_core side (to 0 0) st)) (g.banks side))
