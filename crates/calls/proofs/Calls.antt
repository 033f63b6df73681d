-- Every call finishes and keeps what the table says. Assumes nothing.
use Rattle.std.proofs.Common.{◌≡◌, ℕ, zero, suc, Bool, true, false, cond, List, Some, None, Ok, Result, sym, refl, ap, subst, ⊎_elim, arith}
use Rattle.std.proofs.lemmas.Bool.{cases_lt, lt-ltb, le-ltb}
use Rattle.instructions.specs.declared.field.Side.{Side}
use Rattle.instructions.specs.declared.field.Side.TheVariants.{Left, Right}
use Rattle.operands.specs.Operations.{Operations, Lawful}
use Rattle.banks.specs.Ports.{Ports, driven_at}
use Rattle.effects.specs.Usage.{same_side}
use Rattle.engine.specs.declared.fault.EngineFault.{EngineFault}
use Rattle.engine.specs.declared.fault.EngineFault.TheVariants.{RunLength}
use Rattle.engine.specs.States.{State, ports_of}
use Rattle.engine.specs.Cycles.{cycle_of}
use Rattle.flow.specs.Tables.{Table}
use Rattle.flow.specs.Breaches.{Meets}
use Rattle.engine.specs.Runs.{Ran, onward, run_of, longest_run, run_call}
use Rattle.calls.specs.Calls.{Call, drive, cycle, run, did, Lone, lone_ports, alone}
use Rattle.calls.specs.Promise.{Withheld, RunFinishes, Finishes}
use Rattle.calls.proofs.Ports.{Alongside, alongside_driven}
use Rattle.calls.proofs.Standing.{Stands}
use Rattle.calls.proofs.Cycles.{Outcome, stands_cycled, stands_reset}

-- a drive on one bank or the other
alongside_driven_on : (Among : ℕ → ℕ → Type 0) (t : Bool) (k v : ℕ) (ps qs : Ports) → Alongside Among ps qs → Alongside Among (cond t (driven_at k v ps) ps) (cond t (driven_at k v qs) qs)
alongside_driven_on Among true k v ps qs same = alongside_driven Among ps qs same k v
alongside_driven_on Among false k v ps qs same = same

banks_driven : (Among : ℕ → ℕ → Type 0) (code : List ℕ) (bank side : Side) (k v : ℕ) (st : State) (lone : Lone) → Alongside Among (ports_of side st) (lone_ports side lone) → Alongside Among (ports_of side (did code (drive bank k v) st)) (lone_ports side (alone (drive bank k v) lone))
banks_driven Among code bank Left k v st lone same = alongside_driven_on Among (same_side bank Left) k v st.left lone.left same
banks_driven Among code bank Right k v st lone same = alongside_driven_on Among (same_side bank Right) k v st.right lone.right same

module _ {K : Type 0} (o : Operations K) (l : Lawful o) (code grants : List ℕ) (t : Table K) (m : Meets o code grants t) where
  drive_keeps : (bank : Side) (k v : ℕ) (st : State) (lone : Lone) → Stands o code grants t st lone → Stands o code grants t (did code (drive bank k v) st) (alone (drive bank k v) lone)
  drive_keeps bank k v st lone g =
      record {
        pc_inside = g.pc_inside;
        ar_inside = g.ar_inside;
        entered = g.entered;
        allowed = g.allowed;
        carry = g.carry;
        banks = λ side. banks_driven (Withheld grants side) code bank side k v st lone (g.banks side);
        aimed = g.aimed;
      }

  cycle_keeps : (reset halt : Bool) (st : State) (lone : Lone) → Stands o code grants t st lone → ((cycle_of code reset halt st).0 ≡ Ok tt) × Stands o code grants t (cycle_of code reset halt st).1 lone
  cycle_keeps true halt st lone g = (refl, stands_reset o l code grants t m st lone g)
  cycle_keeps false true st lone g = (refl, g)
  cycle_keeps false false st lone g =
      let r = stands_cycled o l code grants t m st lone g in (
        ap (λ (x : Outcome). x.0) r.1,
        subst (λ (x : Outcome). Stands o code grants t x.1 lone) (sym r.1) r.2,
      )

  -- a run that finishes n cycles, and keeps what the table says
  abbrev Through : ℕ → Lone → Ran → Type 0
  Through n lone r = (r.finished ≡ n) × (r.fault ≡ None) × Stands o code grants t r.after lone

  cycles_keep : (n : ℕ) (st : State) (lone : Lone) → Stands o code grants t st lone → Through n lone (run_of code n st)
  cycles_keep zero st lone g = (refl, refl, g)
  cycles_keep (suc n) st lone g =
      let one = cycle_keeps false false st lone g in
      let v = (cycle_of code false false st).1 in
      let rest = cycles_keep n v lone one.1 in
      subst (λ (c : Result (Unit {0}) EngineFault). Through (suc n) lone (onward (λ u. run_of code n u) c v)) (sym one.0)
      (ap suc rest.0, rest.1, rest.2)

  run_keeps : (n : ℕ) (st : State) (lone : Lone) → Stands o code grants t st lone → RunFinishes n st (run_call code n st) × Stands o code grants t (run_call code n st).after lone
  run_keeps n st lone g =
      let none : Ran = record { finished = 0; fault = Some RunLength; after = st } in
      let Kept : Ran → Type 0 = λ r. RunFinishes n st r × Stands o code grants t r.after lone in
      ⊎_elim
      (λ h.
      subst (λ b. Kept (cond b none (run_of code n st))) (sym (lt-ltb longest_run n h))
      (record { served = λ k. absurd (omega arith); refused = λ k. (refl, refl, refl) }, g))
      (λ h.
      let all = cycles_keep n st lone g in
      subst (λ b. Kept (cond b none (run_of code n st))) (sym (le-ltb longest_run n h))
      (record { served = λ k. (all.0, all.1); refused = λ k. absurd (omega arith) }, all.2))
      (cases_lt longest_run n)

  pub call_keeps : (call : Call) (st : State) (lone : Lone) → Stands o code grants t st lone → Finishes code call st × Stands o code grants t (did code call st) (alone call lone)
  call_keeps (drive bank k v) st lone g = (tt, drive_keeps bank k v st lone g)
  call_keeps (cycle reset halt) st lone g = cycle_keeps reset halt st lone g
  call_keeps (run n) st lone g = run_keeps n st lone g
