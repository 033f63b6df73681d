-- Runs, cycle by cycle. Assumes nothing.
use Rattle.std.proofs.Common.{◌≡◌, ℕ, suc, ◌+◌, ◌-◌, ◌<◌, false, List, Some, None, Ok, Err, Result, sym, ap, ◌∙◌, arith}
use Rattle.engine.specs.declared.fault.EngineFault.{EngineFault}
use Rattle.engine.specs.States.{State}
use Rattle.engine.specs.Cycles.{cycle_of}
use Rattle.engine.specs.Runs.{Ran, further, onward, run_of, ahead}

-- the first cycle of a run, and the rest
run_first : (code : List ℕ) (m : ℕ) (st : State) (r : Result (Unit {0}) EngineFault) (v : State) → r ≡ (cycle_of code false false st).0 → v ≡ (cycle_of code false false st).1 → run_of code (suc m) st ≡ onward (λ u. run_of code m u) r v
run_first code m st r v e f =
    ap (λ (x : Result (Unit {0}) EngineFault). onward (λ u. run_of code m u) x (cycle_of code false false st).1) (sym e)
    ∙ ap (λ (x : State). onward (λ u. run_of code m u) r x) (sym f)

ahead_further : (i : ℕ) (r : Ran) → ahead i (further r) ≡ ahead (i + 1) r
ahead_further i r =
    let e : i + suc r.finished ≡ i + 1 + r.finished = omega arith in
    ap (λ k. record { finished = k; fault = r.fault; after = r.after }) e

module _ (code : List ℕ) (n i : ℕ) (st v : State) (r : Ran) (lt : i < n) (h : r ≡ ahead i (run_of code (n - i) st)) where
  left_over : n - i ≡ suc (n - (i + 1))
  left_over = omega arith

  -- a cycle that is not refused
  pub run_more : Ok tt ≡ (cycle_of code false false st).0 → v ≡ (cycle_of code false false st).1 → r ≡ ahead (i + 1) (run_of code (n - (i + 1)) v)
  run_more e f =
      h ∙ ap (λ m. ahead i (run_of code m st)) left_over ∙ ap (ahead i) (run_first code (n - (i + 1)) st (Ok tt) v e f) ∙ ahead_further i (run_of code (n - (i + 1)) v)

  -- a refused one ends the run
  pub run_refused : (g : EngineFault) → Err g ≡ (cycle_of code false false st).0 → v ≡ (cycle_of code false false st).1 → r ≡ record { finished = i; fault = Some g; after = v }
  run_refused g e f =
      let z : i + 0 ≡ i = omega arith in
      h ∙ ap (λ m. ahead i (run_of code m st)) left_over ∙ ap (ahead i) (run_first code (n - (i + 1)) st (Err g) v e f) ∙ ap (λ k. record { finished = k; fault = Some g; after = v }) z

pub run_none : (code : List ℕ) (n : ℕ) (st : State) → run_of code n st ≡ ahead 0 (run_of code (n - 0) st)
run_none code n st =
    let all : n ≡ n - 0 = omega arith in
    let r : Ran = run_of code (n - 0) st in
    let none : r.finished ≡ 0 + r.finished = omega arith in
    ap (λ m. run_of code m st) all ∙ ap (λ k. record { finished = k; fault = r.fault; after = r.after }) none

pub run_all : (code : List ℕ) (n i : ℕ) (st : State) (r : Ran) → i ≡ n → r ≡ ahead i (run_of code (n - i) st) → r ≡ record { finished = n; fault = None; after = st }
run_all code n i st r e h =
    let z : n - i ≡ 0 = omega arith in
    let y : i + 0 ≡ n = omega arith in
    h ∙ ap (λ m. ahead i (run_of code m st)) z ∙ ap (λ k. record { finished = k; fault = None; after = st }) y
