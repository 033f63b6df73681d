use mathlib.Core.Path.{◌≡◌, sym, ap, ◌∙◌}
use Prim.Native.Nat.{◌+◌, ◌*◌, min}
use Rattle.banks.specs.Ports.{Ports}
use Rattle.engine.specs.States.{Core, State}
use Rattle.engine.specs.Runs.{Ran, run_call, longest_run}
use Rattle.speed.specs.Runs.{ports, begun, told}
use Rattle.speed.proofs.measured_run.Goals as goal

pub returns : goal.returns
returns c =
    let began : _ ≡ begun =
    ap (λ (core : Core). record { core = core; left = c.new-left.result.ports; right = c.new-right.result.ports }) c.new-machine.ensures
    ∙ ap (λ (left : Ports). record { core = begun.core; left = left; right = c.new-right.result.ports }) c.new-left.ensures
    ∙ ap (λ (right : Ports). record { core = begun.core; left = ports; right = right }) c.new-right.ensures in
    let ran = sym (ap (λ (st : State). run_call c.args.code.now c.args.cycles st) began) ∙ c.run-finished.ensures in
    ap (λ m. m * 256 + c.register_of.result) c.min.ensures
    ∙ ap (λ n. min c.run-finished.result.0 longest_run * 256 + n) c.register_of.ensures
    ∙ sym (ap (λ (r : Ran). told r c.args.register) ran)
