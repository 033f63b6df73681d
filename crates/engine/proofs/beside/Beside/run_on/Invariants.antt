use Rattle.std.proofs.Common.{◌≡◌, ◌-◌}
use Rattle.engine.specs.Loans.{seen, SameLoans}
use Rattle.engine.specs.Runs.{run_of, ahead}
use Rattle.engine.proofs.beside.Beside.run_on.Given as goal

abbrev pub invariant-loop-finished : goal.invariant-loop-finished
invariant-loop-finished g l =
    (run_of l.code l.cycles (seen g.L.Bank.ports g.R.Bank.ports l.initial.self)
    ≡ ahead l.finished (run_of l.code (l.cycles - l.finished) (seen g.L.Bank.ports g.R.Bank.ports l.self)))
    × SameLoans l.initial.self l.self
