use Rattle.std.proofs.Common.{rules, refl, arith}
use Rattle.engine.proofs.Runs.{run_none, run_more, run_refused, run_all}
use Rattle.engine.proofs.beside.Beside.run_on.Goals as goal

pub loop-finished-init : goal.loop-finished-init
loop-finished-init g c = (run_none c.args.code.now c.args.cycles _, (refl, refl, refl))

pub loop-finished-preserved : goal.loop-finished-preserved
loop-finished-preserved g c = (
  run_more c.args.code.now c.args.cycles c.loop-finished.finished _ _ _ c.loop-finished-test.true c.loop-finished.invariant.0
      (search rules) (search rules),
  search rules,
)

pub returns-in-Err-clause-ran : goal.returns-in-Err-clause-ran
returns-in-Err-clause-ran g c =
    run_refused c.args.code.now c.args.cycles c.loop-finished.finished _ _ _ c.loop-finished-test.true c.loop-finished.invariant.0
    c.in-Err.fault (search rules) (search rules)

pub returns-clause-ran : goal.returns-clause-ran
returns-clause-ran g c =
    run_all c.args.code.now c.args.cycles c.loop-finished.finished _ _ (omega arith) c.loop-finished.invariant.0
