use Rattle.std.proofs.lemmas.Result.{err_from_is_err_and}
use Rattle.checker.proofs.Verdicts.{judged_clear, judged_fault}
use Rattle.checker.proofs.judging.judge.Goals as goal

pub returns-in_err-scan : goal.returns-in_err-scan
returns-in_err-scan g c =
    let told = err_from_is_err_and c.from_residual-in_err-scan.result c.from_residual-in_err-scan.ensures.1 in
    rw (told.1, told.2) (judged_fault g.K.Operand.operations g.K.Operand.lawful _ g.met.K.LeastJoin.least _ _ _ _ _ _ c.grow.result _ c.in_ok-reached.ensures.ok_part c.grow.ensures.refused c.grow.ensures.grown _ c.grow.auto.status c.grow.auto.operands c.in_err-scan.ensures)

pub returns : goal.returns
returns g c =
    judged_clear g.K.Operand.operations g.K.Operand.lawful _ g.met.K.LeastJoin.least _ _ _ _ _ _ c.grow.result _ c.in_ok-reached.ensures.ok_part c.grow.ensures.refused c.grow.ensures.grown _ c.word_count-words.ensures c.in_ok-scan.ensures.1
