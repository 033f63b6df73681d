use Rattle.std.proofs.Common.{ℕ, List, ◌∙◌, subst}
use Rattle.checker.specs.Judging.{Judged, code_of}
use Rattle.checker.proofs.Verdicts.{code_bytes, grant_bytes}
use Rattle.checker.proofs.judging.check.Goals as goal

pub returns : goal.returns
returns g c =
    let o = g.K.Operand.operations in
    let read = c.in_ok-image.ensures in
    let image = c.in_ok-image.image in
    let code = c.bytes.ensures ∙ code_bytes c.args.file.now _ _ image.code read.1.code in
    let grants = c.bytes-2.ensures ∙ grant_bytes c.args.file.now _ _ image.grants read.1.grants in
    record {
      no_image = λ f first. absurd (read.0 f first.0);
      image = λ _.
          subst (λ (x : List ℕ). Judged o (code_of c.args.file.now) x c.args.status.now c.args.operands.now c.judge.new.status c.judge.new.operands c.judge.result) grants
          (subst (λ (x : List ℕ). Judged o x c.bytes-2.result.now c.args.status.now c.args.operands.now c.judge.new.status c.judge.new.operands c.judge.result) code c.judge.ensures);
    }
