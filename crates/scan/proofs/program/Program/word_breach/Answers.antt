use Rattle.std.proofs.Common.{◌<◌, Some, sym, ⊎_elim}
use Rattle.std.proofs.lemmas.Bool.{both_ways, cases_lt}
use Rattle.words.specs.Code.{words_in}
use Rattle.flow.specs.Entries.{allows}
use Rattle.scan.proofs.Shown.{meant_inside, word_shows}
use Rattle.scan.proofs.program.Program.word_breach.Goals as goal

pub returns : goal.returns
returns g c =
    let code = c.args.self.now.code.now in
    let a = c.args.a in
    let i = c.in-Some.instruction in
    let inside : a < words_in code = ⊎_elim (λ h. h) (λ h. absurd (both_ways c.lacks.result c.if-lacks.false (c.lacks.ensures.1 h))) (cases_lt a (words_in code)) in
    let meant = sym (meant_inside code a (Some i) inside c.in-Some.ensures) in
    word_shows g.K.Operand.operations code c.args.self.now.masks.grants.now (allows g.K.Operand.operations c.args.entry.now) c.args.p a i (inside, (meant, sym c.if-is_xec.ensures)) c.run_breach.result c.run_breach.ensures
