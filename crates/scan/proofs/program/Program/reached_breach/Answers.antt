use Rattle.flow.specs.Entries.{allows}
use Rattle.scan.specs.Signs.{WordShows, ReachedShows}
use Rattle.scan.proofs.Shown.{first_same}
use Rattle.scan.proofs.program.Program.reached_breach.Goals as goal

pub returns-then-reaches : goal.returns-then-reaches
returns-then-reaches g c =
    let o = g.K.Operand.operations in
    let code = c.args.self.now.code.now in
    let grants = c.args.self.now.masks.grants.now in
    let s = allows o c.args.entry.now in
    let reached = c.reaches.ensures.0 c.if-reaches.true in
    first_same (WordShows o code grants s c.args.p c.args.a) (ReachedShows o code grants s c.args.p c.args.here c.args.a) c.word_breach.result (λ k w. (reached, w)) (λ k w. w.1) c.word_breach.ensures
