use Rattle.std.proofs.Common.{◌≤◌, rules}
use Rattle.words.specs.Code.{words_in}
use Rattle.scan.proofs.Closures.{decides_some}
use Rattle.scan.proofs.program.Program.lacks_some.Goals as goal

pub returns : goal.returns
returns c = decides_some c.args.address c.is_some_and.result _ (λ q. words_in c.args.self.now.code.now ≤ q) (λ q h. search rules) c.is_some_and.ensures
