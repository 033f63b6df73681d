use Rattle.std.proofs.Common.{◌≡◌, Some, Decides, subst}
use Rattle.words.proofs.Same.{meaning_decides}
use Rattle.words.proofs.encoding.means.Goals as goal

pub returns : goal.returns
returns c =
    subst (λ o. Decides c.eq.result (o ≡ Some c.args.instruction)) c.decode.ensures.meaning
    (meaning_decides c.decode.result c.args.instruction c.eq.result c.eq.ensures)
