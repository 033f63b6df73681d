use Rattle.std.proofs.Common.{sym, ◌∙◌}
use Rattle.words.proofs.Rebuilding.{parts_meaning}
use Rattle.words.proofs.encoding.candidate.Goals as goal

pub returns : goal.returns
returns c w hw h = sym (parts_meaning w c.args.instruction hw h) ∙ sym c.parts_word.ensures
