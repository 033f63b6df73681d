-- Each turn takes an argument.
use Rattle.std.specs.Vec.Iter.{into_iter_len}
use Rattle.check_image.proofs.options.read_options.Given as goal

abbrev pub decreases-loop-argument : goal.decreases-loop-argument
decreases-loop-argument l = into_iter_len l.args
