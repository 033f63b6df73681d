use Rattle.std.proofs.Common.{◌<◌, arith}
use Rattle.words.proofs.Rebuilding.{rebuilt_of_meaning}
use Rattle.words.proofs.encoding.rebuild.Goals as goal

pub returns : goal.returns
returns c =
    let small : c.args.word < 65536 = omega arith in
    rebuilt_of_meaning c.args.word c.decode.result c.and_then.result small c.decode.ensures.meaning c.decode.ensures.permitted c.and_then.ensures
