use Rattle.std.proofs.Common.{arith}
use Rattle.growth.proofs.Sending.{sent_flowed}
use Rattle.growth.proofs.send.send_on.Goals as goal

pub returns-then-q-n : goal.returns-then-q-n
returns-then-q-n g c =
    sent_flowed g.K.Operand.operations g.K.Spreading.joined g.K.Spreading.rank g.K.Spreading.MAX_RANK c.args.n c.args.low c.args.target c.args.new.now
    c.args.status.now c.args.operands.now c.min.result c.send.new.status c.send.new.operands c.in-Some.q c.in-Some.is c.if-q-n.true
    (omega arith) (omega arith) c.send.ensures
