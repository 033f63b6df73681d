use Rattle.std.proofs.Common.{length, arith}
use denote.Memory.{lone}
use Rattle.words.specs.Code.{words_in}
use Rattle.growth.proofs.Sizes.{entry_fits}
use Rattle.growth.proofs.Easing.{kept_same, kept_then, eased_flow}
use Rattle.growth.proofs.Growing.{growing_start, growing_end}
use Rattle.growth.proofs.table.fill.Goals as goal

pub start-requires : goal.start-requires
start-requires g c = entry_fits (lone g.row.K.mir) (length c.args.operands.now) (omega arith) c.well_formed.1.0.1

pub send-requires : goal.send-requires
send-requires g c = (
  entry_fits (lone g.row.K.mir) (length c.args.operands.now) (omega arith) c.well_formed.1.0.1,
  record { words = omega arith; bytes = omega (arith, c.clear.auto.status); cells = omega arith },
)

pub loop-p-init : goal.loop-p-init
loop-p-init g c =
    let o = g.K.Operand.operations in
    let code = c.args.code.now in (
      growing_start o g.K.Spreading.joined code g.K.Spreading.rank g.K.Spreading.MAX_RANK c.start.result
          c.clear.new.status c.args.operands.now c.send.new.status c.send.new.operands c.requires.full
          (λ k h. c.clear.ensures.zero k (omega (arith, c.word_count-n.ensures))) c.start.ensures c.send.ensures,
      kept_same o (words_in code) c.send.new.status c.send.new.operands,
      λ k h. absurd (omega arith),
    )

pub loop-p-preserved : goal.loop-p-preserved
loop-p-preserved g c =
    let o = g.K.Operand.operations in (
      c.step-low.ensures.growing,
      kept_then o (words_in c.args.code.now) c.send.new.status c.send.new.operands c.loop-p.status c.loop-p.operands c.step-low.new.status c.step-low.new.operands
          c.loop-p.invariant.1 c.step-low.ensures.kept,
      c.step-low.ensures.quiet,
    )

pub returns : goal.returns
returns g c =
    let o = g.K.Operand.operations in
    let code = c.args.code.now in
    let n = words_in code in
    let words = c.word_count-n.ensures in
    growing_end o g.K.Spreading.joined code c.args.status.now c.args.operands.now c.clear.new.status c.loop-p.status c.loop-p.operands
    (λ k h. c.in_default.ensures k (omega arith))
    (λ k h. c.clear.ensures.rest k (omega arith))
    (kept_then o n c.clear.new.status c.args.operands.now c.send.new.status c.send.new.operands c.loop-p.status c.loop-p.operands
    (eased_flow o g.K.Spreading.rank g.K.Spreading.MAX_RANK n g.K.Spreading.joined 0 c.start.result c.clear.new.status c.args.operands.now c.send.new.status c.send.new.operands c.requires.full c.send.ensures).kept
    c.loop-p.invariant.1)
    c.loop-p.invariant.0
