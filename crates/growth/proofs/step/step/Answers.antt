use Rattle.std.proofs.Common.{◌≡◌, ◌+◌, ◌<◌, ◌≤◌, length, get_or, sym, ◌∙◌, subst, arith}
use denote.Memory.{lone}
use Rattle.std.proofs.lemmas.Bool.{cond-true, lt-ltb}
use Rattle.words.specs.Code.{words_in}
use Rattle.growth.specs.Measures.{weight_at}
use Rattle.growth.specs.Growth.{Went}
use Rattle.growth.proofs.Sizes.{entry_fits}
use Rattle.growth.proofs.Seen.{entered_alike}
use Rattle.growth.proofs.Midway.{tidy_due}
use Rattle.growth.proofs.Easing.{Eased, taken_eased, taken_lighter, eased_then, load_falls}
use Rattle.growth.proofs.Stepping.{Stepping, runs_within, stepping_start, stepping_is, stepping_word, stepping_skip, stepping_end}
use Rattle.growth.proofs.step.step.Goals as goal
use Rattle.growth.proofs.step.step.Goals.{in-Some-runs_at, in_default-runs_at}

pub entry_at-requires : goal.entry_at-requires
entry_at-requires g c = entry_fits (lone g.row.K.mir) (length c.args.operands.now) (omega arith) c.well_formed.1.0.1

pub runs_at-requires : goal.runs_at-requires
runs_at-requires g c = (
  entry_fits (lone g.row.K.mir) (length c.args.operands.now) (omega arith) c.well_formed.1.0.1,
  c.instruction_at-here.ensures ∙ cond-true _ _ _ (lt-ltb _ _ c.requires.inside),
)

pub pass-low-requires : goal.pass-low-requires
pass-low-requires g c =
    let n = c.word_count-n.ensures in (
      entry_fits (lone g.row.K.mir) (length c.args.operands.now) (omega arith) c.well_formed.1.0.1,
      record {
        words = omega (arith, n);
        bytes = omega (arith, n, c.loop-a.auto.status, c.take_up.auto.status);
        cells = omega (arith, n, c.loop-a.auto.operands);
      },
    )

pub loop-a-init : goal.loop-a-init
loop-a-init g c =
    let o = g.K.Operand.operations in
    let code = c.args.code.now in
    let p = c.args.p in
    let status = c.args.status.now in
    let operands = c.args.operands.now in
    let saved = c.in-Some.saved in
    let first = c.first_target-first.result in
    let due = tidy_due (get_or status p 0) (c.requires.growing.tidy p c.requires.inside) c.requires.due in
    let ls : p < length status = omega arith in
    subst (λ s. Stepping o g.K.Operand.lawful g.K.Spreading.joined g.K.Spreading.rank g.K.Spreading.MAX_RANK code p saved s operands first p s operands) (sym c.take_up.ensures)
    (stepping_start o g.K.Operand.lawful g.K.Spreading.joined g.K.Spreading.rank g.K.Spreading.MAX_RANK code p saved first status operands c.requires.inside ls due
    (entered_alike o status operands p saved (c.entry_at.ensures.entry saved c.in-Some.is).1) c.requires.quiet c.requires.growing
    (λ k i runs.
    let within = runs_within o code p saved c.instruction_at-here.result first c.target_count.result
    (c.instruction_at-here.ensures ∙ cond-true _ _ _ (lt-ltb _ _ c.requires.inside)) c.first_target-first.ensures c.target_count.ensures k i runs in
    omega (arith, within.0)))

pub loop-a-preserved : goal.loop-a-preserved
loop-a-preserved g c =
    let o = g.K.Operand.operations in
    let l = g.K.Operand.lawful in
    let joined = g.K.Spreading.joined in
    let rank = g.K.Spreading.rank in
    let top = g.K.Spreading.MAX_RANK in
    let code = c.args.code.now in
    let p = c.args.p in
    let s1 = c.take_up.new.status in
    let c1 = c.args.operands.now in
    let saved = c.in-Some.saved in
    let a = c.loop-a.a in
    let a' = c.loop-a.a + 1 in
    let runs = c.runs_at.ensures in
    elim c.match-runs_at.branch [
      | in-Some-runs_at w ↦
          let i = w.in-Some-runs_at.instruction in
          stepping_is o l joined rank top code p saved s1 c1 a' w.pass-low.result w.pass-low.new.status w.pass-low.new.operands c.match-runs_at.low c.match-runs_at.status c.match-runs_at.operands
          w.low-is w.status-is w.operands-is
          (stepping_word o l joined rank top code p saved s1 c1 a a' c.loop-a.low i c.loop-a.status c.loop-a.operands w.pass-low.result w.pass-low.new.status w.pass-low.new.operands
          (omega arith) c.requires.inside ((runs i).0 w.in-Some-runs_at.is)
          (λ j h. let x = (runs j).1 h in let y = w.in-Some-runs_at.is in let z : j ≡ i = cc in z)
          (subst (λ n. Went o joined rank top n p c.loop-a.low i saved c.loop-a.status c.loop-a.operands w.pass-low.result w.pass-low.new.status w.pass-low.new.operands) c.word_count-n.ensures w.pass-low.ensures)
          c.loop-a.invariant)
      | in_default-runs_at w ↦
          stepping_is o l joined rank top code p saved s1 c1 a' c.loop-a.low c.loop-a.status c.loop-a.operands c.match-runs_at.low c.match-runs_at.status c.match-runs_at.operands
          w.low-is w.status-is w.operands-is
          (stepping_skip o l joined rank top code p saved s1 c1 a a' c.loop-a.low c.loop-a.status c.loop-a.operands (omega arith)
          (λ j h. w.in_default-runs_at.not-Some j ((runs j).1 h)) c.loop-a.invariant)
    ]

pub returns : goal.returns
returns g c =
    let o = g.K.Operand.operations in
    let l = g.K.Operand.lawful in
    let joined = g.K.Spreading.joined in
    let rank = g.K.Spreading.rank in
    let top = g.K.Spreading.MAX_RANK in
    let code = c.args.code.now in
    let n = words_in code in
    let p = c.args.p in
    let s0 = c.args.status.now in
    let c0 = c.args.operands.now in
    let s1 = c.take_up.new.status in
    let s2 = c.loop-a.status in
    let c2 = c.loop-a.operands in
    let saved = c.in-Some.saved in
    let first = c.first_target-first.result in
    let due = tidy_due (get_or s0 p 0) (c.requires.growing.tidy p c.requires.inside) c.requires.due in
    let ls : p < length s0 = omega arith in
    let taken = subst (λ s. Eased o rank top n s0 c0 s c0) (sym c.take_up.ensures) (taken_eased o rank top n p s0 c0 ls due c.requires.inside) in
    let lighter = subst (λ s. weight_at o rank top s c0 p < weight_at o rank top s0 c0 p) (sym c.take_up.ensures) (taken_lighter o rank top n p s0 c0 ls due) in
    let all : first + c.target_count.result ≤ c.loop-a.a = c.loop-a-test.false in
    record {
      growing = stepping_end o l joined rank top code p saved s1 c0 c.loop-a.a c.loop-a.low s2 c2
          (λ k i runs.
          let within = runs_within o code p saved c.instruction_at-here.result first c.target_count.result
          (c.instruction_at-here.ensures ∙ cond-true _ _ _ (lt-ltb _ _ c.requires.inside)) c.first_target-first.ensures c.target_count.ensures k i runs in
          omega (arith, within.1))
          c.loop-a.invariant;
      kept = (eased_then o rank top n s0 c0 s1 c0 s2 c2 taken c.loop-a.invariant.eased).kept;
      falls = load_falls o rank top n p s0 c0 s1 c0 s2 c2 c.requires.inside lighter taken c.loop-a.invariant.eased;
      quiet = c.loop-a.invariant.quiet;
    }
