use Rattle.std.proofs.Common.{◌≡◌, true, List, ℕ, Some, None, subst, arith, below_more}
use Rattle.flow.specs.Tables.{holds, table_of}
use Rattle.flow.specs.Breaches.{ClearAt}
use Rattle.scan.specs.Verdicts.{First, EntryShows, Suffices}
use Rattle.scan.proofs.scanning.scan.Goals as goal

pub returns-in-Some : goal.returns-in-Some
returns-in-Some g c =
    let o = g.K.Operand.operations in
    let t = table_of o c.args.status.now c.args.operands.now in
    let shows = subst (λ (x : List ℕ). First (EntryShows o c.args.code.now x t c.loop-address.address) (Some c.in-Some.breach)) c.read.ensures c.in-Some.ensures in (
      subst (λ n. Suffices n c.args.status.now c.args.operands.now) c.word_count-n.ensures (c.suffices.ensures.0 c.if-not-suffices.false),
      record {
        inside = omega arith;
        entered = shows.0.0;
        first = (shows.0.1, λ j lt w. shows.1 j lt (shows.0.0, w));
        before = c.loop-address.invariant;
      },
    )

pub loop-address-preserved : goal.loop-address-preserved
loop-address-preserved g c =
    let o = g.K.Operand.operations in
    let t = table_of o c.args.status.now c.args.operands.now in
    let none = subst (λ (x : List ℕ). First (EntryShows o c.args.code.now x t c.loop-address.address) None) c.read.ensures c.in_default.ensures in
    below_more (λ q. t.entry q ≡ true → ClearAt o c.args.code.now c.args.grants.now (holds o t q) q) c.loop-address.address c.loop-address.invariant
    (λ e j w. none j (e, w))
