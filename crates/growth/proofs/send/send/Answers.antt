use Rattle.std.proofs.Common.{◌≡◌, ℕ, ◌+◌, ◌-◌, ◌*◌, ◌<◌, ◌≤◌, not, ◌||◌, List, length, length-drop, drop, get_or, set, sym, refl, ap, subst, ◌∙◌, arith}
use borrow.Rule.Slice.PartMut.{mid_of}
use Rattle.std.proofs.lemmas.List.{get_or_read}
use Rattle.std.proofs.Math.Seq.{length-take-le}
use Rattle.growth.proofs.Flowing.{Partly, partly_more, partly_part, partly_flowed, partly_still}
use Rattle.growth.proofs.send.send.Goals as goal

-- the operands of a word are sixteen
part_length : {X : Type 0} (q : ℕ) (operands : List X) → 16 * q + 16 ≤ length operands → length (mid_of (16 * q) (16 * q + 16 - 16 * q) operands) ≡ 16
part_length q operands h = length-take-le (16 * q + 16 - 16 * q) (drop (16 * q) operands) (omega (arith, length-drop (16 * q) operands)) ∙ omega arith

pub loop-r-preserved : goal.loop-r-preserved
loop-r-preserved g c =
    let o = g.K.Operand.operations in
    let new = c.args.new.now.operands in
    let cells = c.loop-r.cells in
    let r = c.loop-r.r in
    let lt : r < length cells = omega (arith, c.loop-r.auto.cells, c.loop-r-test.true) in
    let few : r < length new = omega arith in
    let z : 16 * 0 + r ≡ r = omega arith in
    let made = c.blend-risen.new.operand in
    let bare = not c.has_entry-bare.result in
    let start = (bare || c.is_new.result) || c.is_new-2.result in
    let part = mid_of (16 * c.args.q) (16 * c.args.q + 16 - 16 * c.args.q) c.args.operands.now in
    subst (λ i. Partly o g.K.Spreading.joined g.K.Spreading.rank g.K.Spreading.MAX_RANK bare start 0 new part (r + 1) (c.loop-r.risen || c.blend-risen.result) (set cells i made)) z
    (partly_more o g.K.Spreading.joined g.K.Spreading.rank g.K.Spreading.MAX_RANK bare start 0 new part r c.loop-r.risen cells made c.blend-risen.result (omega arith) c.loop-r.invariant
    (get_or cells r c.index-cells-r.result) (get_or new r c.index-new-r.result)
    (sym c.index-cells-r.is ∙ get_or_read cells r c.index-cells-r.result lt c.index-cells-r.is o.some ∙ ap (λ i. get_or cells i o.some) (sym z))
    (sym c.index-new-r.is ∙ get_or_read new r c.index-new-r.result few c.index-new-r.is o.some)
    c.blend-risen.ensures)

pub returns-then-risen : goal.returns-then-risen
returns-then-risen g c =
    let q = c.args.q in
    let operands = c.args.operands.now in
    let n : 16 * q + 16 - 16 * q ≡ 16 = omega arith in
    let whole = part_length q operands (omega arith) in
    let all : c.loop-r.r ≡ 16 = omega (arith, whole, c.loop-r-test.false) in
    let lt : q < length c.args.status.now = omega arith in
    partly_flowed g.K.Operand.operations g.K.Spreading.joined g.K.Spreading.rank g.K.Spreading.MAX_RANK g.met.K.Spreading.bounded
    q c.args.new.now operands c.args.status.now _
    _ _ 16 c.loop-r.risen c.due.result.0 (cc) (cc) refl c.if-risen.true (cc)
    (partly_part _ _ _ _ _ _ q _ c.loop-r.r c.args.new.now.operands operands c.loop-r.cells c.loop-r.risen n all (omega arith) (omega (arith, whole, c.loop-r.auto.cells)) c.loop-r.invariant) lt

pub returns-else-risen : goal.returns-else-risen
returns-else-risen g c =
    let q = c.args.q in
    let operands = c.args.operands.now in
    let n : 16 * q + 16 - 16 * q ≡ 16 = omega arith in
    let whole = part_length q operands (omega arith) in
    let all : c.loop-r.r ≡ 16 = omega (arith, whole, c.loop-r-test.false) in
    partly_still g.K.Operand.operations g.K.Spreading.joined g.K.Spreading.rank g.K.Spreading.MAX_RANK g.met.K.Spreading.bounded
    q c.args.new.now operands c.args.status.now _
    _ _ 16 c.loop-r.risen (cc) (cc) refl c.if-risen.false
    (partly_part _ _ _ _ _ _ q _ c.loop-r.r c.args.new.now.operands operands c.loop-r.cells c.loop-r.risen n all (omega arith) (omega (arith, whole, c.loop-r.auto.cells)) c.loop-r.invariant)
