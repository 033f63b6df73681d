use Rattle.std.proofs.Common.{rules, ◌≡◌, Decides, refl}
use Rattle.marks.proofs.Joins.{joined_marks, joined_same, first_inside, second_inside, joined_adds, joined_rests, joined_rises}
use Rattle.marks.proofs.marks_join.MarksSpreading.join.Goals as goal

pub invariant_of-joined : goal.invariant_of-joined
invariant_of-joined c =
    let j = joined_marks c.args.self c.args.other in
    record { within = j.within; small = j.small }

pub returns : goal.returns
returns c =
    let x = c.args.self in
    let y = c.args.other in
    let j = joined_marks x y in
    let s = joined_same x y j.low j.high refl refl in
    let differ : Decides c.ne.result ((j.low ≡ x.low) × (j.high ≡ x.high) → ⊥) = search rules in
    record {
      members = s;
      first = first_inside x y;
      second = second_inside x y;
      added = joined_adds x y j s c.ne.result differ;
      rests = joined_rests x y j s c.ne.result differ;
      rises = joined_rises x y j s c.ne.result differ;
    }
