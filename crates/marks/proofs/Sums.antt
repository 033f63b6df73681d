-- The worked sum: from what its contract says in every kind, by computing. Assumes nothing.
use Rattle.std.proofs.Common.{◌≡◌, ◌<◌, refl, arith}
use Rattle.operands.specs.Bytes.{Same, Only}
use Rattle.operands.specs.Bytes.Two.{sum}
use Rattle.operands.specs.Worked.{OneAddedToEither}
use Rattle.marks.specs.declared.mark.Marks.{Marks}
use Rattle.bits.specs.Mays.{Marked, may_twos}
use Rattle.marks.specs.Marks.{Between, marks_has, marks_joined, marks_operations, marks_lawful}
use Rattle.marks.proofs.Members.{low_has, high_has, lowest_same}
use Rattle.marks.proofs.Closed.{two_same}
use Rattle.marks.proofs.Joins.{joined_marks, joined_same}

-- 0 or 1, with each bit known on its own, plus 1
up_to_three : (e o : Marks) → e.low ≡ 0 → e.high ≡ 1 → o.low ≡ 1 → o.high ≡ 1 → Same (Marked (Between 0 3)) (may_twos sum (marks_has e) (marks_has o))
up_to_three e o el eh ol oh = two_same sum e o 0 3 (simp (el, eh, ol, oh)) (simp (el, eh, ol, oh))

pub worked_sum : (r : Marks) → OneAddedToEither marks_operations marks_joined r → Same (marks_has r) (λ b. b < 4)
worked_sum r (z, o, (hz, ho, hr)) =
    let j = joined_marks z o in
    let zl : z.low ≡ 0 = hz.0 z.low (low_has z) in
    let zh : z.high ≡ 0 = hz.0 z.high (high_has z) in
    let ol : o.low ≡ 1 = ho.0 o.low (low_has o) in
    let oh : o.high ≡ 1 = ho.0 o.high (high_has o) in
    let js = joined_same z o _ _ refl refl in
    let inside = marks_lawful.two_inside sum in
    let s = up_to_three j o (simp (zl, ol)) (simp (zh, oh)) ol oh in
    let t = lowest_same 2 (omega arith) in (
      (λ b m. t.0 b (s.1 b (inside (marks_joined z o) (Only 1) (marks_has j) (marks_has o) js.1 ho.1 b (hr.0 b m)))),
      (λ b m. hr.1 b (inside (marks_has j) (marks_has o) (marks_joined z o) (Only 1) js.0 ho.0 b (s.0 b (t.1 b m)))),
    )
