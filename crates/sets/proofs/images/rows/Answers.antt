use Rattle.std.proofs.Common.{ℕ, ◌<◌, arith}
use Rattle.bits.proofs.Mays.{two_below}
use Rattle.operands.specs.Bytes.{Bytes, Same, Two, two}
use Rattle.operands.specs.Exact.{exact_twos}
use Rattle.sets.specs.Numbers.{number, In, in_below}
use Rattle.sets.specs.Steps.{Image}
use Rattle.sets.proofs.Gathering.{From, gathered_more, gathered_full, gathered_done}
use Rattle.sets.proofs.images.rows.Goals as goal

pub loop-a-preserved : goal.loop-a-preserved
loop-a-preserved g c =
    let highest = c.in-Some.ensures.steps in (
      c.loop-a.invariant.0,
      λ f rows.
          let Part : ℕ → Bytes = λ a. Image (two f a) (In (number c.args.ys)) in
          gathered_more (number c.args.xs) Part (number c.loop-a.a-iterator.rest) (number c.loop-a.out) c.in-Some.a (number c.next.new.self.rest)
          (number c.row.result) (number c.union-out.result) highest.0 highest.1 c.union-out.ensures (c.loop-a.invariant.1 f rows)
          (rows c.in-Some.a c.args.ys c.row.result (omega arith) c.row.ensures),
    )

-- the rows of the members of xs are what f gives from each two
pairs : (f : Two) (xs n : ℕ) (Q : Bytes) → Same (In n) (From xs (λ a. Image (two f a) Q)) → Same (In n) (exact_twos f (In xs) Q)
pairs f xs n Q g = (
  (λ k h. let t = g.0 k h in (t.0, t.1.1.0, (t.1.0, t.1.1.1))),
  (λ k (a, b, (p, q)). g.1 k (a, (p, (b, q)))),
)

pub returns-then-is_all : goal.returns-then-is_all
returns-then-is_all g c = λ f rows.
    let xs = number c.args.xs in
    let ys = number c.args.ys in
    let n = number c.loop-a.out in
    let Part : ℕ → Bytes = λ a. Image (two f a) (In ys) in
    let small : (a k : ℕ) → In xs a → Part a k → k < 256 = λ a k h (b, (i, e)).
    omega (arith, e, two_below f a b (in_below 256 xs a (omega arith) h) (in_below 256 ys b (omega arith) i)) in
    pairs f xs n (In ys)
    (gathered_full xs Part (number c.loop-a.a-iterator.rest) n (c.is_all.ensures.0 c.if-is_all.true) small (c.loop-a.invariant.1 f rows))

pub returns : goal.returns
returns g c = λ f rows.
    let xs = number c.args.xs in
    let ys = number c.args.ys in
    let n = number c.loop-a.out in
    let Part : ℕ → Bytes = λ a. Image (two f a) (In ys) in
    pairs f xs n (In ys)
    (gathered_done xs Part (number c.loop-a.a-iterator.rest) n c.in-None.ensures.steps (c.loop-a.invariant.1 f rows))
