use Rattle.std.proofs.Common.{◌≡◌, ℕ, ◌%◌, ◌/◌, ap, ◌∙◌, add_comm}
use lib.Bits.{and_comm, xor_comm}
use Rattle.operands.specs.Bytes.{Two, two}
use Rattle.operands.specs.Bytes.Two.{and, xor, sum, carry}
use Rattle.sets.proofs.images.combined.Goals as goal

two_comm : (f : Two) (a b : ℕ) → two f a b ≡ two f b a
two_comm and a b = and_comm a b
two_comm xor a b = xor_comm a b
two_comm sum a b = ap (λ n. n % 256) (add_comm a b)
two_comm carry a b = ap (λ n. n / 256) (add_comm a b)

pub returns-else-count : goal.returns-else-count
returns-else-count g c = λ f rows.
    let r = c.rows-else-count.ensures f rows in (
      (λ k h. let t = r.0 k h in (t.1, t.0, (t.2.1.0, (t.2.0, t.2.1.1 ∙ two_comm f t.0 t.1)))),
      (λ k (a, b, (p, (q, e))). r.1 k (b, a, (q, (p, e ∙ two_comm f a b)))),
    )
