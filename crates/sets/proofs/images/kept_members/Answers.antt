use Rattle.std.proofs.Common.{◌≡◌, ℕ, ◌-◌, ◌%◌, ◌^◌, sym, ap, ◌∙◌}
use lib.Bits.{bit_and, and_comm, and_mask}
use Rattle.operands.specs.Bytes.{kept, kept_bits}
use Rattle.sets.proofs.images.kept_members.Goals as goal

pub returns : goal.returns
returns c =
    let n = c.args.bits % 8 in
    let row = c.and_row.ensures in
    let same : (a : ℕ) → bit_and c.kept_bits.result a ≡ kept n a = λ a.
    ap (λ m. bit_and m a) c.kept_bits.ensures ∙ and_comm (2 ^ kept_bits n - 1) a ∙ and_mask a (kept_bits n) in (
      (λ k h. let t = row.0 k h in (t.0, (t.1.0, t.1.1 ∙ same t.0))),
      (λ k (a, (h, e)). row.1 k (a, (h, e ∙ sym (same a)))),
    )
