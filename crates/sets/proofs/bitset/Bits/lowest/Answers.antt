use Rattle.std.proofs.Common.{◌≡◌, ℕ, ◌+◌, ◌-◌, sym, ap, ◌∙◌, ⊎_elim, arith}
use Rattle.std.proofs.lemmas.Bool.{cases_lt}
use Rattle.bits.specs.Bits.{bit}
use Rattle.sets.specs.Numbers.{number}
use Rattle.std.proofs.lemmas.Nat.Bits.{bit_at_cat_low}
use Rattle.sets.proofs.Halves.{bit_high}
use Rattle.sets.proofs.Unions.{in_zero}
use Rattle.sets.proofs.bitset.Bits.lowest.Goals as goal

pub returns-then-self-gt0 : goal.returns-then-self-gt0
returns-then-self-gt0 c =
    let low = c.args.self.low in
    let r = c.lowest_bit.ensures in
    let same : (k : ℕ) → _ → bit (number c.args.self) k ≡ bit low k = bit_at_cat_low c.args.self.high 128 low in
    record {
      found = same c.lowest_bit.result r.small ∙ r.found;
      least = λ k h. ⊎_elim (λ lt. r.least k (sym (same k lt) ∙ h)) (λ ge. omega (arith, r.small)) (cases_lt k 128);
    }

pub returns-else-self-gt0 : goal.returns-else-self-gt0
returns-else-self-gt0 c =
    let x = c.args.self in
    let r = c.lowest_bit-else-self-gt0.ensures in
    let none : x.low ≡ 0 = omega arith in
    record {
      found = bit_high 128 x.high x.low (omega arith) c.lowest_bit-else-self-gt0.result ∙ r.found;
      least = λ k h. ⊎_elim
          (λ lt. absurd (in_zero k (ap (λ n. bit n k) (sym none) ∙ sym (bit_at_cat_low x.high 128 x.low k lt) ∙ h)))
          (λ ge.
          let e : 128 + (k - 128) ≡ k = omega arith in
          let i : bit x.high (k - 128) ≡ 1 = sym (bit_high 128 x.high x.low (omega arith) (k - 128)) ∙ ap (bit (number x)) e ∙ h in
          omega (arith, r.least (k - 128) i))
          (cases_lt k 128);
    }
