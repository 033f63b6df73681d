use Rattle.std.proofs.Common.{rules, ◌≡◌, Decides, ℕ, ◌<◌, true, sym, ◌∙◌, subst, inl, inr, ⊎_elim, arith}
use lib.Bits.{bit_or}
use lib.Count.{ones}
use Rattle.std.proofs.lemmas.Bool.{both_ways, cases_eq}
use Rattle.std.proofs.lemmas.Nat.{le_or_l}
use Rattle.sets.specs.Numbers.{number, In}
use Rattle.sets.specs.Sets.{set_joined}
use Rattle.sets.proofs.Unions.{same_from_number, in_or_same}
use Rattle.sets.proofs.Words.{number_differs}
use Rattle.sets.proofs.Growing.{More, or_more}
use Rattle.sets.proofs.operand.SetSpreading.join.Goals as goal

pub made-requires : goal.made-requires
made-requires c = omega (arith, c.union-both.ensures, c.args.self.some, le_or_l (number c.args.self.bits) (number c.args.other.bits))

pub returns : goal.returns
returns c =
    let x = c.args.self in
    let y = c.args.other in
    let n = number x.bits in
    let m = number y.bits in
    let both = c.union-both.result in
    let differs : Decides c.ne.result (number both ≡ n → ⊥) = number_differs both x.bits c.ne.result (omega arith) (omega arith) (search rules) in
    let is : number c.made.result.bits ≡ bit_or n m = c.made.ensures ∙ c.union-both.ensures in
    let Rank : ℕ → Type 0 = λ z. ones n < ones z in
    let grown : c.ne.result ≡ true → (ones n < ones (bit_or n m)) × More n m = λ t.
    ⊎_elim (λ e. absurd (differs.0 t (c.union-both.ensures ∙ e))) (λ g. g) (or_more 256 n m x.fits y.fits) in
    let apart : More n m → number c.union-both.result ≡ n → ⊥ = λ (b, (h, out)) e.
    out (subst (λ z. In z b) (sym c.union-both.ensures ∙ e) ((in_or_same n m).1 b h)) in
    record {
      members = same_from_number (number c.made.result.bits) (bit_or n m) (set_joined x y) is (in_or_same n m);
      first = λ b h. inl h;
      second = λ b h. inr h;
      added = (λ t. (grown t).1, λ more. differs.1 (apart more));
      rests = λ f b h.
          ⊎_elim (λ e. subst (λ z. In z b) (sym c.union-both.ensures ∙ e) ((in_or_same n m).1 b h))
          (λ no. absurd (both_ways c.ne.result f (differs.1 no)))
          (cases_eq (number c.union-both.result) n);
      rises = λ t. subst Rank (sym is) (grown t).0;
    }
