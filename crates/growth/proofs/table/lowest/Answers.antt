use Rattle.std.proofs.Common.{◌≡◌, ℕ, ◌+◌, ◌-◌, ◌<◌, ◌≤◌, List, drop, slice_index, sym, ap, ◌∙◌, subst, ⊎_elim, arith}
use Rattle.std.proofs.lemmas.Bool.{cases_lt}
use Rattle.std.proofs.lemmas.List.{get_or-take, get_or-drop}
use Rattle.std.specs.List.{slice_range}
use Rattle.std.specs.Prelude.{MatchOption}
use Rattle.growth.specs.Memory.{Quiet}
use Rattle.growth.proofs.table.lowest.Goals as goal

-- a part of the status bytes, from low on
module _ (status part : List ℕ) (low n : ℕ) (is : part ≡ slice_range status low n) where
  same : (k : ℕ) → k < n - low → slice_index part k ≡ slice_index status (low + k)
  same k h = ap (λ xs. slice_index xs k) is ∙ get_or-take (n - low) (drop low status) k 0 h ∙ get_or-drop low status k 0

  quiet_on : (m : ℕ) → m ≤ n - low → Quiet status low → Quiet part m → Quiet status (low + m)
  quiet_on m h below above k lt =
      ⊎_elim (below k)
      (λ ge.
      let z : low + (k - low) ≡ k = omega arith in
      subst (λ k. slice_index status k < 8) z (subst (λ b. b < 8) (same (k - low) (omega arith)) (above (k - low) (omega arith))))
      (cases_lt k low)

pub returns-in_err-found : goal.returns-in_err-found
returns-in_err-found c =
    let part = c.in_ok-left.ensures.lookup.0 in
    subst (λ r. MatchOption r (Quiet c.args.status.now c.args.n) (λ p. (p < c.args.n) × (8 ≤ slice_index c.args.status.now p) × Quiet c.args.status.now p)) (sym c.from_residual-in_err-found.ensures)
    (λ k h. quiet_on c.args.status.now c.in_ok-left.left.now c.args.low c.args.n part.2 (c.args.n - c.args.low) (omega arith) c.requires.quiet
    (λ j l. c.in_err-found.ensures j (omega (arith, part.3))) k (omega (arith, part.0)))

pub returns : goal.returns
returns c =
    let part = c.in_ok-left.ensures.lookup.0 in
    let found = c.in_ok-found.found in
    let due = c.in_ok-found.ensures in
    let inside : found < c.args.n - c.args.low = omega (arith, due.0, part.3) in (
      omega arith,
      subst (λ b. 8 ≤ b) (same c.args.status.now c.in_ok-left.left.now c.args.low c.args.n part.2 found inside) due.1,
      quiet_on c.args.status.now c.in_ok-left.left.now c.args.low c.args.n part.2 found (omega arith) c.requires.quiet due.2,
    )
