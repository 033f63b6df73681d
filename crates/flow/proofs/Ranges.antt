-- Whether some number of a range passes a test. Assumes nothing.
use Rattle.std.proofs.Common.{◌≡◌, ℕ, ◌+◌, ◌-◌, ◌<◌, ◌≤◌, Bool, true, false, List, Option, length, get_or, Decides, sym, subst, refl, arith}
use Rattle.std.proofs.lemmas.Bool.{true≢false}
use Rattle.std.proofs.lemmas.Iterator.{YieldsList-from_range, cases_from_any}
use Rattle.std.proofs.lemmas.List.FromFn.{length-range_with_len, get_or-range_with_len}
use Rattle.std.proofs.iter.Yields.{nat_range_steps}
use Rattle.std.specs.Bool.{MatchBool}
use Rattle.std.specs.Fn.{Called}
use Rattle.std.specs.Iterator.{YieldsThen}
use Rattle.std.specs.List.{FoldsTo, range_with_len, AllWithin, HoldsAt}
use Rattle.std.specs.Option.{MatchOption}
use Rattle.std.specs.declared.ops.Range.{Range}
use denote.Param.Members.{Mut}

-- what `any` over a range tells
pub any_in_range : {F : Type 0} {g : Mut F (ℕ × Unit {0}) Bool} (s u : Range ℕ) (f : F) (r : Bool) (P : ℕ → Type 0)
    → (xs : List ℕ) × (o : Option ℕ) × (j : F) × YieldsThen nat_range_steps s xs o u × FoldsTo (λ p x q. Called g p (x, tt) false q) f xs j × MatchOption o (r ≡ false) (λ x. (r ≡ true) × ((h : F) × Called g j (x, tt) true h))
    → ((x : ℕ) (q : F) → Called g f (x, tt) true q → P x) → ((x : ℕ) (q : F) → Called g f (x, tt) false q → (q ≡ f) × (P x → ⊥))
    → Decides r ((k : ℕ) × ((s.start ≤ k) × ((k < s.end) × P k)))
any_in_range s u f r P d passes fails = by r (cases_from_any u f r P (λ k. P k → ⊥) d (YieldsList-from_range s.start s.end _ refl refl) passes fails)
  where
    all : List ℕ
    all = range_with_len s.start (s.end - s.start)

    long : length all ≡ s.end - s.start
    long = length-range_with_len s.start (s.end - s.start)

    by : (b : Bool) → MatchBool b ((k : ℕ) × (k < length all) × HoldsAt P all k) (AllWithin (λ k. P k → ⊥) all 0 (length all)) → Decides b ((k : ℕ) × ((s.start ≤ k) × ((k < s.end) × P k)))
    by true h =
        let low : h.0 < s.end - s.start = omega (arith, long, h.1) in (
          λ e. (s.start + h.0, (omega arith, (omega arith, subst P (get_or-range_with_len s.start (s.end - s.start) h.0 0 low) (h.2 0)))),
          λ w. refl,
        )
    by false h = (
      λ e. absurd (true≢false (sym e)),
      λ w.
          let k = w.0 - s.start in
          let low : k < s.end - s.start = omega (arith, w.1.0, w.1.1.0) in
          let at : get_or all k 0 ≡ w.0 = omega (arith, get_or-range_with_len s.start (s.end - s.start) k 0 low, w.1.0) in
          absurd (h k 0 (omega arith) (omega (arith, long)) (subst P (sym at) w.1.1.1)),
    )
