-- What calls of a closure gave. Assumes nothing.
use Rattle.std.proofs.Common.{◌≡◌, ℕ, ◌+◌, ◌<◌, ◌≤◌, Bool, false, List, [], ◌∷◌, ◌++◌, length, Some, None, Option, Decides, sym, refl, subst, ⊎_elim, arith, slice_index, suc, zero}
use Rattle.std.proofs.lemmas.Bool.{both_ways, cases_lt}
use Rattle.std.specs.List.{range_with_len}
use Rattle.std.specs.Array.{IsFromFnResultFrom}
use Rattle.std.specs.Fn.{Called}
use Rattle.std.specs.Option.{MatchOption}
use denote.Param.Members.{Mut}

-- each call leaves the closure as it was, and gives a number that has P
pub filled : {F : Type 0} (g : Mut F (ℕ × Unit {0}) ℕ) (f : F) (P : ℕ → ℕ → Type 0) → ((i y : ℕ) (q : F) → Called g f (i, tt) y q → P i y × (q ≡ f)) → (ys : List ℕ) (i n : ℕ) → IsFromFnResultFrom g f ys i n → (k : ℕ) → i ≤ k → k < i + n → P k (slice_index ys k)
filled g f P step ys i zero each k le lt = absurd (omega arith)
filled g f P step ys i (suc n) each k le lt =
    let s = step i each.1 each.0 each.3 in
    ⊎_elim
    (λ more. filled g f P step ys (i + 1) n (subst (λ q. IsFromFnResultFrom g q ys (i + 1) n) s.1 each.4) k (omega arith) (omega arith))
    (λ last. let e : i ≡ k = omega arith in
    subst (λ j. P j (slice_index ys j)) e (subst (P i) (sym (each.2.1 0)) s.0))
    (cases_lt i k)

-- what a test of the value in an option tells of the option
pub decides_some : (x : Option ℕ) (r : Bool) (Q P : ℕ → Type 0) → ((q : ℕ) → Q q → Decides r (P q)) → MatchOption x (r ≡ false) Q → Decides r ((q : ℕ) × ((x ≡ Some q) × P q))
decides_some None r Q P decides h = (
  (λ t. absurd (both_ways r h t)),
  (λ w. let e = w.1.0 in let z : ◌≡◌ {A = ℕ} 0 1 = cc in absurd (omega arith)),
)
decides_some (Some q) r Q P decides h = (
  (λ t. (q, (refl, (decides q h).0 t))),
  (λ w. let e = w.1.0 in let same : w.0 ≡ q = cc in (decides q h).1 (subst P same w.1.1)),
)

-- the numbers of a range, but for its last one
pub range_back : (a : ℕ) (ys : List ℕ) (x : ℕ) → ys ++ (x ∷ []) ≡ range_with_len a (length (ys ++ (x ∷ []))) → (ys ≡ range_with_len a (length ys)) × (x ≡ a + length ys)
range_back a [] x e = let h : x ≡ a = cc in (refl, omega arith)
range_back a (y ∷ ys) x e =
    let h : y ≡ a = cc in
    let t : ys ++ (x ∷ []) ≡ range_with_len (a + 1) (length (ys ++ (x ∷ []))) = cc in
    let r = range_back (a + 1) ys x t in
    let z = r.0 in (cc, omega (arith, r.1))
