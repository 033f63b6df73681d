-- Two banks side by side, of which writes reach one and drives reach both. Assumes nothing.
use Rattle.std.proofs.Common.{◌≡◌, ℕ, ◌≤◌, cond, eqb, length, set, sym, refl, ap, ◌∙◌, subst, ⊎_elim, arith, length-set, get_or-set_other, get_or-set_same}
use Rattle.std.proofs.lemmas.Bool.{cases_lt, cases_eq}
use Rattle.std.proofs.lemmas.List.{get_or_past}
use Rattle.bits.specs.Bits.{bit}
use Rattle.banks.specs.Ports.{Ports, blank, port_at, written_at, driven, driven_at}
use Rattle.banks.specs.declared.port.Port.{Port}
use Rattle.banks.proofs.Ports.{merged_mixed}
use Rattle.engine.proofs.Laws.{mask_written}

-- what holds at one place and at every other holds everywhere
pub here_and_elsewhere : (P : ℕ → Type 0) (p : ℕ) → P p → ((k : ℕ) → (k ≡ p → ⊥) → P k) → (k : ℕ) → P k
here_and_elsewhere P p here elsewhere k = ⊎_elim (λ e. subst P (sym e) here) (elsewhere k) (cases_eq k p)

-- the same mask, and the same bits wherever they are among some
abbrev pub Matches : (ℕ → Type 0) → Port → Port → Type 0
Matches Among p q = (p.mask ≡ q.mask) × ((j : ℕ) → Among j → bit p.byte j ≡ bit q.byte j)

-- as many ports, which match one by one
pub record Alongside (Among : ℕ → ℕ → Type 0) (ps qs : Ports) : Type 0 where
  pub sizes : length ps ≡ length qs
  pub ports : (k : ℕ) → Matches (Among k) (port_at ps k) (port_at qs k)

pub alongside_itself : (Among : ℕ → ℕ → Type 0) (ps : Ports) → Alongside Among ps ps
alongside_itself Among ps = record { sizes = refl; ports = λ k. (refl, λ j a. refl) }

matches_as : (Among : ℕ → Type 0) (p q x y : Port) → x ≡ p → y ≡ q → Matches Among p q → Matches Among x y
matches_as Among p q x y e f same =
    subst (λ (z : Port). Matches Among z y) (sym e) (subst (λ (z : Port). Matches Among p z) (sym f) same)

matches_driven : (Among : ℕ → Type 0) (v : ℕ) (p q : Port) → Matches Among p q → Matches Among (driven v p) (driven v q)
matches_driven Among v p q same = (
  same.0,
  λ j a.
      merged_mixed p.mask p.byte v j
      ∙ ap (λ b. cond (eqb (bit p.mask j) 1) b (bit v j)) (same.1 j a)
      ∙ ap (λ n. cond (eqb (bit n j) 1) (bit q.byte j) (bit v j)) same.0
      ∙ sym (merged_mixed q.mask q.byte v j),
)

module _ (Among : ℕ → ℕ → Type 0) (ps qs : Ports) (same : Alongside Among ps qs) where
  -- the same drive on both; past their ends it changes nothing
  pub alongside_driven : (p v : ℕ) → Alongside Among (driven_at p v ps) (driven_at p v qs)
  alongside_driven p v =
      let x = driven v (port_at ps p) in
      let y = driven v (port_at qs p) in
      let n = same.sizes in
      let past : (zs : Ports) (z : Port) → length zs ≤ p → port_at (set zs p z) p ≡ blank =
      λ zs z h. get_or_past (set zs p z) p blank (omega (arith, length-set zs p z)) in
      record {
        sizes = length-set ps p x ∙ n ∙ sym (length-set qs p y);
        ports = here_and_elsewhere (λ k. Matches (Among k) (port_at (set ps p x) k) (port_at (set qs p y) k)) p
            (⊎_elim
            (λ h. matches_as (Among p) x y _ _ (get_or-set_same ps p x blank h) (get_or-set_same qs p y blank (omega arith)) (matches_driven (Among p) v (port_at ps p) (port_at qs p) (same.ports p)))
            (λ h. matches_as (Among p) blank blank _ _ (past ps x h) (past qs y (omega arith)) (refl, λ j a. refl))
            (cases_lt p (length ps)))
            (λ k e. matches_as (Among k) _ _ _ _ (get_or-set_other ps p k x blank e) (get_or-set_other qs p k y blank e) (same.ports k));
      }

  -- a write to one of them that leaves the bits
  pub alongside_written : (rs : Ports) (p v : ℕ) → rs ≡ written_at p v ps → ((j : ℕ) → Among p j → bit (port_at rs p).byte j ≡ bit (port_at ps p).byte j) → Alongside Among rs qs
  alongside_written rs p v e left =
      record {
        sizes = ap (λ (zs : Ports). length zs) e ∙ length-set ps p _ ∙ same.sizes;
        ports = here_and_elsewhere (λ k. Matches (Among k) (port_at rs k) (port_at qs k)) p
            (ap (λ (zs : Ports). (port_at zs p).mask) e ∙ mask_written ps p v ∙ (same.ports p).0, λ j a. left j a ∙ (same.ports p).1 j a)
            (λ k n. matches_as (Among k) _ _ _ _ (ap (λ (zs : Ports). port_at zs k) e ∙ get_or-set_other ps p k _ blank n) refl (same.ports k));
      }
