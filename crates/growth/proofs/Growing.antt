-- The growth from its start to its end. Assumes nothing.
use Rattle.std.proofs.Common.{◌≡◌, ℕ, ◌%◌, ◌<◌, ◌≤◌, true, ◌⊎◌, List, get_or, sym, ap, ◌∙◌, subst, inl, inr, ⊎_elim, arith}
use Rattle.std.proofs.lemmas.Bool.{cases_eq, eq-eqb, eqb-true}
use Rattle.words.specs.Code.{words_in}
use Rattle.operands.specs.Bytes.{Bytes}
use Rattle.operands.specs.Operations.{Operations}
use Rattle.flow.specs.declared.entry.Entry.{Entry}
use Rattle.flow.specs.States.{Fits, Alike, start}
use Rattle.flow.specs.Tables.{holds, table_of}
use Rattle.flow.specs.Entries.{allows}
use Rattle.flow.proofs.Monotone.{fits_then}
use Rattle.growth.specs.Memory.{Quiet, Kept}
use Rattle.growth.specs.Growth.{Flowed, Growing, Grown}
use Rattle.growth.proofs.Sending.{flowed_odd, due_or_same}

module _ {K : Type 0} (o : Operations K) (joined : K → K → Bytes) (code : List ℕ) where
  -- the entry of the start, sent to a table with no entry
  pub growing_start : (rank : K → ℕ) (top : ℕ) (new : Entry K) (status : List ℕ) (operands : List K) (status' : List ℕ) (operands' : List K) → 0 < words_in code → ((k : ℕ) → k < words_in code → get_or status k 0 ≡ 0)
      → Alike (allows o new) (start o) → Flowed o joined rank top 0 new status operands status' operands' → Growing o joined code status' operands'
  growing_start rank top new status operands status' operands' full zeros alike f =
      let changed = due_or_same o joined rank top 0 new status operands status' operands' f in
      record {
        tidy = λ x h. ⊎_elim (λ a. inr (a.1.1, a.1.0)) (λ a. inl (a.0 ∙ zeros x h)) (changed x);
        starts = eq-eqb _ _ (flowed_odd o joined rank top 0 new status operands status' operands' f);
        allows_start = fits_then _ _ _ alike.1 f.second;
        done = λ x h odd k. ⊎_elim (λ a. absurd (omega (arith, a.0))) (λ a. absurd (omega (arith, zeros x h, ap (λ b. b % 2) a.0))) (changed x);
        least = λ lub u rules x h odd.
            ⊎_elim
            (λ z.
            subst (λ y. (u.entry y ≡ true) × Fits (holds o (table_of o status' operands') y) (holds o u y)) (sym z) (
              rules.starts,
              f.least lub (u.cell 0) (u.left 0) (u.right 0) (λ was. absurd (omega (arith, zeros 0 full))) (fits_then _ _ _ alike.0 rules.allows_start),
            ))
            (λ n. let a = f.rest x n in absurd (omega (arith, eqb-true _ _ odd, a.0, zeros x h)))
            (cases_eq x 0);
      }

  -- once no word is due
  pub growing_end : (s0 : List ℕ) (c0 : List K) (s1 : List ℕ) (status : List ℕ) (operands : List K) → Quiet status (words_in code) → ((k : ℕ) → words_in code ≤ k → get_or s1 k 0 ≡ get_or s0 k 0)
      → Kept o (words_in code) s1 c0 status operands → Growing o joined code status operands → Grown o joined code s0 c0 status operands
  growing_end s0 c0 s1 status operands quiet rest kept g =
      let settled : (p : ℕ) → p < words_in code → (get_or status p 0 ≡ 0) ⊎ ((get_or status p 0 % 2 ≡ 1) × (get_or status p 0 < 8)) =
      λ p h. ⊎_elim (λ a. inl a) (λ b. inr (b.0, quiet p h)) (g.tidy p h) in
      record {
        tidy = settled;
        rules = record {
          starts = g.starts;
          allows_start = g.allows_start;
          flows = λ p h odd. g.done p h (eqb-true _ _ odd) (quiet p h);
        };
        least = g.least;
        past = λ p h. let k = kept.past p h in (k.0 ∙ rest p h, k.1);
        bare = λ p even. (kept.bare p even).1;
      }
