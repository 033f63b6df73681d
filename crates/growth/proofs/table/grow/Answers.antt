use Rattle.std.proofs.Common.{◌≡◌, ℕ, zero, suc, ◌+◌, ◌<◌, ◌≤◌, cond, List, length, get_or, take, Some, refl, ap, ◌∙◌, inl, inr, ⊎_elim, arith}
use Rattle.std.proofs.Math.Seq.{take-suc}
use Rattle.std.proofs.lemmas.List.Sums.{sum_by_push}
use Rattle.std.proofs.lemmas.Bool.{cases_lt}
use Rattle.std.specs.List.{count_by}
use Rattle.flow.specs.Tables.{has_entry}
use Rattle.growth.specs.Memory.{entries_in}
use Rattle.growth.specs.Growth.{Lacks}
use Rattle.growth.proofs.table.grow.Goals as goal

entries_counted : (xs : List ℕ) (n : ℕ) → n ≤ length xs → count_by has_entry (take n xs) ≡ entries_in xs n
entries_counted xs zero h = refl
entries_counted xs (suc n) h =
    let low : n < length xs = omega arith in
    let push : count_by has_entry (take (suc n) xs) ≡ count_by has_entry (take n xs) + cond (has_entry (get_or xs n 0)) 1 0 =
    ap (count_by has_entry) (take-suc xs n 0 low) ∙ sum_by_push (λ x. cond (has_entry x) 1 0) (take n xs) (get_or xs n 0) in
    omega (arith, push, entries_counted xs n (omega arith))

-- where nothing lacks, there is a status byte for each word
roomy : {K : Type 0} (n : ℕ) (status : List ℕ) (operands : List K) → (Lacks n status operands → ⊥) → n ≤ length status
roomy n status operands enough = ⊎_elim (λ lt. absurd (enough (inr (inl lt)))) (λ ge. ge) (cases_lt (length status) n)

pub returns-clause-grown : goal.returns-clause-grown
returns-clause-grown g c enough =
    let status = c.fill.new.status in
    let n = c.word_count-n.result in
    let room = roomy _ _ _ enough in (
      ap Some (c.count_entries.ensures ∙ entries_counted status n (omega (arith, room, c.word_count-n.ensures, c.fill.auto.status)) ∙ ap (entries_in status) c.word_count-n.ensures),
      c.fill.ensures,
    )
