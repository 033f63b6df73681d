-- Why growth ends: what is left to do falls with each word that is sent on. Assumes nothing.
--   sum_below n f     f 0 + f 1 + .. + f (n - 1)
--   marks_in b        how many marks a status byte has
--   weight most b r   what is left to do at a word with the status byte b, whose operands' ranks have the sum r: twice what
--                     ranks and marks can still rise, and one while the word is due
--   load .. n ..      what is left to do at the first n words
use Rattle.std.specs.Prelude.{ℕ, zero, suc, ◌+◌, ◌-◌, ◌*◌, ◌/◌, ◌%◌, cond, List, ◌==◌, slice_index, slice_index_or}
use Rattle.operands.specs.Operations.{Operations}

abbrev pub sum_below : ℕ → (ℕ → ℕ) → ℕ
sum_below zero f = 0
sum_below (suc n) f = f n + sum_below n f

abbrev pub marks_in : ℕ → ℕ
marks_in b = b / 2 % 2 + b / 4 % 2

abbrev pub weight : ℕ → ℕ → ℕ → ℕ
weight most b ranks = cond (b % 2 == 1) (2 * (most - (ranks + marks_in b)) + b / 8) (2 * most + 2)

abbrev pub ranks_at : {K : Type 0} → Operations K → (K → ℕ) → List K → ℕ → ℕ
ranks_at o rank operands p = sum_below 16 (λ r. rank (slice_index_or operands (16 * p + r) o.some))

abbrev pub weight_at : {K : Type 0} → Operations K → (K → ℕ) → ℕ → List ℕ → List K → ℕ → ℕ
weight_at o rank top status operands p = weight (16 * top + 2) (slice_index status p) (ranks_at o rank operands p)

abbrev pub load : {K : Type 0} → Operations K → (K → ℕ) → ℕ → ℕ → List ℕ → List K → ℕ
load o rank top n status operands = sum_below n (weight_at o rank top status operands)
