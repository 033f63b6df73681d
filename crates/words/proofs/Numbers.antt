-- Registers and fields keep the numbers that they were made of. Assumes nothing.
use Rattle.std.proofs.Common.{◌≡◌, ℕ, zero, suc, ◌%◌, ◌<◌, ◌≤◌, Bool, true, ◌&&◌, eqb, refl, ap, ◌∙◌, arith}
use Rattle.std.proofs.lemmas.Bool.{eqb-true}
use Rattle.std.proofs.lemmas.Bool.Decides.{nat_tests, Decides-below_and}
use Rattle.instructions.specs.Registers.{register_of, number_of}
use Rattle.words.specs.Fields.{field_of, length_of}
use Rattle.words.specs.Rebuilding.{field_number}

kept : ℕ → Bool
kept n = eqb (number_of (register_of n)) n

all_kept : ℕ → Bool
all_kept zero = true
all_kept (suc n) = kept n && all_kept n

pub number-register_of : (n : ℕ) → n < 16 → number_of (register_of n) ≡ n
unfolding kept all_kept
number-register_of n h =
    eqb-true (number_of (register_of n)) n
    ((Decides-below_and kept (λ k. kept k ≡ true) all_kept (λ k. (λ e. e, λ e. e)) refl (λ k. refl) 16).0 refl n h)

pub number_field_of : (n l : ℕ) → 16 ≤ n → n < 32 → field_number (field_of n l) ≡ n
unfolding field_of
number_field_of n l h k = grind (arith, nat_tests)

length-code : (l : ℕ) → l < 8 → length_of l % 8 ≡ l
length-code zero h = refl
length-code (suc k) h = omega arith

pub length_field_of : (n l : ℕ) → l < 8 → (field_of n l).length % 8 ≡ l
unfolding field_of
length_field_of n l h =
    let e : l % 8 ≡ l = omega arith in
    ap (λ m. length_of m % 8) e ∙ length-code l h
