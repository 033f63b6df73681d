-- The parts of what a word means make the word again. Assumes nothing.
use Rattle.std.proofs.Common.{◌≡◌, ℕ, ◌/◌, ◌%◌, ◌<◌, Bool, cond, Some, None, Option, is_some, sym, ap, ◌∙◌, arith}
use Rattle.std.specs.Option.{MatchOption}
use Rattle.std.proofs.lemmas.Bool.Decides.{nat_tests}
use Rattle.instructions.specs.declared.instruction.Instruction.{Instruction}
use Rattle.words.specs.Words.{alu_of, xec_of, nzt_of, xmit_of, meaning_of, meaning, permitted, Alone}
use Rattle.words.specs.Rebuilding.{word_of, parts_word, Rebuilt}
use Rattle.words.proofs.Numbers.{number-register_of, number_field_of, length_field_of}

module _ (s l d : ℕ) (hs : s < 32) (hl : l < 8) (hd : d < 32) (i : Instruction) where
  parts_alu : (c : ℕ) → c < 4 → alu_of c s l d ≡ Some i → parts_word i ≡ word_of c s l d
  parts_alu c hc h = grind (arith, nat_tests, number-register_of, number_field_of, length_field_of)

  parts_xec : xec_of s l d ≡ Some i → parts_word i ≡ word_of 4 s l d
  parts_xec h = grind (arith, nat_tests, number-register_of, number_field_of, length_field_of)

  parts_nzt : nzt_of s l d ≡ Some i → parts_word i ≡ word_of 5 s l d
  parts_nzt h = grind (arith, nat_tests, number-register_of, number_field_of, length_field_of)

  parts_xmit : xmit_of s l d ≡ Some i → parts_word i ≡ word_of 6 s l d
  parts_xmit h = grind (arith, nat_tests, number-register_of, number_field_of, length_field_of)

  parts_meaning_of : (c : ℕ) → c < 8 → meaning_of c s l d ≡ Some i → parts_word i ≡ word_of c s l d
  unfolding meaning_of
  parts_meaning_of c hc h = grind (arith, nat_tests, parts_alu, parts_xec, parts_nzt, parts_xmit)

pub parts_meaning : (w : ℕ) (i : Instruction) → w < 65536 → meaning w ≡ Some i → parts_word i ≡ w
parts_meaning w i hw h =
    let e : parts_word i ≡ word_of (w / 8192) (w / 256 % 32) (w / 32 % 8) (w % 32) =
    parts_meaning_of (w / 256 % 32) (w / 32 % 8) (w % 32) (omega arith) (omega arith) (omega arith) i (w / 8192) (omega arith) h in
    omega (arith, e)

-- no two words mean one instruction
pub meaning_alone : (w : ℕ) (r : Option Instruction) → w < 65536 → meaning w ≡ r → Alone w r
meaning_alone w None hw h = tt
meaning_alone w (Some i) hw h = λ v hv g. sym (parts_meaning v i hv g) ∙ parts_meaning w i hw h

-- what is rebuilt of the meaning of a word
pub rebuilt_of_meaning : (w : ℕ) (o : Option Instruction) (r : Option ℕ) → w < 65536 → o ≡ meaning w → is_some o ≡ permitted w → MatchOption o (r ≡ None) (λ i. Rebuilt i r) → r ≡ cond (permitted w) (Some w) None
rebuilt_of_meaning w None r small means known h = h ∙ ap (λ (b : Bool). cond b (Some w) None) known
rebuilt_of_meaning w (Some i) r small means known h =
    (h w small).1 (sym means) ∙ ap (λ (b : Bool). cond b (Some w) None) known
