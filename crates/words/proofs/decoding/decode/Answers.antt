use Rattle.std.proofs.Common.{◌≡◌, ◌<◌, is_some, IfSome, sym, ap, ◌∙◌, subst, arith}
use Rattle.instructions.specs.Classes.{class_of, class_number}
use Rattle.words.specs.Words.{meaning, opcode}
use Rattle.words.proofs.Meanings.{meaning_permitted, meaning_class}
use Rattle.words.proofs.Rebuilding.{meaning_alone}
use Rattle.words.proofs.decoding.decode.Goals as goal

pub returns : goal.returns
returns c =
    let w = c.args.word in
    let small : w < 65536 = omega arith in
    let same : c.instruction.result ≡ meaning w = grind arith in
    record {
      meaning = same;
      permitted = ap is_some same ∙ meaning_permitted w;
      alone = meaning_alone w c.instruction.result small (sym same);
      class = subst (λ r. IfSome r (λ i. class_number (class_of i) ≡ opcode w)) (sym same) (meaning_class w small);
    }
