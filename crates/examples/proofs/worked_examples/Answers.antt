use Rattle.std.proofs.Common.{refl}
use Rattle.words.specs.Words.{meaning_of}
use Rattle.words.specs.Fields.{field_of}
use Rattle.examples.proofs.worked_examples.Goals as goal

pub returns : goal.returns
unfolding meaning_of field_of
returns c =
    record {
      words = record {
        selects = refl;
        writes_two_bits = refl;
        not_permitted = (refl, refl);
        adds = (refl, refl);
        rotates = refl;
        cuts_off = refl;
        executes = (refl, refl);
        branches = (refl, refl);
      };
      marks = c.zero_or_one_plus_one.ensures;
      set = c.zero_or_one_plus_one-2.ensures;
    }
