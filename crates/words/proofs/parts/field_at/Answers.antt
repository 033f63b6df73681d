use Rattle.std.proofs.Common.{refl}
use Rattle.words.specs.Fields.{field_of}
use Rattle.words.proofs.Same.{field_same}
use Rattle.words.proofs.parts.field_at.Goals as goal

pub returns : goal.returns
unfolding field_of
returns c = field_same _ (field_of c.args.number c.args.code) c.side_at.ensures refl c.length_at.ensures
