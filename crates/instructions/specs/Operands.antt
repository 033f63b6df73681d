-- Where data comes from and where it goes. Assumes nothing.
--   source_field s, destination_field d   the bank field, or none of a register
use Rattle.std.specs.Prelude.{Some, None, Option}
use Rattle.instructions.specs.declared.field.Field.{Field}
use Rattle.instructions.specs.declared.instruction.Source.{Source}
use Rattle.instructions.specs.declared.instruction.Source.TheVariants as source
use Rattle.instructions.specs.declared.instruction.Destination.{Destination}
use Rattle.instructions.specs.declared.instruction.Destination.TheVariants as destination

abbrev pub source_field : Source → Option Field
source_field (source.Register r t) = None
source_field (source.Field f) = Some f

abbrev pub destination_field : Destination → Option Field
destination_field (destination.Register r) = None
destination_field (destination.Field f) = Some f
