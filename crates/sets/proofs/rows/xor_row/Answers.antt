use lib.Bits.{bit_xor}
use Rattle.sets.proofs.Parts.{xor_by_bits}
use Rattle.sets.proofs.rows.xor_row.Goals as goal

pub returns : goal.returns
returns c = c.changed.ensures bit_xor xor_by_bits (λ s j r h e. e.1)
