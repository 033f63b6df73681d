-- Where the next word stands. Assumes nothing.
--   next_address a   one on; after 8,191 comes 0
--   page_size s      how many addresses NZT and XEC reach by a source: 256 by a register, 32 by a bank field
--   in_page n a v    the address a with v, modulo n, in place of its part below n
use Rattle.std.specs.Prelude.{ℕ, ◌+◌, ◌*◌, ◌/◌, ◌%◌}
use Rattle.instructions.specs.declared.instruction.Source.{Source}
use Rattle.instructions.specs.declared.instruction.Source.TheVariants as source

abbrev pub next_address : ℕ → ℕ
next_address a = (a + 1) % 8192

abbrev pub page_size : Source → ℕ
page_size (source.Register r t) = 256
page_size (source.Field f) = 32

abbrev pub in_page : ℕ → ℕ → ℕ → ℕ
in_page n a v = a / n * n + v % n
