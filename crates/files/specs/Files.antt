-- How much of a file is read. Assumes nothing.
--   most_read   one byte more than the longest image has
use Rattle.std.specs.Prelude.{ℕ}

abbrev pub most_read : ℕ
most_read = 32769
