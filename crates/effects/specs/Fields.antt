-- Which bits of a port a field covers. Assumes nothing.
--   raised_by n v   the byte v shifted left by n places; what would stand left of bit 0 is cut off
--   field_mask f    ones in the bits of the field
use Rattle.std.specs.Prelude.{ℕ, ◌-◌, ◌*◌, ◌%◌, ◌^◌}
use Rattle.instructions.specs.declared.field.Field.{Field}

abbrev pub raised_by : ℕ → ℕ → ℕ
raised_by n v = v * 2 ^ n % 256

abbrev pub mask_of : ℕ → ℕ → ℕ
mask_of length bit = raised_by (7 - bit) (2 ^ length - 1)

abbrev pub field_mask : Field → ℕ
field_mask f = mask_of f.length f.bit
