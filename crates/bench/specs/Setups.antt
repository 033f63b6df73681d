-- What a bench is made with. Assumes nothing.
--   unset                 nothing has been given: every port has byte 0 and mask 255
--   with_registers rs u   these registers, unless others were given before
--   with_port s k p u     port k of one bank is p
--   bench_of u            a new machine and its banks; registers that were not given are 0
use Rattle.std.specs.Prelude.{ℕ, List, replicate, Some, None, slice_set}
use Rattle.std.specs.Option.{unwrap_or}
use Rattle.instructions.specs.declared.field.Side.{Side}
use Rattle.instructions.specs.declared.field.Side.TheVariants.{Left, Right}
use Rattle.banks.specs.declared.port.Port.{Port}
use Rattle.banks.specs.Ports.{stored}
use Rattle.engine.specs.States.{State}
use Rattle.bench.specs.declared.setup.Setup.{Setup}
use Rattle.bench.specs.Benches.{started}

abbrev pub unset : Setup
unset =
    record { registers = None; left = replicate 256 (stored 0); right = replicate 256 (stored 0) }

abbrev pub with_registers : List ℕ → Setup → Setup
with_registers registers u =
    record { registers = Some (unwrap_or u.registers registers); left = u.left; right = u.right }

abbrev pub with_port : Side → ℕ → Port → Setup → Setup
with_port Left k p u = record { registers = u.registers; left = slice_set u.left k p; right = u.right }
with_port Right k p u = record { registers = u.registers; left = u.left; right = slice_set u.right k p }

abbrev pub bench_of : Setup → State
bench_of u = started (unwrap_or u.registers (replicate 16 0)) u.left u.right
