-- How a program ends. Assumes nothing.
--   status_of ran   its status: the one that it chose, or 1 if it could not run to its end
use Rattle.std.specs.Prelude.{ℕ, Ok, Err, Result}
use Rattle.std.specs.Process.{exit_status}
use Rattle.std.specs.declared.process.ExitCode.{ExitCode}

abbrev pub status_of : {E : Type 0} → Result ExitCode E → ℕ
status_of (Ok status) = exit_status status
status_of (Err error) = 1
