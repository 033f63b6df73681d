-- Why the engine refuses a call. Assumes nothing.
--   reported f     how a fault is reported: its number, and its place
--   fault_text f   the same as text: `engine `, the number, ` at ` and the place, both in decimal
use Rattle.std.specs.Prelude.{ℕ, List, codes, decimal}
use Rattle.faults.specs.Reports.{report_text}
use Rattle.engine.specs.declared.fault.EngineFault.{EngineFault}
use Rattle.engine.specs.declared.fault.EngineFault.TheVariants.{RunLength, Outside, NotPermitted, NotReady}

abbrev pub reported : EngineFault → ℕ × ℕ
reported RunLength = (16, 0)
reported (Outside a) = (17, a)
reported (NotPermitted a) = (18, a)
reported (NotReady a) = (19, a)

abbrev pub fault_text : EngineFault → List ℕ
fault_text f = report_text (codes "engine") (reported f).0 (decimal (reported f).1)
