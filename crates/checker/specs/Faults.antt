-- Why an image is not accepted. Assumes nothing.
--   breach_number k   the number of a breach
--   reported f        how a fault is reported: its number and its place; a fault of the file keeps those that the reader gave it
--   fault_text f      the same as text: the layer, the number, ` at ` and the place, both in decimal
use Rattle.std.specs.Prelude.{ℕ, List, codes, decimal}
use Rattle.faults.specs.Reports.{report_text}
use Rattle.image.specs.Faults.{reported as file_reported, fault_text as file_text}
use Rattle.flow.specs.declared.breach.Breach.{Breach}
use Rattle.flow.specs.declared.breach.Breach.TheVariants.{NotPermitted, Outside, Chain, Unready, Withheld}
use Rattle.checker.specs.declared.fault.CheckFault.{CheckFault}
use Rattle.checker.specs.declared.fault.CheckFault.TheVariants as fault

abbrev pub breach_number : Breach → ℕ
breach_number NotPermitted = 11
breach_number Outside = 12
breach_number Chain = 13
breach_number Unready = 14
breach_number Withheld = 15

abbrev pub reported : CheckFault → ℕ × ℕ
reported (fault.File f) = file_reported f
reported fault.Memory = (10, 0)
reported (fault.Breach k p) = (breach_number k, p)

abbrev pub check_text : ℕ × ℕ → List ℕ
check_text r = report_text (codes "check") r.0 (decimal r.1)

abbrev pub fault_text : CheckFault → List ℕ
fault_text (fault.File f) = file_text f
fault_text fault.Memory = check_text (10, 0)
fault_text (fault.Breach k p) = check_text (breach_number k, p)
