-- A fault of the file, or of the scan, as a fault of the check. Assumes nothing.
use Rattle.image.specs.declared.fault.FileFault.{FileFault}
use Rattle.scan.specs.declared.fault.ScanFault.{ScanFault}
use Rattle.scan.specs.declared.fault.ScanFault.TheVariants as scanned
use Rattle.checker.specs.declared.fault.CheckFault.{CheckFault}
use Rattle.checker.specs.declared.fault.CheckFault.TheVariants as fault

abbrev pub passed : FileFault → CheckFault
passed f = fault.File f

abbrev pub scan_passed : ScanFault → CheckFault
scan_passed scanned.Memory = fault.Memory
scan_passed (scanned.Breach k p) = fault.Breach k p
