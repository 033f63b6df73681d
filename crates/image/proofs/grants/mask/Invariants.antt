use Rattle.std.proofs.Common.{◌≡◌}
use Rattle.image.specs.Grants.{mask_among}
use Rattle.image.proofs.grants.mask.Given as goal

-- what the entries so far give
abbrev pub invariant-loop-its_bank : goal.invariant-loop-its_bank
invariant-loop-its_bank l = l.found ≡ mask_among l.grants l.bank l.port l.its_bank-index
