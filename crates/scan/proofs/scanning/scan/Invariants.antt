use Rattle.std.proofs.Common.{◌≡◌, ℕ, ◌<◌, true}
use Rattle.flow.specs.Tables.{holds, table_of}
use Rattle.flow.specs.Breaches.{ClearAt}
use Rattle.scan.proofs.scanning.scan.Given as goal

abbrev pub invariant-loop-address : goal.invariant-loop-address
invariant-loop-address g l =
    let o = g.K.Operand.operations in
    let t = table_of o l.status l.operands in
    (q : ℕ) → q < l.address → t.entry q ≡ true → ClearAt o l.code l.grants (holds o t q) q
