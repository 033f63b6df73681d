use Rattle.std.proofs.Common.{set, ap, arith}
use Rattle.banks.specs.declared.port.Port.{Port}
use Rattle.banks.specs.Ports.{port_at}
use Rattle.banks.proofs.Ports.{merges}
use Rattle.banks.proofs.port_bank.PortBankBank.write.Goals as goal

pub returns-clause-merged : goal.returns-clause-merged
returns-clause-merged c =
    let ps = c.args.self.now.ports in
    let k = c.args.port in
    merges ps _ k c.args.value (port_at ps k).byte (omega (arith, c.args.self.now.full)) (ap (λ (p : Port). set ps k p) c.write.ensures)
