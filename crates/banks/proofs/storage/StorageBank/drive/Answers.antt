use Rattle.std.proofs.Common.{arith}
use Rattle.banks.proofs.Ports.{stored_mixed}
use Rattle.banks.proofs.storage.StorageBank.drive.Goals as goal

pub returns : goal.returns
returns c =
    let made = stored_mixed c.args.self.now.bytes c.args.port c.replaced.result (λ b. b) (λ b. c.args.value) c.args.self.now.full (omega arith) c.replaced.ensures in
    record { driven = made.0; merged = made.1 }
