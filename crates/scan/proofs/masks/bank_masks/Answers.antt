use Rattle.std.proofs.Common.{◌≡◌, rules, arith}
use Rattle.image.specs.Grants.{mask_of}
use Rattle.scan.proofs.Closures.{filled}
use Rattle.scan.proofs.masks.bank_masks.Goals as goal

pub returns : goal.returns
returns c k h =
    filled _ _ (λ i y. y ≡ mask_of c.args.grants.now c.args.side i) (λ i y q called. search rules) c.from_fn.result 0 256 c.from_fn.ensures.items.each k (omega arith) (omega arith)
