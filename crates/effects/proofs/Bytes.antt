-- Operations on operands with equal members, and on bytes. Assumes nothing.
use Rattle.operands.specs.Bytes.{Bytes, Same, One}
use Rattle.operands.specs.Operations.{Operations, Lawful}

pub same_ones : {K : Type 0} (o : Operations K) (laws : Lawful o) (f : One) (P Q R : Bytes) → Same P (o.ones f Q) → Same Q R → Same P (o.ones f R)
same_ones o laws f P Q R p q =
    (λ b h. laws.one_inside f Q R q.0 b (p.0 b h), λ b h. p.1 b (laws.one_inside f R Q q.1 b h))
