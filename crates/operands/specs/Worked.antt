-- A worked sum, in any kind. Assumes nothing.
--   OneAddedToEither o joined r   r has what the sum gives from 1 and the join of an operand of 0 and one of 1
use Rattle.operands.specs.Bytes.{Bytes, Same, Only}
use Rattle.operands.specs.Bytes.Two.{sum}
use Rattle.operands.specs.Operations.{Operations}

abbrev pub OneAddedToEither : {K : Type 0} → Operations K → (K → K → Bytes) → K → Type 0
OneAddedToEither o joined r =
    (zero one : _) × (Same (o.has zero) (Only 0) × Same (o.has one) (Only 1) × Same (o.has r) (o.twos sum (joined zero one) (Only 1)))
