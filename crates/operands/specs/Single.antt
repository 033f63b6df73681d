-- Bytes as a kind of operands. Assumes nothing.
use Rattle.std.specs.Prelude.{refl}
use Rattle.std.proofs.Common.{arith}
use Rattle.operands.specs.Bytes.{Bytes, Only}
use Rattle.operands.specs.Operations.{Operations, Lawful}
use Rattle.operands.specs.Exact.{exact, exact_lawful}
use Rattle.operands.specs.declared.byte.Byte.{Byte}

abbrev pub byte_has : Byte → Bytes
byte_has x = Only x.value

abbrev pub zero_byte : Byte
zero_byte = record { value = 0; small = omega arith }

abbrev pub byte_operations : Operations Byte
byte_operations = exact byte_has zero_byte

pub byte_lawful : Lawful byte_operations
byte_lawful = exact_lawful byte_has zero_byte (λ x b h. omega (arith, x.small, h)) (λ x. (x.value, refl))
