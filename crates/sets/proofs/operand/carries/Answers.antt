use Rattle.std.proofs.Common.{◌≡◌, ◌^◌, ◌<◌, ap, sym, subst, ◌∙◌, arith}
use lib.Bits.{bit_or}
use Rattle.std.proofs.lemmas.Nat.{pow_pos, le_or_l}
use Rattle.operands.specs.Bytes.{two}
use Rattle.operands.specs.Bytes.Two.{carry}
use Rattle.operands.specs.Exact.{exact_twos}
use Rattle.sets.specs.Numbers.{number}
use Rattle.sets.specs.Sets.{set_has}
use Rattle.sets.proofs.Unions.{same_from_number}
use Rattle.sets.proofs.Carries.{greatest_from_top, carries_same}
use Rattle.sets.proofs.operand.carries.Goals as goal

pub made-requires : goal.made-requires
made-requires c =
    let first : 0 < number c.only.result = subst (λ z. 0 < z) (sym c.only.ensures) (pow_pos _) in
    omega (arith, c.union.ensures, first, le_or_l (number c.only.result) (number c.only-2.result))

pub returns : goal.returns
returns c =
    let x = c.args.x in
    let y = c.args.y in
    let n = number x.bits in
    let m = number y.bits in
    let la = c.lowest.result in
    let lb = c.lowest-2.result in
    let ha = c.highest.result in
    let hb = c.highest-2.result in
    let least = two carry la lb in
    let most = two carry ha hb in
    let first : number c.only.result ≡ 2 ^ least = c.only.ensures ∙ ap (λ z. 2 ^ z) c.carry_byte-least.ensures in
    let second : number c.only-2.result ≡ 2 ^ most = c.only-2.ensures ∙ ap (λ z. 2 ^ z) c.carry_byte-most.ensures in
    let is : number c.made.result.bits ≡ bit_or (2 ^ least) (2 ^ most) =
    c.made.ensures ∙ c.union.ensures ∙ ap (λ z. bit_or z (number c.only-2.result)) first ∙ ap (bit_or (2 ^ least)) second in
    same_from_number (number c.made.result.bits) (bit_or (2 ^ least) (2 ^ most)) (exact_twos carry (set_has x) (set_has y)) is
    (carries_same n m la lb ha hb (c.lowest.ensures.found, c.lowest.ensures.least) (c.lowest-2.ensures.found, c.lowest-2.ensures.least)
    (greatest_from_top n ha c.highest.ensures.0 c.highest.ensures.1)
    (greatest_from_top m hb c.highest-2.ensures.0 c.highest-2.ensures.1)
    (omega arith) (omega arith))
