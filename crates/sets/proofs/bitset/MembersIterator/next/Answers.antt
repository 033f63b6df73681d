use Rattle.std.proofs.Common.{◌≡◌, ◌*◌, ◌%◌, ◌^◌, arith}
use Rattle.std.proofs.lemmas.Nat.{one_shl, pow-add}
use Rattle.sets.proofs.bitset.MembersIterator.next.Goals as goal

pub returns-then-high-gt0-clause-steps : goal.returns-then-high-gt0-clause-steps
returns-then-high-gt0-clause-steps c =
    let top = c.highest_bit-top.result in
    let one : 1 * 2 ^ top % 2 ^ 128 ≡ 2 ^ top = one_shl top 128 c.highest_bit-top.ensures.0 in
    let high = pow-add 2 128 top in
    (omega arith, omega arith)
