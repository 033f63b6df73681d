use Rattle.std.proofs.Common.{◌≡◌, ℕ, ◌-◌, ◌%◌, ◌^◌, ◌<◌, Bool, eqb, sym, refl, subst, arith}
use Rattle.std.proofs.lemmas.Bool.Decides.{Decides-eqb}
use Rattle.operands.proofs.Rotations.{every, every_at}
use Rattle.operands.specs.Bytes.{Bytes, Same, Only, Every, one, rotated}
use Rattle.operands.specs.Bytes.One.{rotate}
use Rattle.sets.specs.Numbers.{number, In}
use Rattle.sets.proofs.Gathering.{gathered_more}
use Rattle.sets.proofs.Unions.{same_from_number, in_pow, in_all}
use Rattle.sets.proofs.images.rotated_members.Goals as goal

pub loop-b-preserved : goal.loop-b-preserved
loop-b-preserved c =
    let Part : ℕ → Bytes = λ a. Only (one (rotate c.args.by) a) in
    let b = c.rotated_byte.result in
    let m = number c.only.result in
    let Gives : ℕ → Type 0 = λ z. Same (In m) (Only z) in
    let part = subst Gives c.rotated_byte.ensures (same_from_number m (2 ^ b) (Only b) c.only.ensures (in_pow b)) in
    let highest = c.in-Some.ensures.steps in
    gathered_more (number c.args.xs) Part (number c.loop-b.b-iterator.rest) (number c.loop-b.out) c.in-Some.b (number c.next.new.self.rest) m
    (number c.union-out.result) highest.0 highest.1 c.union-out.ensures c.loop-b.invariant part

abbrev turns : ℕ → ℕ → Bool
turns n k = eqb (rotated n (rotated ((8 - n) % 8) k)) k

-- a byte rotated by all eight places is itself: tried at every count and every byte
rotated-rotated : (n k : ℕ) → n < 8 → k < 256 → rotated n (rotated ((8 - n) % 8) k) ≡ k
rotated-rotated n k hn hk = (Decides-eqb _ _).0 (every_at 256 (turns n) (every_at 8 (λ m. every 256 (turns m)) refl n hn) k hk)

pub returns-then-is_all : goal.returns-then-is_all
returns-then-is_all c =
    let xs = number c.args.xs in
    let n = c.args.by % 8 in
    let every_byte = same_from_number xs (2 ^ 256 - 1) Every (c.is_all.ensures.0 c.if-is_all.true) in_all in (
      (λ k h.
          let a = rotated ((8 - n) % 8) k in
          (a, (every_byte.1 a (omega arith), sym (rotated-rotated n k (omega arith) (every_byte.0 k h))))),
      (λ k (a, (h, e)). every_byte.1 k (omega (arith, e))),
    )
