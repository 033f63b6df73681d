-- A table that keeps the rules and has no breach keeps its promise. Assumes nothing.
use Rattle.std.proofs.Common.{◌≡◌, ℕ, ◌%◌, ◌<◌, List, [], ◌∷◌, length, get_or, sym, refl, ◌∙◌, subst, arith, length-set, get_or-set_other, get_or-set_same}
use Rattle.instructions.specs.declared.field.Side.{Side}
use Rattle.instructions.specs.declared.field.Side.TheVariants.{Left, Right}
use Rattle.words.specs.Code.{words_in}
use Rattle.operands.specs.Operations.{Operations, Lawful}
use Rattle.banks.specs.Ports.{Ports}
use Rattle.engine.specs.States.{Core, State, ports_of}
use Rattle.engine.specs.Cycles.{fresh}
use Rattle.flow.specs.Tables.{Table}
use Rattle.flow.specs.Breaches.{Meets}
use Rattle.calls.specs.Calls.{Call, Lone, lone_ports}
use Rattle.calls.specs.Promise.{Withheld, Keeps, Promise}
use Rattle.calls.proofs.Ports.{here_and_elsewhere, Alongside, alongside_itself}
use Rattle.calls.proofs.Standing.{Stands, stands_held, stands_start}
use Rattle.calls.proofs.Calls.{call_keeps}

-- the registers of a new machine are bytes, and R10 is a bit
fresh_carry : (registers : List ℕ) → length registers ≡ 16 → get_or (fresh registers).registers 8 0 ≡ get_or registers 8 0 % 2
fresh_carry registers size = get_or-set_same registers 8 (get_or registers 8 0 % 2) 0 (omega arith)

fresh_small : (registers : List ℕ) → length registers ≡ 16 → ((k : ℕ) → get_or registers k 0 < 256) → (r : ℕ) → get_or (fresh registers).registers r 0 < 256
fresh_small registers size small =
    here_and_elsewhere (λ r. get_or (fresh registers).registers r 0 < 256) 8
    (omega (arith, fresh_carry registers size))
    (λ r e. subst (λ b. b < 256) (sym (get_or-set_other registers 8 r (get_or registers 8 0 % 2) 0 e)) (small r))

-- the lone banks begin as the banks stand
banks_begin : (grants : List ℕ) (core : Core) (left right : Ports) (side : Side) → Alongside (Withheld grants side) (ports_of side (record { core = core; left = left; right = right })) (lone_ports side (record { left = left; right = right }))
banks_begin grants core left right Left = alongside_itself (Withheld grants Left) left
banks_begin grants core left right Right = alongside_itself (Withheld grants Right) right

module _ {K : Type 0} (o : Operations K) (l : Lawful o) (code grants : List ℕ) (t : Table K) where
  calls_keep : (m : Meets o code grants t) (calls : List Call) (st : State) (lone : Lone) → Stands o code grants t st lone → Keeps o code grants t calls st lone
  calls_keep m [] st lone g = stands_held o l code grants t st lone g
  calls_keep m (call ∷ calls) st lone g =
      let one = call_keeps o l code grants t m call st lone g in
      (stands_held o l code grants t st lone g, one.0, calls_keep m calls _ _ one.1)

  pub promise_kept : 0 < words_in code → Meets o code grants t → Promise o code grants t
  promise_kept full m registers size small left right calls =
      calls_keep m calls _ _
      (stands_start o l code grants t (record { core = fresh registers; left = left; right = right }) (record { left = left; right = right }) m.rules full refl refl
      (length-set registers 8 _ ∙ size)
      (λ r h. fresh_small registers size small r)
      (omega (arith, fresh_carry registers size))
      (banks_begin grants (fresh registers) left right))
