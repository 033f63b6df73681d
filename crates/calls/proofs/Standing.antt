-- What stands between any two calls, and stands at the start. Assumes nothing.
use Rattle.std.proofs.Common.{◌≡◌, ℕ, ◌%◌, ◌<◌, true, eqb, ltb, ◌⊎◌, List, length, get_or, sym, ap, ◌∙◌, subst, inl, ⊎_elim, arith}
use Rattle.std.proofs.lemmas.Bool.{cases_eq, lt-ltb, eq-eqb, ne_eqb}
use Rattle.instructions.specs.declared.field.Side.{Side}
use Rattle.instructions.specs.declared.field.Side.TheVariants.{Left, Right}
use Rattle.words.specs.Code.{words_in}
use Rattle.operands.specs.Bytes.{Every}
use Rattle.operands.specs.Bytes.One.{keep}
use Rattle.operands.specs.Operations.{Operations, Lawful}
use Rattle.engine.specs.States.{Core, State, ports_of}
use Rattle.flow.specs.States.{Unready, start_register, start}
use Rattle.flow.specs.Ways.{RunsAt}
use Rattle.flow.specs.Tables.{Table, holds, Rules}
use Rattle.flow.proofs.Parts.{same_then, same_else, seen_register}
use Rattle.calls.specs.Calls.{Lone, lone_ports}
use Rattle.calls.specs.Promise.{Withheld, Held}
use Rattle.calls.proofs.Ports.{Alongside}
use Rattle.calls.proofs.Stores.{Allowed, allowed_more}

-- what is held; beside it the banks' marks, the bit in R10, all ports, and that the word at the address register may run
pub record Stands {K : Type 0} (o : Operations K) (code grants : List ℕ) (t : Table K) (st : State) (lone : Lone) : Type 0 where
  pub pc_inside : st.core.pc < words_in code
  pub ar_inside : st.core.ar < words_in code
  pub entered : t.entry st.core.pc ≡ true
  pub allowed : Allowed (holds o t st.core.pc) st.core
  pub carry : get_or st.core.registers 8 0 < 2
  pub banks : (side : Side) → Alongside (Withheld grants side) (ports_of side st) (lone_ports side lone)
  pub aimed : (st.core.ar ≡ st.core.pc) ⊎ RunsAt o code (holds o t st.core.pc) st.core.pc st.core.ar

module _ {K : Type 0} (o : Operations K) (l : Lawful o) where
  start_unready : (side : Side) → Unready side (start o)
  start_unready Left = tt
  start_unready Right = tt

  -- any bytes are allowed at the start, and in R10 a bit
  allowed_start : (c : Core) → length c.registers ≡ 16 → ((r : ℕ) → r < 16 → get_or c.registers r 0 < 256) → get_or c.registers 8 0 < 2 → Allowed (start o) c
  allowed_start c size small carry =
      let low = o.ones (keep 1) Every in
      let b = get_or c.registers 8 0 in
      let unit : b % 2 ≡ b = omega arith in
      record {
        size = size;
        members = λ r h. (same_then (ltb r 16) (start_register o r) (λ n. Unit {0}) (lt-ltb r 16 h)).0 _
            (⊎_elim
            (λ e. (same_then (eqb r 8) low Every (eq-eqb r 8 e)).0 _
            (subst (λ k. low (get_or c.registers k 0)) (sym e) (subst low unit (l.one_has (keep 1) Every b (omega arith) (omega arith)))))
            (λ e. (same_else (eqb r 8) low Every (ne_eqb r 8 e)).0 _ (small r h))
            (cases_eq r 8));
        marks = λ side e. start_unready side;
      }

  module _ (code grants : List ℕ) (t : Table K) (st : State) (lone : Lone) where
    stands_member : Stands o code grants t st lone → (r : ℕ) → r < 16 → o.has (t.cell st.core.pc r) (get_or st.core.registers r 0)
    stands_member g r h =
        let p = st.core.pc in
        (seen_register o (t.cell p) (t.left p) (t.right p) r h).1 _ (g.allowed.members r h)

    pub stands_small : Stands o code grants t st lone → (r : ℕ) → r < 16 → get_or st.core.registers r 0 < 256
    stands_small g r h = l.bytes (t.cell st.core.pc r) _ (stands_member g r h)

    pub stands_held : Stands o code grants t st lone → Held o code grants t st lone
    stands_held g =
        record {
          pc_inside = g.pc_inside;
          ar_inside = g.ar_inside;
          entered = g.entered;
          members = stands_member g;
          withheld = λ side k j w. ((g.banks side).ports k).1 j w;
        }

    -- with both addresses 0
    pub stands_start : Rules o code t → 0 < words_in code → st.core.pc ≡ 0 → st.core.ar ≡ 0 → length st.core.registers ≡ 16 → ((r : ℕ) → r < 16 → get_or st.core.registers r 0 < 256) → get_or st.core.registers 8 0 < 2 → ((side : Side) → Alongside (Withheld grants side) (ports_of side st) (lone_ports side lone)) → Stands o code grants t st lone
    stands_start rules full zp za size small carry banks =
        record {
          pc_inside = omega arith;
          ar_inside = omega arith;
          entered = ap t.entry zp ∙ rules.starts;
          allowed = subst (λ p. Allowed (holds o t p) st.core) (sym zp) (allowed_more (start o) (holds o t 0) st.core rules.allows_start (allowed_start st.core size small carry));
          carry = carry;
          banks = banks;
          aimed = inl (za ∙ sym zp);
        }
