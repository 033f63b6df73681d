use Rattle.std.proofs.Common.{◌≡◌, ◌*◌, get_or, take, ap, ◌∙◌, subst, arith}
use Rattle.std.proofs.lemmas.List.{get_or-take, get_or-drop}
use Rattle.instructions.specs.declared.field.Side.TheVariants.{Left, Right}
use Rattle.flow.specs.Tables.{has_mark}
use Rattle.flow.specs.Entries.{Entered}
use Rattle.flow.specs.declared.entry.Entry.{Entry}
use Rattle.flow.proofs.memory.entry_at.Goals as goal

pub returns-clause-entry : goal.returns-clause-entry
returns-clause-entry g c e h =
    let o = g.K.Operand.operations in
    let p = c.args.address in
    let status = c.args.status.now in
    let operands = c.args.operands.now in
    let found = c.in_ok-get.ensures.lookup.3 in
    let byte : c.in_ok-get.field-0.now ≡ get_or status p 0 = found.1 0 in
    let part = c.in_ok-get-2.ensures.lookup.0 in
    let chunk = c.in_ok-operands.ensures.cases in
    let made : Entry g.row.K.Denot = record { operands = c.in_ok-operands.operands.now; left = c.may_be_unready.result; right = c.may_be_unready-2.result } in
    let same : made ≡ e = cc in (
      (found.0, omega (arith, chunk.enough, part.3)),
      subst (λ (x : Entry g.row.K.Denot). Entered o status operands p x) same
          (record {
            operand = λ r lt.
                ap (λ xs. get_or xs r o.some) (chunk.same ∙ ap (λ xs. take 16 xs) part.2)
                ∙ get_or-take 16 _ r o.some lt ∙ get_or-take _ _ r o.some (omega (arith, chunk.enough, part.3)) ∙ get_or-drop (16 * p) operands r o.some;
            left = c.may_be_unready.ensures ∙ ap (has_mark Left) byte;
            right = c.may_be_unready-2.ensures ∙ ap (has_mark Right) byte;
          }),
    )
