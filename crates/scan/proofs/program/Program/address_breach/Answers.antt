use Rattle.std.proofs.Common.{◌≡◌, ℕ, ◌+◌, List, length, length-append, ◌∷◌, [], Option, rules, refl, sym, ap, subst, arith}
use Rattle.std.specs.List.{range_with_len}
use Rattle.std.proofs.lemmas.List.FromFn.{length-range_with_len}
use Rattle.std.proofs.iter.Yields.{nat_range_steps}
use Rattle.std.proofs.lemmas.Fn.{fold_over}
use Rattle.std.proofs.lemmas.Iterator.{YieldsList-from_range}
use Rattle.flow.specs.declared.breach.Breach.{Breach}
use Rattle.flow.specs.Entries.{allows}
use Rattle.scan.specs.Signs.{earlier, ShownBelow, ReachedShows}
use Rattle.scan.specs.Verdicts.{First}
use Rattle.scan.proofs.Closures.{range_back}
use Rattle.scan.proofs.Shown.{meant_inside, span_short, shown_none, shown_word, shown_all}
use Rattle.scan.proofs.program.Program.address_breach.Goals as goal

pub overflow_add-end : goal.overflow_add-end
overflow_add-end g c = omega (arith, span_short c.instruction_at-here.result c.args.p)

pub returns : goal.returns
returns g c =
    let grants = c.args.self.now.masks.grants.now in
    let o = g.K.Operand.operations in
    let s = allows o c.args.held.now in
    let code = c.args.self.now.code.now in
    let p = c.args.p in
    let here = c.instruction_at-here.result in
    let first = c.first_target-first.result in
    let count = c.target_count.result in
    let all = range_with_len first count in
    let many = length-range_with_len first count in
    let J : List ℕ → Option Breach → Type 0 = λ ys found. ys ≡ range_with_len first (length ys) → First (ShownBelow o code grants s p here (first + length ys)) found in
    let found : First (ShownBelow o code grants s p here (first + length all)) c.fold.result = fold_over nat_range_steps (λ x. x) _ J _
    (λ ys a x b f' j called.
    let word : (w : Option Breach) × ((b ≡ earlier a w) × First (ReachedShows o code grants s p here x) w) = search rules in (
      (λ e. let r = range_back first ys x e in
          let h = shown_word o code grants s p here (first + length ys) a word.0 b word.1.0 (j r.0) (subst (λ y. First (ReachedShows o code grants s p here y) word.0) r.1 word.1.1) in
          subst (λ n. First (ShownBelow o code grants s p here n) b) (omega (arith, length-append ys (x ∷ []))) h),
      search rules,
    ))
    (record { start = first; end = first + count }) all c.here_breach.result c.fold.result (YieldsList-from_range first (first + count) count refl (omega arith)).runs
    (λ e. shown_none o code grants s p here (first + 0) c.here_breach.result (omega (arith, c.first_target-first.ensures)) c.here_breach.ensures)
    c.fold.ensures.ran (ap (range_with_len first) (sym many)) in
    shown_all o code grants s p here (first + length all) c.fold.result
    (meant_inside code p here c.requires c.instruction_at-here.ensures) (omega (arith, many, c.first_target-first.ensures, c.target_count.ensures)) found
