use Rattle.std.proofs.Common.{◌≡◌, ◌+◌, ◌*◌, ◌<◌, ◌/◌, [], get_or, length, refl, ap, subst, arith}
use Rattle.image.specs.Entries.{IsRefused}
use Rattle.std.proofs.lemmas.Result.{err_from_is_err_and}
use Rattle.image.specs.Files.{count_of_grants, entry_place}
use Rattle.image.proofs.Ranks.{Tried, tried_none, tried_more, tried_all, first_refused, entry_of_part, key_of_entry, refused_of_entry, grants_length}
use Rattle.image.proofs.entries.try_entries.Goals as goal

pub loop-k-init : goal.loop-k-init
loop-k-init c file clear grants = tried_none file clear

pub overflow_add-least_key : goal.overflow_add-least_key
overflow_add-least_key c = omega (arith, c.in_ok-key.ensures.bound)

pub returns-in_err-key : goal.returns-in_err-key
returns-in_err-key c file clear grants =
    let inside : c.loop-k.k < length c.bytes.result.now / 4 = omega (arith, c.loop-k-test.true, c.as_chunks.ensures.front_len) in
    let entry = entry_of_part file c.args.grants c.bytes.result.now c.as_chunks.result.0.now c.loop-k.k grants c.bytes.ensures c.as_chunks.ensures.front inside in
    let at : c.place-start.result + 4 * c.loop-k.k ≡ entry_place file c.loop-k.k = omega (arith, c.place-start.ensures, entry.1) in
    let refused : IsRefused (get_or c.as_chunks.result.0.now c.loop-k.k []) 0 (entry_place file c.loop-k.k) c.loop-k.least_key c.in_err-key.field-0.0 =
    subst (λ p. IsRefused (get_or c.as_chunks.result.0.now c.loop-k.k []) 0 p c.loop-k.least_key c.in_err-key.field-0.0) at c.in_err-key.ensures.value in
    let p = err_from_is_err_and c.from_residual.result c.from_residual.ensures.1 in
    rw (p.1, p.2) (first_refused file c.loop-k.k c.loop-k.least_key (entry_place file c.loop-k.k) _ refl entry.0 (c.loop-k.invariant file clear grants) (refused_of_entry file _ _ _ _ entry.2 refused))

pub loop-k-preserved : goal.loop-k-preserved
loop-k-preserved c file clear grants =
    let inside : c.loop-k.k < length c.bytes.result.now / 4 = omega (arith, c.loop-k-test.true, c.as_chunks.ensures.front_len) in
    let entry = entry_of_part file c.args.grants c.bytes.result.now c.as_chunks.result.0.now c.loop-k.k grants c.bytes.ensures c.as_chunks.ensures.front inside in
    tried_more file c.loop-k.k c.loop-k.least_key (entry_place file c.loop-k.k) _ refl (c.loop-k.invariant file clear grants) (key_of_entry file _ _ _ _ entry.2 c.in_ok-key.ensures.value)

pub returns : goal.returns
returns c file clear grants =
    let all : c.loop-k.k ≡ count_of_grants file = omega (arith, c.loop-k-test.false, c.loop-k.auto.k-end, c.as_chunks.ensures.front_len, ap length c.bytes.ensures, grants_length file _ _ _ grants) in
    tried_all file c.loop-k.least_key (subst (λ k. Tried file k c.loop-k.least_key) all (c.loop-k.invariant file clear grants))
