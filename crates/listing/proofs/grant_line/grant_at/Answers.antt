use Rattle.std.proofs.Common.{◌≡◌, ◌*◌, ◌<◌, ◌/◌, cond, nat_eq, [], length, get_or, ap, ◌∙◌, arith}
use Rattle.instructions.specs.declared.field.Side.TheVariants.{Left, Right}
use Rattle.image.proofs.Chunks.{chunk_byte}
use Rattle.listing.proofs.grant_line.grant_at.Goals as goal

pub returns : goal.returns
returns c =
    let g = c.args.grants.now in
    let k = c.args.entry in
    let front = c.as_chunks.ensures.front in
    let found = c.in_ok-bank.ensures.lookup.3 in
    let inside : k < length g / 4 = omega (arith, found.0, c.as_chunks.ensures.front_len) in
    let at : c.in_ok-bank.field-0.now ≡ get_or c.as_chunks.result.0.now k [] = found.1 [] in
    let bank : get_or c.in_ok-bank.field-0.now 0 0 ≡ get_or g (4 * k) 0 = ap (λ e. get_or e 0 0) at ∙ chunk_byte g _ _ k 0 _ front inside (omega arith) (omega arith) in
    record {
      inside = inside;
      side = c.side_of.ensures ∙ ap (λ b. cond (nat_eq b 0) Left Right) bank;
      port = ap (λ e. get_or e 1 0) at ∙ chunk_byte g _ _ k 1 _ front inside (omega arith) (omega arith);
      mask = ap (λ e. get_or e 2 0) at ∙ chunk_byte g _ _ k 2 _ front inside (omega arith) (omega arith);
    }
