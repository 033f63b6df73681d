use Rattle.std.proofs.Common.{◌≡◌, ◌+◌, ◌*◌, ◌<◌, ◌/◌, [], get_or, length, sym, subst, arith}
use Rattle.std.proofs.lemmas.Bool.Decides.{nat_tests}
use Rattle.image.specs.Grants.{mask_of, IsMask}
use Rattle.image.proofs.Chunks.{chunk_byte}
use Rattle.image.proofs.Masks.{is_mask_mask_of, mask_among_none, mask_among_more}
use Rattle.image.proofs.grants.mask.Goals as goal

pub loop-its_bank-init : goal.loop-its_bank-init
loop-its_bank-init c = sym (mask_among_none _ _ _)

pub loop-its_bank-preserved : goal.loop-its_bank-preserved
loop-its_bank-preserved c =
    let g = c.args.grants.now in
    let k = c.loop-its_bank.its_bank-index in
    let found = c.as_chunks.result.0.now in
    let inside : k < length g / 4 = omega (arith, c.loop-its_bank-test.true, c.as_chunks.ensures.front_len) in
    let bank : get_or (get_or found k []) 0 0 ≡ get_or g (4 * k) 0 = chunk_byte g found _ k 0 _ c.as_chunks.ensures.front inside (omega arith) (omega arith) in
    let port : get_or (get_or found k []) 1 0 ≡ get_or g (4 * k + 1) 0 = chunk_byte g found _ k 1 _ c.as_chunks.ensures.front inside (omega arith) (omega arith) in
    let mask : get_or (get_or found k []) 2 0 ≡ get_or g (4 * k + 2) 0 = chunk_byte g found _ k 2 _ c.as_chunks.ensures.front inside (omega arith) (omega arith) in
    grind (arith, nat_tests, mask_among_more)

pub returns-clause-entry : goal.returns-clause-entry
returns-clause-entry c =
    let g = c.args.grants.now in
    let same : c.loop-its_bank.found ≡ mask_of g c.args.side c.args.port = grind arith in
    subst (IsMask g c.args.side c.args.port) (sym same) (is_mask_mask_of g c.args.side c.args.port)
