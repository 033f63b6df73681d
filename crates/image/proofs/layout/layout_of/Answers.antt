use Rattle.std.proofs.Common.{◌≡◌, ◌≤◌, ◌+◌, ◌*◌, max, arith, rules, length}
use Rattle.image.specs.Files.{start_of_code, start_of_grants, word_count, count_of_grants}
use Rattle.image.specs.Reading.{IsHeader}
use Rattle.image.proofs.layout.layout_of.Goals as goal

-- the later of the two starts is a byte of both parts
pub returns-then-grant_start-code_start : goal.returns-then-grant_start-code_start
returns-then-grant_start-code_start c =
    let file = c.args.file.now in
    let header : IsHeader file c.in_ok-format.field-0 = search rules in
    let ends : start_of_code file + 2 * word_count file ≤ length file = search rules in
    let size : length c.in_ok-code.code.now ≡ 2 * word_count file = grind arith in
    let sizes : length c.in_ok-grants.grants.now ≡ 4 * count_of_grants file = grind arith in
    ((max (start_of_code file) (start_of_grants file), omega arith, omega arith, omega arith, omega arith), grind arith)

pub returns : goal.returns
returns c =
    let file = c.args.file.now in
    let header : IsHeader file c.in_ok-format.field-0 = grind arith in
    (grind arith, record { code = grind arith; grants = grind arith })
