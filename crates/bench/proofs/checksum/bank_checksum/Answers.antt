-- The numbers 0 to 255 come in order, so the ports do.
use Rattle.std.proofs.Common.{rules, ◌≡◌, ℕ, ◌+◌, ◌<◌, ◌-◌, length, false, Some, slice_index_or, ap, sym, ◌∙◌, arith}
use Rattle.std.specs.Range.{range_inclusive_start, range_inclusive_end, range_inclusive_exhausted}
use Rattle.std.proofs.iter.runs.Sources.{inclusive_listed}
use Rattle.banks.specs.Ports.{port_at}
use Rattle.bench.proofs.Folds.{with_port, fold_ports}
use Rattle.bench.proofs.checksum.bank_checksum.Goals as goal

pub returns : goal.returns
returns c =
    let ps = c.args.bank.now.ports in
    let run = c.fold.ensures.runs in
    let p = run.0 in
    let counts = inclusive_listed p p.seen in
    let fresh : range_inclusive_exhausted p.from ≡ false = ap range_inclusive_exhausted run.1 ∙ c.new.ensures.exhausted in
    let listed = counts.4 fresh in
    let start : counts.0 ≡ 0 = counts.2 ∙ (ap range_inclusive_start run.1 ∙ c.new.ensures.start) in
    let end : counts.1 ≡ 256 = counts.3 ∙ ap (λ n. n + 1) (ap range_inclusive_end run.1 ∙ c.new.ensures.end) in
    let whole : p.len ≡ counts.1 - counts.0 = listed.0.1 run.2 in
    let all : length p.items ≡ length ps = omega (arith, p.long, c.args.bank.now.full) in
    let in_order : (k : ℕ) → k < length p.items → slice_index_or p.items k 0 ≡ k
    = λ k lt.
    let below : k < p.len = omega (arith, p.long) in
    let here : Some (slice_index_or p.items k 0) ≡ Some (counts.0 + k) = sym (p.reads k 0 below) ∙ listed.0.3 k below in
    let same : slice_index_or p.items k 0 ≡ counts.0 + k = cc in
    omega arith in
    run.3 (with_port ps) (λ x y r f called. search rules)
    ∙ fold_ports ps ps p.items _ all (λ k lt. ap (port_at ps) (in_order k lt))
