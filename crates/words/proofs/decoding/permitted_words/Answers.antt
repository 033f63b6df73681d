use Rattle.std.proofs.Common.{◌≡◌, ◌∙◌, rules, tests}
use Rattle.std.specs.List.{range_with_len}
use Rattle.std.proofs.lemmas.List.Sums.{length-filter}
use Rattle.std.proofs.lemmas.Iterator.Consumers.{count_from_yields_List, YieldsList-from_filter, YieldsList-at}
use Rattle.words.specs.Words.{permitted, permitted_below}
use Rattle.words.proofs.Counting.{yields_up_to, counted_all}
use Rattle.words.proofs.decoding.permitted_words.Goals as goal

pub returns : goal.returns
unfolding permitted_below
returns c =
    let counted : c.count.result ≡ permitted_below 65536 =
    count_from_yields_List c.filter.result _ c.count.ensures.ran
    (YieldsList-from_filter _ permitted
    (YieldsList-at c.filter.ensures.source (yields_up_to c.new.result 65535 c.new.ensures.start c.new.ensures.end c.new.ensures.exhausted))
    c.filter.ensures.closure (λ x r q k. search (rules, tests)))
    ∙ length-filter permitted (range_with_len 0 65536) in
    record { counted = counted; value = counted ∙ counted_all }
