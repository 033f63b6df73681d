use Rattle.std.proofs.Common.{◌+◌, ◌≡◌, ◌∙◌, ap, rules}
use Rattle.words.specs.Words.{permitted_below}
use Rattle.word_list.proofs.Counting.{counted_none, counted_more}
use Rattle.word_list.proofs.write_words.Goals as goal

pub loop-word-init : goal.loop-word-init
loop-word-init g c = counted_none

pub loop-word-preserved : goal.loop-word-preserved
loop-word-preserved g c = counted_more _ _ _ _ c.loop-word.invariant c.counted-permitted.ensures c.from-line.ensures.2

pub returns-in_ok-writeln : goal.returns-in_ok-writeln
returns-in_ok-writeln g c =
    let last : c.loop-word.word + 1 ≡ 65536 = search rules in
    (counted_more _ _ _ _ c.loop-word.invariant c.counted-permitted.ensures c.from-line.ensures.2).0 ∙ ap permitted_below last
