use Rattle.word_list.proofs.Counting.{Counted}
use Rattle.word_list.proofs.write_words.Given as goal

abbrev pub invariant-loop-word : goal.invariant-loop-word
invariant-loop-word g l = Counted l.word l.permitted
