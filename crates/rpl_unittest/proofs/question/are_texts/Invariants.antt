use Rattle.std.proofs.Common.{◌≡◌, true, drop}
use Rattle.rpl_unittest.specs.inside.Words.{words_seen, are_texts}
use Rattle.rpl_unittest.proofs.question.are_texts.Given as goal

abbrev pub invariant-loop-word : goal.invariant-loop-word
invariant-loop-word l =
    are_texts l.wants_text (words_seen (drop l.word-index l.words)) ≡ are_texts true (words_seen l.words)
