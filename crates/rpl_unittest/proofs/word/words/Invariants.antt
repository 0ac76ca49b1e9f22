use Rattle.std.proofs.Common.{◌≡◌, take}
use Rattle.std.specs.Prelude.{map}
use Rattle.rpl_unittest.specs.Comments.{word_in}
use Rattle.rpl_unittest.specs.inside.Words.{words_seen}
use Rattle.rpl_unittest.proofs.word.words.Given as goal

abbrev pub invariant-loop-token : goal.invariant-loop-token
invariant-loop-token l = words_seen l.words.items ≡ map (word_in l.text) (take l.token-index l.token-items)
