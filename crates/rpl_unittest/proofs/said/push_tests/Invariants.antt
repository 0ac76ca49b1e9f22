use Rattle.std.proofs.Common.{◌≡◌, ◌++◌, drop, map}
use Rattle.rpl_unittest.specs.inside.Words.{words_seen, texts_in, test_for}
use Rattle.rpl_unittest.proofs.said.push_tests.Given as goal

-- what is added, with the tests of the words that are left, is the whole
abbrev pub invariant-loop-word : goal.invariant-loop-word
invariant-loop-word l =
    l.tests ++ map (test_for l.line l.asked) (texts_in (words_seen (drop l.word-index l.word-items)))
    ≡ l.fn.tests ++ map (test_for l.line l.asked) (texts_in (words_seen l.asked.texts.now))
