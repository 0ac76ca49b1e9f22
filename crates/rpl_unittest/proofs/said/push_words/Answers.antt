use Rattle.rpl_unittest.proofs.Texts.{no_texts, some_texts}
use Rattle.rpl_unittest.proofs.said.push_words.Goals as goal

pub returns-then-not-are_texts : goal.returns-then-not-are_texts
returns-then-not-are_texts c =
    no_texts c.args.line c.args.tests.now c.args.tests.now c.in-Some.asked _ c.are_texts.result c.in-Some.ensures
    c.are_texts.ensures c.if-not-are_texts.true

pub returns-in_ok-push_tests-in-Some : goal.returns-in_ok-push_tests-in-Some
returns-in_ok-push_tests-in-Some c =
    some_texts c.args.line c.args.tests.now c.push_tests.new.tests c.in-Some.asked _ c.are_texts.result
    c.in-Some.ensures c.are_texts.ensures c.if-not-are_texts.false c.in_ok-push_tests-in-Some.ensures
