use Rattle.std.proofs.Common.{[], ap, ◌∙◌, rules}
use Rattle.std.specs.Prelude.{◌≢◌}
use Rattle.rpl_lexer.specs.declared.fault.LexKind.TheVariants.{NoMemory as OutOfMemory}
use Rattle.rpl_unittest.specs.inside.Words.{words_seen}
use Rattle.rpl_unittest.proofs.Told.{failed, told}
use Rattle.rpl_unittest.proofs.said.push_comment.Goals as goal

pub returns-in_ok-words-in-Ok : goal.returns-in_ok-words-in-Ok
returns-in_ok-words-in-Ok c =
    told c.args.line c.args.rest.now _ _ _ c.push_words.result (words_seen c.deref.result.now) c.in-Ok.ensures.tokens
    (ap words_seen c.deref.ensures.value ∙ c.in_ok-words-in-Ok.ensures) c.push_words.ensures

pub returns-else-eq : goal.returns-else-eq
returns-else-eq c =
    let other : c.in-Err.fault.kind ≢ OutOfMemory = search rules in
    failed c.args.line c.args.rest.now [] [] c.in-Err.fault.at c.in-Err.fault.kind (c.in-Err.ensures.fault other)
