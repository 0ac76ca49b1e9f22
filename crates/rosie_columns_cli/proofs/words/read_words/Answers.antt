use Rattle.std.proofs.Common.{ap, ◌∙◌}
use Rattle.std.specs.Prelude.{string_bytes}
use Rattle.std.proofs.lemmas.Result.{err_from_is_err_and}
use Rattle.rosie_columns_cli.specs.Words.{all_taken, start, words_of}
use Rattle.rosie_columns_cli.proofs.Reading.{word_fault, word_on, words_err, words_ok}
use Rattle.rosie_columns_cli.proofs.words.read_words.Goals as goal

pub loop-word-init : goal.loop-word-init
loop-word-init c = ap (λ r. all_taken r (words_of c.args.words.now)) c.new-reader.ensures

pub loop-word-preserved : goal.loop-word-preserved
loop-word-preserved c =
    let words = c.args.words.now in
    let is = c.as_str.ensures.value ∙ ap string_bytes c.word-item.is in
    word_on words c.loop-word.word-index c.word-item.result c.as_str.result.now c.loop-word.reader c.take.new.self
    (all_taken start (words_of words)) c.loop-word-test.true is c.in_ok-take.ensures.ok c.loop-word.invariant

pub returns-in_err-take-clause-fault : goal.returns-in_err-take-clause-fault
returns-in_err-take-clause-fault c =
    let words = c.args.words.now in
    let is = c.as_str.ensures.value ∙ ap string_bytes c.word-item.is in
    let p = err_from_is_err_and c.from_residual.result c.from_residual.ensures.1 in
    rw (p.1, p.2)
    (λ known. word_fault words c.loop-word.word-index c.word-item.result c.as_str.result.now c.loop-word.reader
    c.in_err-take.field-0.0 c.loop-word-test.true is (c.in_err-take.ensures.fault known) c.loop-word.invariant)

pub returns-clause-ok : goal.returns-clause-ok
returns-clause-ok c =
    words_ok c.args.words.now c.loop-word.word-index c.loop-word.reader c.last_of.result.now c.finish.result
    c.loop-word-test.false c.loop-word.invariant c.last_of.ensures c.finish.ensures.ok

pub returns-clause-fault : goal.returns-clause-fault
returns-clause-fault c =
    words_err c.args.words.now c.loop-word.word-index c.loop-word.reader c.last_of.result.now c.finish.result
    c.loop-word-test.false c.loop-word.invariant c.last_of.ensures c.finish.ensures.fault
