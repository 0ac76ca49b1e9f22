use Rattle.std.proofs.Common.{ap, sym, ◌∙◌}
use Rattle.std.specs.Prelude.{Ok}
use Rattle.rpl_syntax.specs.View.{expr_of}
use Rattle.rpl_package.proofs.Sought.{no_tokens, no_pattern, read_pattern, reads_pattern, lex_loud, parse_loud}
use Rattle.rpl_package.proofs.pattern.read_pattern.Goals as goal

pub returns-in-Err-clause-gives : goal.returns-in-Err-clause-gives
returns-in-Err-clause-gives c = λ r h.
    let s = c.args.text.now in
    let e = c.in-Err.fault in
    no_tokens c.args.find s c.lex_stop.result c.args.file.now c.requires e r
    (λ n. c.cut_computes.ensures.fails s e (c.in-Err.ensures.fault n)) c.lex_stop.ensures.fault
    c.lex_stop.ensures.memory h

pub returns-in-Ok-parse_pattern-clause-gives : goal.returns-in-Ok-parse_pattern-clause-gives
returns-in-Ok-parse_pattern-clause-gives c = λ r h.
    let s = c.args.text.now in
    let ts = c.in-Ok.tokens in
    let cut = c.cut_computes.ensures.cuts s ts c.in-Ok.ensures.tokens in
    let x = expr_of c.in-Ok-parse_pattern.e in
    read_pattern c.args.find s ts cut x c.in-Ok-parse_pattern.ensures.ok
    (λ p a b. c.one_pattern.ensures.apart s ts x p a b) (λ y a b. c.one_pattern.ensures.only s ts y x a b) r h
    ∙ sym (ap Ok c.in_ok-sought-in-Ok-parse_pattern.ensures)

pub returns-in-Ok-parse_pattern-clause-reads : goal.returns-in-Ok-parse_pattern-clause-reads
returns-in-Ok-parse_pattern-clause-reads c =
    let s = c.args.text.now in
    let ts = c.in-Ok.tokens in
    let cut = c.cut_computes.ensures.cuts s ts c.in-Ok.ensures.tokens in
    let x = expr_of c.in-Ok-parse_pattern.e in
    reads_pattern c.args.find s ts cut x c.in-Ok-parse_pattern.ensures.ok
    (λ p a b. c.one_pattern.ensures.apart s ts x p a b) (λ y a b. c.one_pattern.ensures.only s ts y x a b)
    _ c.in_ok-sought-in-Ok-parse_pattern.ensures

pub returns-clause-gives : goal.returns-clause-gives
returns-clause-gives c = λ r h.
    let s = c.args.text.now in
    let ts = c.in-Ok.tokens in
    let cut = c.cut_computes.ensures.cuts s ts c.in-Ok.ensures.tokens in
    let e = c.in-Err-parse_pattern.fault in
    no_pattern c.args.find s ts cut c.parse_stop.result c.args.file.now c.requires e
    (λ x a b. c.one_pattern.ensures.apart s ts x e a b) (λ p a b. c.one_pattern.ensures.first s ts p e a b) r
    c.in-Err-parse_pattern.ensures.err c.parse_stop.ensures.fault c.parse_stop.ensures.memory h

pub returns-in-Err-clause-loud : goal.returns-in-Err-clause-loud
returns-in-Err-clause-loud c =
    lex_loud c.lex_stop.result c.args.file.now c.in-Err.fault c.lex_stop.ensures.fault c.lex_stop.ensures.memory

pub returns-clause-loud : goal.returns-clause-loud
returns-clause-loud c =
    parse_loud c.parse_stop.result c.args.file.now c.in-Err-parse_pattern.fault c.parse_stop.ensures.fault
    c.parse_stop.ensures.memory
