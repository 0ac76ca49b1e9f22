use Rattle.rpl_package.proofs.Readings.{no_tokens, no_module}
use Rattle.rpl_package.proofs.reading.parse.Goals as goal

pub returns-in-Err : goal.returns-in-Err
returns-in-Err c =
    no_tokens c.lex_stop.result c.args.file.now c.args.text.now c.in-Err.fault
    (λ n. c.cut_computes.ensures.fails c.args.text.now c.in-Err.fault (c.in-Err.ensures.fault n))
    c.lex_stop.ensures.fault c.lex_stop.ensures.memory

pub returns : goal.returns
returns c =
    let ts = c.in-Ok.tokens in
    no_module c.parse_stop.result c.args.file.now c.args.text.now ts c.in-Err-parse_module.fault
    (c.cut_computes.ensures.cuts c.args.text.now ts c.in-Ok.ensures.tokens)
    (λ n. c.one_module.ensures.refused c.args.text.now ts c.in-Err-parse_module.fault
    (c.in-Err-parse_module.ensures.err n)) c.parse_stop.ensures.fault c.parse_stop.ensures.memory
