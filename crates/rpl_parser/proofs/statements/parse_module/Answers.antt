use Rattle.std.proofs.Common.{subst, sym}
use Rattle.rpl_lexer.proofs.Cuts.{tokens_stand}
use Rattle.rpl_parser.specs.Tokens.{AllStand}
use Rattle.rpl_parser.specs.Walks.{module_of}
use Rattle.rpl_parser.specs.Answers.{Answers}
use Rattle.rpl_parser.proofs.Modules.{answers_ok, answers_err}
use Rattle.rpl_syntax.specs.Modules.{said}
use Rattle.rpl_parser.proofs.statements.parse_module.Goals as goal

pub read_all-requires : goal.read_all-requires
read_all-requires c =
    subst (AllStand c.args.text.now) (sym c.as_slice.ensures)
    (λ i t e. tokens_stand c.args.text.now c.args.tokens.now i t c.requires e)

pub returns-clause-ok : goal.returns-clause-ok
returns-clause-ok c =
    let s = c.args.text.now in
    answers_ok s c.args.tokens.now c.read_all.result (subst (λ ts. Answers said c.read_all.result (module_of s ts))
    c.as_slice.ensures c.read_all.ensures)

pub returns-clause-err : goal.returns-clause-err
returns-clause-err c =
    let s = c.args.text.now in
    answers_err s c.args.tokens.now c.read_all.result (subst (λ ts. Answers said c.read_all.result (module_of s ts))
    c.as_slice.ensures c.read_all.ensures)
