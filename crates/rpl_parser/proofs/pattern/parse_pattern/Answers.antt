use Rattle.std.proofs.Common.{subst, sym}
use Rattle.rpl_lexer.proofs.Cuts.{tokens_stand}
use Rattle.rpl_parser.specs.Tokens.{AllStand}
use Rattle.rpl_parser.proofs.pattern.parse_pattern.Goals as goal

pub read_pattern-requires : goal.read_pattern-requires
read_pattern-requires c =
    subst (AllStand c.args.text.now) (sym c.as_slice.ensures)
    (λ i t e. tokens_stand c.args.text.now c.args.tokens.now i t c.requires e)
