use Rattle.std.proofs.Common.{◌≡◌, take, drop}
use Rattle.std.specs.Option.{option_or}
use Rattle.rpl_parser.specs.Tokens.{tokens_of, first_bad}
use Rattle.rpl_parser.proofs.convert.convert_all.Given as goal

abbrev pub invariant-loop-lexeme : goal.invariant-loop-lexeme
invariant-loop-lexeme l = record {
  seen : l.tokens.items ≡ tokens_of l.text (take l.lexeme-index l.lexemes);
  bad : option_or l.bad (first_bad l.text (drop l.lexeme-index l.lexemes)) ≡ first_bad l.text l.lexemes;
}
