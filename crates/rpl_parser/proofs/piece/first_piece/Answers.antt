use Rattle.std.proofs.Common.{◌-◌, length, drop, arith}
use Rattle.std.proofs.lemmas.List.{length-drop}
use Rattle.rpl_lexer.specs.declared.token.Token.{Token}
use Rattle.rpl_lexer.specs.declared.token.TokenKind.TheVariants as K
use Rattle.rpl_parser.proofs.Deep.{stands_at}
use Rattle.rpl_parser.proofs.Walking.{stands_drop, stands_take}
use Rattle.rpl_parser.proofs.piece.first_piece.Goals as goal

abbrev none : Token
none = record { kind = K.Name; start = 0; end = 0 }

pub front_len-requires-clause-first : goal.front_len-requires-clause-first
front_len-requires-clause-first c =
    stands_at c.args.text.now c.args.tokens.now 0 none c.requires c.in-len1-up.len_at_least

pub front_len-requires-clause-stands : goal.front_len-requires-clause-stands
front_len-requires-clause-stands c =
    let ts = c.args.tokens.now in
    let l = length-drop 1 ts in
    stands_take c.args.text.now (drop 1 ts) (length ts - 1) (omega (arith, l))
    (stands_drop c.args.text.now ts 1 c.requires)
