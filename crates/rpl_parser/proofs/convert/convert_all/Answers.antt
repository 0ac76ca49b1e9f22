use Rattle.std.proofs.Common.{◌+◌, ◌++◌, ◌∷◌, [], take, drop, get_or, sym, ap, ◌∙◌}
use Rattle.std.proofs.lemmas.List.{take_more}
use Rattle.std.specs.Option.{option_or}
use Rattle.rpl_lexer.specs.declared.token.Token.{Token}
use Rattle.rpl_lexer.specs.declared.token.TokenKind.TheVariants as K
use Rattle.rpl_parser.specs.Tokens.{tokens_of, first_bad}
use Rattle.rpl_parser.proofs.Converted.{tokens_more, bad_more, bad_all}
use Rattle.rpl_parser.proofs.Deep.{stands_at}
use Rattle.rpl_parser.proofs.convert.convert_all.Goals as goal

abbrev none : Token
none = record { kind = K.Name; start = 0; end = 0 }

pub convert-requires : goal.convert-requires
convert-requires c =
    stands_at c.args.text.now c.args.lexemes.now c.loop-lexeme.lexeme-index none c.requires c.loop-lexeme-test.true

pub loop-lexeme-preserved : goal.loop-lexeme-preserved
loop-lexeme-preserved c =
    let s = c.args.text.now in
    let ts = c.args.lexemes.now in
    let i = c.loop-lexeme.lexeme-index in
    let t = get_or ts i none in
    record {
      seen =
          c.in_ok-push.ensures.items
          ∙ (ap (λ x. x ++ c.in_ok-token.token ∷ []) c.loop-lexeme.invariant.seen
          ∙ (ap (λ y. tokens_of s (take i ts) ++ y ∷ []) c.in_ok-token.ensures.token
          ∙ (sym (tokens_more s (take i ts) t)
          ∙ ap (tokens_of s) (sym (take_more ts i none c.loop-lexeme-test.true)))));
      bad =
          ap (λ b. option_or b (first_bad s (drop (i + 1) ts))) c.or-bad.ensures
          ∙ (bad_more s ts i none c.loop-lexeme.bad c.in_ok-token.fault c.loop-lexeme-test.true
          c.in_ok-token.ensures.bad ∙ c.loop-lexeme.invariant.bad);
    }

pub returns-clause-bad : goal.returns-clause-bad
returns-clause-bad c =
    sym (bad_all c.args.text.now c.args.lexemes.now c.loop-lexeme.lexeme-index c.loop-lexeme.bad
    c.loop-lexeme-test.false) ∙ c.loop-lexeme.invariant.bad
