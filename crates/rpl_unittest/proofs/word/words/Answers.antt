use Rattle.std.proofs.lemmas.Option.{slice_get-get_or}
use Rattle.std.proofs.Common.{get_or, subst, sym}
use Rattle.rpl_lexer.proofs.Cuts.{tokens_stand}
use Rattle.rpl_lexer.specs.Cut.{IsCut}
use Rattle.rpl_lexer.specs.declared.token.Token.{Token}
use Rattle.rpl_lexer.specs.declared.token.TokenKind.TheVariants as K
use Rattle.rpl_unittest.proofs.word.words.Goals as goal

abbrev none : Token
none = record { kind = K.Name; start = 0; end = 0 }

pub make_word-requires : goal.make_word-requires
make_word-requires c =
    let s = c.args.text.now in
    let ts = c.as_slice-token-items.result.now in
    let i = c.loop-token.token-index in
    tokens_stand s ts i (get_or ts i none) (subst (λ x. IsCut s x) (sym c.as_slice-token-items.ensures) c.requires)
    (slice_get-get_or ts i none c.loop-token-test.true)
