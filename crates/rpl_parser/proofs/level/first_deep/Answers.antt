use Rattle.std.proofs.Common.{◌≡◌, ◌≤◌, get_or, refl, sym, ap, ◌∙◌, arith}
use Rattle.std.specs.Prelude.{nat_lt, false}
use Rattle.std.proofs.lemmas.Bool.Decides.{nat_tests}
use Rattle.rpl_lexer.specs.declared.token.Token.{Token}
use Rattle.rpl_lexer.specs.declared.token.TokenKind.TheVariants as K
use Rattle.rpl_parser.specs.Levels.{level_after, reach_by}
use Rattle.rpl_parser.specs.inside.Stacks.{level_of}
use Rattle.rpl_parser.proofs.Deep.{stands_at, low_after, deep_on}
use Rattle.rpl_parser.proofs.level.first_deep.Goals as goal

abbrev none : Token
none = record { kind = K.Name; start = 0; end = 0 }

pub past-requires-clause-stands : goal.past-requires-clause-stands
past-requires-clause-stands c =
    stands_at c.args.text.now c.args.tokens.now c.loop-index.index none c.requires c.loop-index-test.true

pub reach-requires-clause-stands : goal.reach-requires-clause-stands
reach-requires-clause-stands c =
    stands_at c.args.text.now c.args.tokens.now c.loop-index.index none c.requires c.loop-index-test.true

pub loop-index-preserved : goal.loop-index-preserved
loop-index-preserved c =
    let s = c.args.text.now in
    let ts = c.args.tokens.now in
    let i = c.loop-index.index in
    let t = get_or ts i none in
    let l = level_of c.loop-index.depth in
    let u = level_of c.past.new.self in
    let e = c.in_ok-past.ensures ∙ ap (λ b. level_after s t b l) c.colon_at.ensures in
    let r = c.reach.ensures l u refl refl in
    let low : c.reach.result ≤ 100 = grind (arith, nat_tests) in
    let test : nat_lt 100 c.reach.result ≡ false = grind (arith, nat_tests) in
    let le : reach_by t.kind s t l u ≤ 100 = rw (← r) low in (
      low_after s t c.colon_at.result l u c.in_ok-past.ensures c.loop-index.invariant.0 le,
      deep_on s l u ts i none c.loop-index-test.true e (ap (nat_lt 100) (sym r) ∙ test) ∙ c.loop-index.invariant.1,
    )
