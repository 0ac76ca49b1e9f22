use Rattle.std.proofs.Common.{sym, ◌∙◌, arith}
use Rattle.rpl_parser.specs.Tokens.{token_by, tokens_of}
use Rattle.rpl_parser.proofs.Roles.{sample, front_begun, front_here, front_on, front_end}
use Rattle.rpl_parser.proofs.piece.front_len.Goals as goal

pub loop-index-init : goal.loop-index-init
loop-index-init c =
    let s = c.args.text.now in
    let e = front_begun c.of-before.result (token_by c.args.first.kind s c.args.first) (tokens_of s c.args.tokens.now)
    c.of-before.ensures in
    omega (arith, e)

pub returns-then-begins-clause-value : goal.returns-then-begins-clause-value
returns-then-begins-clause-value c =
    let s = c.args.text.now in
    let e = front_here s c.args.tokens.now c.loop-index.index c.loop-index-test.true c.loop-index.before
    c.at-next.result c.at.result c.at-next.ensures c.at.ensures (sym c.begins.ensures ∙ c.if-begins.true) in
    omega (arith, e, c.loop-index.invariant)

pub loop-index-preserved : goal.loop-index-preserved
loop-index-preserved c =
    let s = c.args.text.now in
    front_on s c.args.tokens.now c.loop-index.index c.loop-index-test.true c.loop-index.before c.at-next.result
    c.at.result c.at-next.ensures c.at.ensures (sym c.begins.ensures ∙ c.if-begins.false)
    ∙ c.loop-index.invariant

pub returns-clause-value : goal.returns-clause-value
returns-clause-value c =
    let s = c.args.text.now in
    let e = front_end s c.args.tokens.now c.loop-index.index (sample c.loop-index.before) c.loop-index-test.false in
    omega (arith, e, c.loop-index.invariant, c.loop-index.auto.index-end)
