use Rattle.std.proofs.Common.{sym, ◌∙◌}
use Rattle.rpl_parser.proofs.Roles.{closes_here, closes_on, closes_end}
use Rattle.rpl_parser.proofs.piece.closes.Goals as goal

pub returns-then-is_end : goal.returns-then-is_end
returns-then-is_end c =
    sym (closes_here c.args.text.now c.args.tokens.now c.loop-index.index c.at.result c.loop-index-test.true
    c.at.ensures (sym c.is_end.ensures ∙ c.if-is_end.true)) ∙ c.loop-index.invariant

pub loop-index-preserved : goal.loop-index-preserved
loop-index-preserved c =
    closes_on c.args.text.now c.args.tokens.now c.loop-index.index c.at.result c.loop-index-test.true c.at.ensures
    (sym c.is_end.ensures ∙ c.if-is_end.false) ∙ c.loop-index.invariant

pub returns : goal.returns
returns c = sym (closes_end c.args.text.now c.args.tokens.now c.loop-index.index c.loop-index-test.false)
    ∙ c.loop-index.invariant
