use Rattle.std.proofs.Common.{sym, ◌∙◌}
use Rattle.rpl_lexer.proofs.Places.{parts_comma, parts_plain}
use Rattle.rpl_lexer.proofs.bounds.parts_of.Goals as goal

pub returns-then-has_at-clause-value : goal.returns-then-has_at-clause-value
returns-then-has_at-clause-value c =
    parts_comma c.args.bytes.now c.digits_from-least.result c.digits_from-most.result c.past-next.result
    c.past-close.result
    c.digits_from-least.ensures.value c.past-next.ensures.value (sym c.has_at.ensures.value
    ∙ c.if-has_at.true) c.digits_from-most.ensures.value c.past-close.ensures.value

pub returns-else-has_at-clause-value : goal.returns-else-has_at-clause-value
returns-else-has_at-clause-value c =
    parts_plain c.args.bytes.now c.digits_from-least.result c.past-next.result
    c.digits_from-least.ensures.value c.past-next.ensures.value (sym c.has_at.ensures.value ∙ c.if-has_at.false)
