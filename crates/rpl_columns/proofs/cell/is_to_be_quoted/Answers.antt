use Rattle.std.proofs.Common.{sym, ap, ◌∙◌}
use Rattle.std.specs.Prelude.{◌||◌}
use Rattle.rpl_columns.specs.Cells.{is_to_be_quoted, text_of}
use Rattle.rpl_columns.proofs.Texts.{text_step, text_none}
use Rattle.rpl_columns.proofs.cell.is_to_be_quoted.Goals as goal

pub returns-then-wants_quotes : goal.returns-then-wants_quotes
returns-then-wants_quotes c =
    sym (sym c.loop-byte.invariant
    ∙ ap is_to_be_quoted (text_step c.loop-byte.rest.now c.in-Some.byte c.in-Some.left.now c.in-Some.ensures.value)
    ∙ ap (λ t. t || is_to_be_quoted (text_of c.in-Some.left.now)) (sym c.wants_quotes.ensures ∙ c.if-wants_quotes.true))

pub loop-byte-preserved : goal.loop-byte-preserved
loop-byte-preserved c =
    sym (ap is_to_be_quoted (text_step c.loop-byte.rest.now c.in-Some.byte c.in-Some.left.now c.in-Some.ensures.value)
    ∙ ap (λ t. t || is_to_be_quoted (text_of c.in-Some.left.now)) (sym c.wants_quotes.ensures
    ∙ c.if-wants_quotes.false))
    ∙ c.loop-byte.invariant

pub returns : goal.returns
returns c =
    sym (sym c.loop-byte.invariant ∙ ap is_to_be_quoted (text_none c.loop-byte.rest.now c.in_default.ensures.value))
