use Rattle.std.proofs.Common.{sym, ◌∙◌}
use Rattle.std.proofs.lemmas.Bool.{false≢true}
use Rattle.rpl_codefile.proofs.Parts.{all_parts, ordered_by}
use Rattle.rpl_codefile.proofs.tables.are_parts.Goals as goal

pub returns-then-not-is_ordered : goal.returns-then-not-is_ordered
returns-then-not-is_ordered c = (
  λ e. absurd (false≢true e),
  λ h. absurd (false≢true (sym c.if-not-is_ordered.true
      ∙ c.is_ordered.ensures.1 (ordered_by c.args.code.now c.args.sets.now c.args.texts.now h))),
)

pub returns : goal.returns
returns c = all_parts c.args.code.now c.args.sets.now c.args.texts.now c.are_apart.result
    (c.is_ordered.ensures.0 c.if-not-is_ordered.false) c.are_apart.ensures
