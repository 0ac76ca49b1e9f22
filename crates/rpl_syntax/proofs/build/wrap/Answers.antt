use Rattle.std.proofs.Common.{ap, ◌∙◌, sym}
use Rattle.rpl_syntax.specs.Expression.{wrapped}
use Rattle.rpl_syntax.specs.View.{shown}
use Rattle.rpl_syntax.proofs.Rows.{raw_view, cooked_view}
use Rattle.rpl_syntax.proofs.build.wrap.Goals as goal

pub returns-then-raw : goal.returns-then-raw
returns-then-raw c = raw_view c.args.items ∙ ap (λ b. wrapped b (shown c.args.items)) (sym c.if-raw.true)

pub returns-else-raw : goal.returns-else-raw
returns-else-raw c = cooked_view c.args.items ∙ ap (λ b. wrapped b (shown c.args.items)) (sym c.if-raw.false)
