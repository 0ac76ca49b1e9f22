use Rattle.std.proofs.Common.{ap, sym, subst, ◌∙◌}
use Rattle.std.specs.Prelude.{Ok}
use Rattle.rpl_syntax.specs.Expression.{Text}
use Rattle.rpl_syntax.specs.View.{expr_of}
use Rattle.rpl_names.specs.Goals.{ReadsText, sought}
use Rattle.rpl_names.proofs.Building.{reads_answer, reads_goal}
use Rattle.rpl_package.proofs.pattern.read_goal.Goals as goal

pub returns-then-fixed-clause-goal : goal.returns-then-fixed-clause-goal
returns-then-fixed-clause-goal c =
    let s = c.args.text.now in
    let x = expr_of c.in_ok-sought.field-0 in
    let is = c.in_ok-sought.ensures ∙ ap (λ t. sought c.args.find (Text t)) c.in_ok-text.ensures in
    reads_goal c.args.fixed c.args.find s x c.if-text-gt-MAX_TEXT_BYTES.false
    (subst (λ b. ReadsText b c.args.find s (Ok x)) (sym c.if-fixed.true) (ap Ok is))

pub returns-clause-goal : goal.returns-clause-goal
returns-clause-goal c =
    reads_answer c.args.fixed c.args.find c.args.text.now c.read_pattern.result c.if-text-gt-MAX_TEXT_BYTES.false
    c.if-fixed.false c.read_pattern.ensures.reads
