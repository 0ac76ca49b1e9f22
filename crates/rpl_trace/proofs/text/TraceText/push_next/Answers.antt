use Rattle.std.proofs.Common.{reverse, string_bytes, ap, ◌∙◌}
use Rattle.rpl_core.specs.Listed.{rules_of}
use Rattle.rpl_core.specs.Table.{names_of}
use Rattle.rpl_trace.proofs.Rows.{line_grows, next_line}
use Rattle.rpl_trace.proofs.States.{last_first}
use Rattle.rpl_trace.proofs.text.TraceText.push_next.Goals as goal

pub returns-in_ok-push_line-in-Some-clause-text : goal.returns-in_ok-push_line-in-Some-clause-text
returns-in_ok-push_line-in-Some-clause-text c =
    next_line (names_of (rules_of c.args.self.now.rules.now)) (string_bytes c.args.out.now) _ c.in-Some.line _ _
    (ap reverse c.in-Some.ensures.items ∙ last_first c.pop.new.self.items c.in-Some.line)
    c.in_ok-push_line-in-Some.ensures

pub returns-in_ok-push_line-in-Some-clause-grows : goal.returns-in_ok-push_line-in-Some-clause-grows
returns-in_ok-push_line-in-Some-clause-grows c = λ some.
    line_grows (names_of (rules_of c.args.self.now.rules.now)) (string_bytes c.args.out.now) _ c.in-Some.line
    c.in_ok-push_line-in-Some.ensures
