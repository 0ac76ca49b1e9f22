use Rattle.std.proofs.Common.{sym}
use Rattle.std.specs.Prelude.{chars}
use Rattle.rpl_classes.proofs.ListSteps.{each_close, each_empty, each_other, each_dash, each_member}
use Rattle.rpl_classes.proofs.lists.list_step.Goals as goal

pub returns-then-is_first : goal.returns-then-is_first
returns-then-is_first c =
    each_empty (chars c.args.text.now) c.args.at c.args.is_first c.if-is_first.true c.in-Some.ensures.0

pub returns-else-is_first : goal.returns-else-is_first
returns-else-is_first c =
    let h = c.in-Some.ensures in (
      each_close (chars c.args.text.now) c.args.at c.in-Some.next c.args.is_first c.if-is_first.false h.0 h.1.left,
      h.1.next,
      h.1.forward,
    )

pub returns-in_default-member_at : goal.returns-in_default-member_at
returns-in_default-member_at c =
    each_other (chars c.args.text.now) c.args.at c.args.is_first c.in_default.ensures c.in_default-member_at.ensures

pub returns-then-is_inner_dash : goal.returns-then-is_inner_dash
returns-then-is_inner_dash c =
    each_dash (chars c.args.text.now) c.args.at c.args.is_first c.in_default.ensures c.in-Some-member_at.ensures.0
    (sym c.if-is_inner_dash.ensures)

pub returns : goal.returns
returns c =
    let h = c.in-Some-member_at.ensures in (
      each_member (chars c.args.text.now) c.args.at c.in-Some-member_at.next c.in-Some-member_at.c c.args.is_first
          c.in_default.ensures h.0 h.1 (sym c.if-is_inner_dash.ensures) h.2.left,
      h.2.next,
      h.2.forward,
    )
