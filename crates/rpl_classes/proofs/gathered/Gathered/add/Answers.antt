use Rattle.std.proofs.Common.{◌++◌, ap, ◌∙◌}
use Rattle.rpl_classes.specs.Norm.{norm}
use Rattle.rpl_classes.proofs.Gathering.{norm_again, norm_front}
use Rattle.rpl_classes.proofs.gathered.Gathered.add.Goals as goal

pub returns-then-ends_with : goal.returns-then-ends_with
returns-then-ends_with c = norm_again c.args.self.now c.args.more.now (c.ends_with.ensures c.if-ends_with.true)

pub returns : goal.returns
returns c =
    ap norm (c.in_ok-extend_from_slice.ensures.items ∙ ap (λ l. l ++ c.args.more.now) c.self.view_is)
    ∙ norm_front c.join.new.self c.args.self.now c.args.more.now c.in_ok-join.ensures
