use Rattle.std.proofs.Common.{◌∙◌}
use Rattle.rpl_classes.proofs.Gathering.{ends_in}
use Rattle.rpl_classes.proofs.gathered.Gathered.ends_with.Goals as goal

pub returns : goal.returns
returns c = λ e. ends_in _ c.args.self.now c.deref.result.now _ c.args.more.now (c.deref.ensures.value
    ∙ c.self.view_is) c.split_at.ensures.back (c.are_same.ensures e)
