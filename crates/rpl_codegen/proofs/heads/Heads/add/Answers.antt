use Rattle.std.proofs.Common.{◌++◌, ap, ◌∙◌}
use Rattle.std.specs.Option.{option_copied}
use Rattle.rpl_codegen.proofs.Gathering.{heads_added}
use Rattle.rpl_codegen.proofs.heads.Heads.add.Goals as goal

pub returns : goal.returns
returns c =
    let mid = c.join.new.ranges.items in
    heads_added c.self.inside.found c.self.inside.ranges.items mid c.extend_from_slice.new.self.items c.in-Some.set.now
    c.args.self.now (option_copied c.args.head)
    c.if-not-self.false c.in_ok-join.ensures
    (c.in_ok-extend_from_slice.ensures.items ∙ ap (λ l. mid ++ l) c.ranges-2.ensures.same) c.self.view_is
    (ap option_copied c.in-Some.is)
