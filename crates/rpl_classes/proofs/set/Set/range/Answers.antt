use Rattle.std.proofs.Common.{◌<◌, ◌⊎◌, inl, inr, sym, ap, ◌∙◌}
use Rattle.rpl_classes.specs.Norm.{norm}
use Rattle.rpl_classes.proofs.Normal.{one_normal, norm_normal_same}
use Rattle.rpl_classes.proofs.Operations.{range_just, range_made}
use Rattle.rpl_classes.proofs.set.Set.range.Goals as goal
use Rattle.rpl_classes.proofs.set.Set.range.Goals.{then-high-lt55296-via-then-high-lt55296}
use Rattle.rpl_classes.proofs.set.Set.range.Goals.{then-high-lt55296-via-else-high-lt55296+then-low-gt57343}

pub single-requires : goal.single-requires
single-requires c =
    let apart : (c.args.high < 0xd800) ⊎ (0xdfff < c.args.low) = elim c.then-high-lt55296.branch [
      | then-high-lt55296-via-then-high-lt55296 w ↦ inl w.if-high-lt55296.true
      | then-high-lt55296-via-else-high-lt55296+then-low-gt57343 w ↦ inr w.if-low-gt57343.true
    ] in
    one_normal c.args.low c.args.high c.requires c.ranges.high.0 apart

pub returns-then-high-lt55296-clause-ranges : goal.returns-then-high-lt55296-clause-ranges
returns-then-high-lt55296-clause-ranges c = sym (norm_normal_same c.single.result c.single.ensures.normal)
    ∙ ap norm c.single.ensures.same

pub returns-then-high-lt55296-clause-members : goal.returns-then-high-lt55296-clause-members
returns-then-high-lt55296-clause-members c =
    range_just c.args.low c.args.high c.single.result
    (sym (norm_normal_same c.single.result c.single.ensures.normal) ∙ ap norm c.single.ensures.same)

pub returns-clause-members : goal.returns-clause-members
returns-clause-members c = range_made c.args.low c.args.high c.from_ranges.result c.from_ranges.ensures.ranges
