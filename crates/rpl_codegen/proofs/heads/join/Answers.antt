use Rattle.std.proofs.Common.{◌≡◌, ◌++◌, ap, ap₂, ◌∙◌}
use Rattle.rpl_classes.specs.Norm.{norm}
use Rattle.rpl_classes.proofs.Normal.{norm_normal, norm_normal_same}
use Rattle.rpl_codegen.proofs.heads.join.Goals as goal

pub returns-in_ok-extend_from_slice : goal.returns-in_ok-extend_from_slice
returns-in_ok-extend_from_slice c =
    let old = c.args.ranges.now.items in
    let same : c.extend_from_slice.new.self.items ≡ norm old =
    c.in_ok-extend_from_slice.ensures.items
    ∙ ap₂ ◌++◌ c.clear.ensures.items (c.ranges-then-len-max.ensures.same ∙ c.in_ok-set.ensures.ranges
    ∙ ap norm c.deref.ensures.value) in
    ap norm same ∙ norm_normal_same (norm old) (norm_normal old)
