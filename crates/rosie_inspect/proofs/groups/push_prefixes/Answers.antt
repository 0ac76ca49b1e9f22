use Rattle.std.proofs.Common.{ap, refl, ◌∙◌}
use Rattle.std.specs.Prelude.{chars, not}
use Rattle.std.specs.List.{flat_map}
use Rattle.rpl_names.specs.Sets.{set_seen}
use Rattle.rosie_inspect.specs.Groups.{group_lines}
use Rattle.rosie_inspect.proofs.Grouping.{prefix_more}
use Rattle.rosie_inspect.proofs.groups.push_prefixes.Goals as goal

pub loop-place-preserved : goal.loop-place-preserved
loop-place-preserved c =
    let p = set_seen c.args.packages.now in
    prefix_more p c.loop-place.groups.items c.push.new.self.items (flat_map (group_lines p) c.args.groups.now.items)
    c.loop-place.place (chars c.in-Some.prefix.now) c.in-Some.number
    (record { text = c.in_ok-text.text; under = c.in-Some.number }) c.in-Some.ensures
    (c.is_none.ensures ∙ ap not c.if-is_none.false) c.in_ok-text.ensures refl c.in_ok-push.ensures.items
    c.loop-place.invariant
