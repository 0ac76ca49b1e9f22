use Rattle.std.proofs.Common.{refl, subst}
use Rattle.regex_class.specs.Ranges.{IsCanonical}
use Rattle.rpl_unicode.proofs.Cutting.{cut_list, cut_made}
use Rattle.rpl_unicode.proofs.ranges.class_of.Goals as goal

pub returns-then-are_canonical : goal.returns-then-are_canonical
returns-then-are_canonical c =
    let parts = c.in_ok-parts.parts.items in
    let canonical = subst IsCanonical c.deref.ensures.value (c.are_canonical.ensures c.if-are_canonical.true) in
    cut_list parts parts c.args.ranges.now canonical (λ x le. refl) c.in_ok-parts.ensures

pub returns : goal.returns
returns c = cut_made c.in_ok-parts.parts.items c.args.ranges.now c.new.result c.new.ensures c.in_ok-parts.ensures
