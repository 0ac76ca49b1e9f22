use Rattle.std.proofs.Common.{◌≡◌, subst, sym, ap, ◌∙◌}
use Rattle.std.specs.Prelude.{◌&&◌}
use Rattle.regex_class.specs.Ranges.{in_ranges}
use Rattle.rpl_classes.specs.Sets.{IsNormal, HasJust}
use Rattle.rpl_classes.specs.Algebra.{both}
use Rattle.rpl_classes.proofs.Operations.{both_from_class, both_normal, both_just, made_has}
use Rattle.rpl_classes.proofs.set.Set.both.Goals as goal

pub sealed-requires : goal.sealed-requires
sealed-requires c =
    let own = c.in_ok-own.ensures.normal in
    let e = both_from_class c.in_ok-own.own.ranges.items c.in_ok-others.others.ranges.items
    c.in_ok-intersection.field-0.ranges.items own c.in_ok-intersection.field-0.canonical c.in_ok-intersection.ensures
    in
    subst IsNormal (sym e) (both_normal _ _)

pub returns : goal.returns
returns c =
    let own = c.in_ok-own.ensures.normal in
    let e = both_from_class c.in_ok-own.own.ranges.items c.in_ok-others.others.ranges.items
    c.in_ok-intersection.field-0.ranges.items own c.in_ok-intersection.field-0.canonical c.in_ok-intersection.ensures
    in
    let is = e ∙ ap (λ l. both l c.in_ok-others.others.ranges.items) c.in_ok-own.ensures.same
    ∙ ap (both c.args.self.now) c.in_ok-others.ensures.same in record {
      ranges = made_has (λ s. s ≡ both c.args.self.now c.args.other.now) c.sealed.result _ is c.sealed.ensures;
      normal = made_has IsNormal c.sealed.result _ (subst IsNormal (sym is) (both_normal _ _)) c.sealed.ensures;
      members = made_has (λ s. HasJust s (λ x. in_ranges c.args.self.now x && in_ranges c.args.other.now x))
          c.sealed.result _ (both_just c.args.self.now c.args.other.now _ is) c.sealed.ensures;
    }
