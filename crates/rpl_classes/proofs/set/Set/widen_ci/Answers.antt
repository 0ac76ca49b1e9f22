use Rattle.std.proofs.Common.{◌≡◌, subst, sym, ap, ◌∙◌}
use Rattle.std.specs.Prelude.{◌||◌}
use Rattle.regex_class.specs.Ranges.{in_ranges}
use Rattle.rpl_classes.specs.Sets.{IsNormal, HasJust}
use Rattle.rpl_classes.specs.Algebra.{other_case, widened}
use Rattle.rpl_classes.proofs.Operations.{made_has}
use Rattle.rpl_classes.proofs.Cases.{widened_from_class, widened_just, widened_normal}
use Rattle.rpl_classes.proofs.set.Set.widen_ci.Goals as goal

pub sealed-requires : goal.sealed-requires
sealed-requires c =
    let own = c.in_ok-own.ensures.normal in
    subst IsNormal (sym (widened_from_class c.in_ok-own.own.ranges.items c.in_ok-new.field-0.ranges.items _ own
    c.in_ok-new.field-0.canonical c.in_ok-ranges.ensures c.in_ok-new.ensures)) (widened_normal _)

pub returns : goal.returns
returns c =
    let own = c.in_ok-own.ensures.normal in
    let is = widened_from_class c.in_ok-own.own.ranges.items c.in_ok-new.field-0.ranges.items _ own
    c.in_ok-new.field-0.canonical c.in_ok-ranges.ensures c.in_ok-new.ensures ∙ ap widened c.in_ok-own.ensures.same in
    record {
      ranges = made_has (λ s. s ≡ widened c.args.self.now) c.sealed.result _ is c.sealed.ensures;
      normal = made_has IsNormal c.sealed.result _ (subst IsNormal (sym is) (widened_normal _)) c.sealed.ensures;
      members = made_has (λ s. HasJust s (λ x. in_ranges c.args.self.now x || in_ranges c.args.self.now (other_case x)))
          c.sealed.result _ (widened_just c.args.self.now _ is) c.sealed.ensures;
    }
