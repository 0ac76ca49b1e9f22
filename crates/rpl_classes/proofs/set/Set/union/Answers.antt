use Rattle.std.proofs.Common.{◌≡◌, ◌++◌, subst, sym, ap, ◌∙◌, rules}
use Rattle.std.specs.Prelude.{◌||◌}
use Rattle.regex_class.specs.Ranges.{in_ranges}
use Rattle.rpl_classes.specs.Sets.{IsNormal, HasJust}
use Rattle.rpl_classes.specs.Norm.{norm}
use Rattle.rpl_classes.proofs.Operations.{union_from_class, union_just, made_has}
use Rattle.rpl_classes.proofs.Normal.{norm_normal}
use Rattle.rpl_classes.proofs.set.Set.union.Goals as goal

pub sealed-requires : goal.sealed-requires
sealed-requires c =
    let own = subst IsNormal (sym c.as_slice.ensures.same) c.as_slice.ensures.normal in
    let more = subst IsNormal (sym c.as_slice-2.ensures.same) c.as_slice-2.ensures.normal in
    let all : c.extend_from_slice.new.self.items ≡ c.as_slice.result.now ++ c.as_slice-2.result.now = search rules in
    let e = union_from_class _ _ _ _ own more all c.in_ok-new.field-0.canonical c.in_ok-new.ensures in
    subst IsNormal (sym e) (norm_normal _)

pub returns : goal.returns
returns c =
    let own = subst IsNormal (sym c.as_slice.ensures.same) c.as_slice.ensures.normal in
    let more = subst IsNormal (sym c.as_slice-2.ensures.same) c.as_slice-2.ensures.normal in
    let all : c.extend_from_slice.new.self.items ≡ c.as_slice.result.now ++ c.as_slice-2.result.now = search rules in
    let e = union_from_class _ _ _ _ own more all c.in_ok-new.field-0.canonical c.in_ok-new.ensures in
    let is = e ∙ ap (λ l. norm (l ++ c.as_slice-2.result.now)) c.as_slice.ensures.same
    ∙ ap (λ l. norm (c.args.self.now ++ l)) c.as_slice-2.ensures.same in record {
      ranges = made_has (λ s. s ≡ norm (c.args.self.now ++ c.args.other.now)) c.sealed.result _ is c.sealed.ensures;
      normal = made_has IsNormal c.sealed.result _ (subst IsNormal (sym is) (norm_normal _)) c.sealed.ensures;
      members = made_has (λ s. HasJust s (λ x. in_ranges c.args.self.now x || in_ranges c.args.other.now x))
          c.sealed.result _ (union_just c.args.self.now c.args.other.now _ is) c.sealed.ensures;
    }
