use Rattle.std.proofs.Common.{◌≡◌, subst}
use Rattle.std.specs.Prelude.{List}
use Rattle.regex_class.specs.Ranges.{Range, in_ranges}
use Rattle.rpl_unicode.specs.Ranges.{IsListOf}
use Rattle.rpl_unicode.specs.Folding.{folds_with}
use Rattle.rpl_classes.specs.Sets.{IsNormal, HasJust}
use Rattle.rpl_classes.specs.Algebra.{folded}
use Rattle.rpl_classes.proofs.Named.{set_only}
use Rattle.rpl_classes.proofs.Operations.{made_has}
use Rattle.rpl_classes.proofs.set.Set.fold.Goals as goal

pub listed-requires : goal.listed-requires
listed-requires c = c.in_ok-folds_of.ensures.normal

pub returns : goal.returns
unfolding folded
returns c =
    let own = subst (λ (l : List Range). IsListOf (folds_with (in_ranges l)) c.in_ok-folds_of.field-0)
    c.as_slice.ensures.same c.in_ok-folds_of.ensures in
    let is = set_only (folds_with (in_ranges c.args.self.now)) c.in_ok-folds_of.field-0 own.normal own.members in
    record {
      ranges = made_has (λ s. s ≡ folded c.args.self.now) c.listed.result _ is c.listed.ensures;
      normal = made_has IsNormal c.listed.result _ own.normal c.listed.ensures;
      members = made_has (λ s. HasJust s (folds_with (in_ranges c.args.self.now))) c.listed.result _ own.members
          c.listed.ensures;
    }
