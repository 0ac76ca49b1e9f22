use Rattle.std.proofs.Common.{subst, sym, ◌∙◌}
use Rattle.std.specs.Prelude.{chars, IfSome}
use Rattle.rpl_unicode.specs.Named.{members}
use Rattle.rpl_classes.specs.Classes.{in_class, test_named}
use Rattle.rpl_classes.specs.Sets.{HasJust}
use Rattle.rpl_classes.proofs.Named.{test_found, test_other, named_as, named_test, named_members}
use Rattle.rpl_classes.proofs.set.Set.named.Goals as goal

pub returns-in_ok-from_ranges-in-Some-clause-value : goal.returns-in_ok-from_ranges-in-Some-clause-value
returns-in_ok-from_ranges-in-Some-clause-value c =
    let k = c.in-Some.class in
    let e = test_found k c.args.name.now c.in-Some.ensures in
    named_test (in_class k) (test_named (chars c.args.name.now)) c.in_ok-from_ranges-in-Some.field-0 e
    c.in_ok-from_ranges-in-Some.ensures.normal
    (λ x h. c.in_ok-from_ranges-in-Some.ensures.members x h ∙ c.ranges-in-Some.ensures x h)

pub returns-in_ok-from_ranges-in-Some-clause-members : goal.returns-in_ok-from_ranges-in-Some-clause-members
returns-in_ok-from_ranges-in-Some-clause-members c =
    let k = c.in-Some.class in
    subst (λ o. IfSome o (HasJust c.in_ok-from_ranges-in-Some.field-0))
    (sym (test_found k c.args.name.now c.in-Some.ensures))
    (λ x h. c.in_ok-from_ranges-in-Some.ensures.members x h ∙ c.ranges-in-Some.ensures x h)

pub returns-in-None-clause-value : goal.returns-in-None-clause-value
returns-in-None-clause-value c =
    named_as (members (chars c.args.name.now)) (test_named (chars c.args.name.now)) c.unicode_set.result
    (test_other c.args.name.now c.utf8.name c.in-None.ensures) c.unicode_set.ensures

pub returns-in-None-clause-members : goal.returns-in-None-clause-members
returns-in-None-clause-members c =
    named_members (test_named (chars c.args.name.now)) c.unicode_set.result
    (named_as (members (chars c.args.name.now)) (test_named (chars c.args.name.now)) c.unicode_set.result
    (test_other c.args.name.now c.utf8.name c.in-None.ensures) c.unicode_set.ensures)
