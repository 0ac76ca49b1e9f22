use Rattle.std.proofs.Common.{sym, ap, subst, ◌∙◌}
use Rattle.std.specs.Prelude.{chars}
use Rattle.regex_class.specs.Ranges.{in_ranges}
use Rattle.unicode.specs.Loose.{normalize}
use Rattle.unicode.specs.Lookup.{by_name}
use Rattle.unicode.specs.Sets.{in_set}
use Rattle.rpl_unicode.specs.Ranges.{IsListOf}
use Rattle.rpl_unicode.specs.Named.{members}
use Rattle.rpl_unicode.proofs.Tables.{set_found, set_missing, table_list}
use Rattle.rpl_unicode.proofs.classes.class_ranges.Goals as goal

pub returns-in-Ok : goal.returns-in-Ok
unfolding members
returns-in-Ok c =
    let name = c.deref-2.ensures.value
    ∙ (c.in_ok-plain.ensures ∙ ap normalize (c.deref.ensures.value ∙ c.in_ok-letters.ensures)) in
    let list = subst (λ l. IsListOf (in_ranges l) c.in_ok-characters-in-Ok.field-0) c.deref-in-Ok.ensures.value
    c.in_ok-characters-in-Ok.ensures in
    set_found in_set (by_name (normalize (chars c.args.name.now))) c.in-Ok.set c.in_ok-characters-in-Ok.field-0
    (ap by_name (sym name) ∙ c.in-Ok.ensures.found)
    (table_list (in_set c.in-Ok.set) c.in_ok-ranges-in-Ok.field-0.items _ c.in_ok-ranges-in-Ok.ensures.members list)

pub returns : goal.returns
unfolding members
returns c =
    let name = c.deref-2.ensures.value
    ∙ (c.in_ok-plain.ensures ∙ ap normalize (c.deref.ensures.value ∙ c.in_ok-letters.ensures)) in
    set_missing in_set (by_name (normalize (chars c.args.name.now))) (ap by_name (sym name) ∙ c.in-Err.ensures.found)
