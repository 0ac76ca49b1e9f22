use Rattle.std.proofs.Common.{subst, sym, [], ◌∷◌}
use Rattle.rpl_classes.specs.Sets.{HasJust}
use Rattle.rpl_classes.specs.Classes.{in_class}
use Rattle.rpl_classes.proofs.Tables.{alpha_table, digit_table, alnum_table, upper_table, lower_table, space_table}
use Rattle.rpl_classes.proofs.Tables.{blank_table, punct_table, xdigit_table, cntrl_table, graph_table, print_table}
use Rattle.rpl_classes.proofs.classes.NamedClass.ranges.Goals as goal

pub returns-in-Alpha : goal.returns-in-Alpha
returns-in-Alpha c =
    subst (λ k. HasJust ((0x41, 0x5a) ∷ (0x61, 0x7a) ∷ []) (in_class k)) (sym c.in-Alpha.is) alpha_table

pub returns-in-Digit : goal.returns-in-Digit
returns-in-Digit c = subst (λ k. HasJust ((0x30, 0x39) ∷ []) (in_class k)) (sym c.in-Digit.is) digit_table

pub returns-in-Alnum : goal.returns-in-Alnum
returns-in-Alnum c =
    subst (λ k. HasJust ((0x30, 0x39) ∷ (0x41, 0x5a) ∷ (0x61, 0x7a) ∷ []) (in_class k)) (sym c.in-Alnum.is) alnum_table

pub returns-in-Upper : goal.returns-in-Upper
returns-in-Upper c = subst (λ k. HasJust ((0x41, 0x5a) ∷ []) (in_class k)) (sym c.in-Upper.is) upper_table

pub returns-in-Lower : goal.returns-in-Lower
returns-in-Lower c = subst (λ k. HasJust ((0x61, 0x7a) ∷ []) (in_class k)) (sym c.in-Lower.is) lower_table

pub returns-in-Space : goal.returns-in-Space
returns-in-Space c = subst (λ k. HasJust ((0x9, 0xd) ∷ (0x20, 0x20) ∷ []) (in_class k)) (sym c.in-Space.is) space_table

pub returns-in-Blank : goal.returns-in-Blank
returns-in-Blank c = subst (λ k. HasJust ((0x9, 0x9) ∷ (0x20, 0x20) ∷ []) (in_class k)) (sym c.in-Blank.is) blank_table

pub returns-in-Punct : goal.returns-in-Punct
returns-in-Punct c =
    subst (λ k. HasJust ((0x21, 0x2f) ∷ (0x3a, 0x40) ∷ (0x5b, 0x60) ∷ (0x7b, 0x7e) ∷ []) (in_class k))
    (sym c.in-Punct.is)
    punct_table

pub returns-in-Xdigit : goal.returns-in-Xdigit
returns-in-Xdigit c =
    subst (λ k. HasJust ((0x30, 0x39) ∷ (0x41, 0x46) ∷ (0x61, 0x66) ∷ []) (in_class k)) (sym c.in-Xdigit.is)
    xdigit_table

pub returns-in-Cntrl : goal.returns-in-Cntrl
returns-in-Cntrl c = subst (λ k. HasJust ((0x0, 0x1f) ∷ (0x7f, 0x7f) ∷ []) (in_class k)) (sym c.in-Cntrl.is) cntrl_table

pub returns-in-Graph : goal.returns-in-Graph
returns-in-Graph c = subst (λ k. HasJust ((0x21, 0x7e) ∷ []) (in_class k)) (sym c.in-Graph.is) graph_table

pub returns-in-Print : goal.returns-in-Print
returns-in-Print c = subst (λ k. HasJust ((0x20, 0x7e) ∷ []) (in_class k)) (sym c.in-Print.is) print_table
