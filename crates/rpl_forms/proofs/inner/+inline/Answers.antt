use Rattle.std.proofs.Common.{◌≡◌, take, get_or, sym, ap, ◌∙◌, subst, arith}
use Rattle.std.specs.Prelude.{IfOk}
use Rattle.std.specs.Option.{option_copied}
use Rattle.std.proofs.lemmas.List.{take_more}
use Rattle.rpl_core.specs.Core as C
use Rattle.rpl_core.specs.Listed.{rules_of}
use Rattle.rpl_core.specs.View.{core_of, cores, listed}
use Rattle.rpl_core.proofs.Rows.{seq_view, choice_view}
use Rattle.rpl_core.proofs.Walk.{seq_core, choice_core}
use Rattle.rpl_forms.specs.Inlining.{called, inlined, inlined_all}
use Rattle.rpl_forms.specs.Sizes.{deep}
use Rattle.rpl_forms.specs.Rows.{inners_of}
use Rattle.rpl_forms.proofs.Joins.{inlined_more, part_deep}
use Rattle.rpl_forms.proofs.Reach.{reach_less}
use Rattle.rpl_forms.proofs.InnerCounts.{rule_there}
use Rattle.rpl_forms.proofs.Standing.{body_stands, called_late, first_stands, first_there, get_take, stays}
use Rattle.rpl_forms.proofs.inner.+inline.Goals as goal

pub inline-inline_all-requires : goal.inline-inline_all-requires
inline-inline_all-requires t c =
    let d = ap deep (seq_core c.args.peg.now c.in-Seq.parts c.as_slice.result.now c.in-Seq.is c.as_slice.ensures) in
    (omega (arith, d, c.decreases), c.requires)

pub inline-inline_all-requires-in-Choice : goal.inline-inline_all-requires-in-Choice
inline-inline_all-requires-in-Choice t c =
    let d = ap deep (choice_core c.args.peg.now c.in-Choice.parts c.as_slice-in-Choice.result.now c.in-Choice.is
    c.as_slice-in-Choice.ensures) in
    (omega (arith, d, c.decreases), c.requires)

pub inline-returns-in_ok-inline_all-in-Seq : goal.inline-returns-in_ok-inline_all-in-Seq
inline-returns-in_ok-inline_all-in-Seq t c =
    let I = take c.args.limit (inners_of (rules_of c.args.rules.now)) in
    seq_view c.in_ok-inline_all-in-Seq.field-0 ∙ ap C.Seq c.in_ok-inline_all-in-Seq.ensures
    ∙ ap (inlined I) (seq_core c.args.peg.now c.in-Seq.parts c.as_slice.result.now c.in-Seq.is c.as_slice.ensures)

pub inline-returns-in_ok-parts-in-Choice : goal.inline-returns-in_ok-parts-in-Choice
inline-returns-in_ok-parts-in-Choice t c =
    let I = take c.args.limit (inners_of (rules_of c.args.rules.now)) in
    choice_view c.in_ok-parts-in-Choice.parts ∙ ap C.Choice c.in_ok-parts-in-Choice.ensures
    ∙ ap (inlined I) (choice_core c.args.peg.now c.in-Choice.parts c.as_slice-in-Choice.result.now c.in-Choice.is
    c.as_slice-in-Choice.ensures)

pub inline-returns-in-Note : goal.inline-returns-in-Note
inline-returns-in-Note t c =
    let I = take c.args.limit (inners_of (rules_of c.args.rules.now)) in
    seq_view c.new.result ∙ ap (λ ps. C.Seq (cores ps)) c.new.ensures
    ∙ sym (ap (λ p. inlined I (core_of p)) c.in-Note.is)

pub inline_all-inline-requires : goal.inline_all-inline-requires
inline_all-inline-requires t c =
    let d = part_deep c.args.parts.now c.loop-part.part-index c.part-item.result c.loop-part-test.true c.part-item.is in
    (omega (arith, d, c.decreases), c.requires)

pub inline_all-loop-part-preserved : goal.inline_all-loop-part-preserved
inline_all-loop-part-preserved t c =
    let I = take c.args.limit (inners_of (rules_of c.args.rules.now)) in
    let all = c.args.parts.now in
    let i = c.loop-part.part-index in
    let part = c.part-item.result in
    let more =
    inlined_more I (listed c.loop-part.others) (take i all) c.in_ok-inline.field-0 (get_or all i part)
    c.loop-part.invariant (c.in_ok-inline.ensures ∙ ap (λ p. inlined I (core_of p)) c.part-item.is) in
    ap cores c.in_ok-push.ensures.ok ∙ more
    ∙ ap (λ ps. inlined_all I (cores ps)) (sym (take_more all i part c.loop-part-test.true))

pub inline_call-returns-then-number-limit : goal.inline_call-returns-then-number-limit
inline_call-returns-then-number-limit t c =
    sym (called_late (rules_of c.args.rules.now) c.args.limit c.args.number c.if-number-limit.true)

pub inline_call-returns-in_default : goal.inline_call-returns-in_default
inline_call-returns-in_default t c =
    let I = inners_of (rules_of c.args.rules.now) in
    let none = sym c.inner_of.ensures ∙ c.in_default.is in
    sym (ap (called c.args.number) (get_take c.args.limit c.args.number I c.if-number-limit.false)
    ∙ stays c.args.known.now I c.args.number c.requires none)

pub inline_call-returns-in_default-get : goal.inline_call-returns-in_default-get
inline_call-returns-in_default-get t c =
    let rs = rules_of c.args.rules.now in
    let some = sym c.inner_of.ensures ∙ c.in-Some.is in
    let lt = first_there rs c.args.known.now c.args.number c.in-Some.inner c.requires some in
    absurd (rule_there rs c.in-Some.inner.rule lt (sym c.get.ensures ∙ ap option_copied c.in_default-get.is))

pub inline_call-inline-requires : goal.inline_call-inline-requires
inline_call-inline-requires t c =
    let rs = rules_of c.args.rules.now in
    let some = sym c.inner_of.ensures ∙ c.in-Some.is in
    let here = sym c.get.ensures ∙ ap option_copied c.in-Some-get.is in
    let first = first_stands c.args.known.now (inners_of rs) c.args.number c.in-Some.inner c.requires some in
    let less =
    reach_less rs c.args.limit c.in-Some.inner.rule c.in-Some-get.rule.now here
    (omega (arith, first.0, c.if-number-limit.false)) in
    (omega (arith, less, c.decreases), c.requires)

pub inline_call-returns : goal.inline_call-returns
inline_call-returns t c =
    let rs = rules_of c.args.rules.now in
    let some = sym c.inner_of.ensures ∙ c.in-Some.is in
    let here = sym c.get.ensures ∙ ap option_copied c.in-Some-get.is in
    let same =
    ap (called c.args.number) (get_take c.args.limit c.args.number (inners_of rs) c.if-number-limit.false)
    ∙ body_stands rs c.args.known.now c.args.number c.in-Some.inner c.in-Some-get.rule.now c.requires some here in
    subst (λ q. IfOk c.inline.result (λ p. core_of p ≡ q)) (sym same) c.inline.ensures
