use Rattle.std.proofs.Common.{◌≡◌, ◌+◌, ◌-◌, ◌^◌, ◌<◌, ◌≤◌, min, drop, refl, sym, ap, ◌∙◌, subst, Some, arith}
use Rattle.std.specs.Prelude.{slice_get, IfOk, option_map}
use Rattle.std.specs.Option.{option_copied}
use Rattle.std.proofs.lemmas.Option.{slice_get-map}
use Rattle.rpl_core.specs.Core as C
use Rattle.rpl_core.specs.Meaning as M
use Rattle.rpl_core.specs.View.{core_of, cores}
use Rattle.rpl_core.specs.Table.{bodies_of}
use Rattle.rpl_core.specs.Listed.{rules_of}
use Rattle.rpl_core.specs.declared.rules.Rule.{Rule}
use Rattle.rpl_core.proofs.Rows.{seq_view, choice_view}
use Rattle.rpl_reference.specs.Outcomes.{outcome_of, forest_of, capped}
use Rattle.rpl_reference.specs.inside.Below.{below, core_at, all_at, first_at}
use Rattle.rpl_reference.proofs.Capped.{capped_more, first_fails, first_matches, first_halts, turn_matches, one_length}
use Rattle.rpl_reference.proofs.Levels.{below_is, length_here, length_past}
use Rattle.rpl_reference.proofs.Parts.{first_more}
use Rattle.rpl_reference.proofs.Weights.{weight, weight_all, weight_in, deeper_less}
use Rattle.rpl_reference.proofs.evaluation.+evaluate.Goals as goal

pub evaluate_call-evaluate_core-requires : goal.evaluate_call-evaluate_core-requires
evaluate_call-evaluate_core-requires t c =
    let table = rules_of c.args.over.now.rules.now in
    let p = core_of c.in-Some.rule.now.body in
    let found : slice_get (bodies_of table) c.args.rule ≡ Some p =
    slice_get-map (λ (r : Rule). core_of r.body) table c.args.rule
    ∙ ap (option_map (λ (r : Rule). core_of r.body)) (sym c.get.ensures ∙ ap option_copied c.in-Some.is) in
    let some : 0 < c.args.depth = let ne = c.if-depth-eq0.false in omega arith in
    let less =
    deeper_less (bodies_of table) c.args.depth (weight p) 1 some (weight_in (bodies_of table) c.args.rule p found)
    (omega arith) in
    (omega (arith, less, c.decreases), tt)

pub evaluate_call-returns-in-None : goal.evaluate_call-returns-in-None
evaluate_call-returns-in-None t c =
    let table = rules_of c.args.over.now.rules.now in
    let none =
    slice_get-map (λ (r : Rule). core_of r.body) table c.args.rule
    ∙ ap (option_map (λ (r : Rule). core_of r.body)) (sym c.get.ensures ∙ ap option_copied c.in-None.is) in
    sym (ap (λ o. capped
    (M.called o (λ p. below c.args.depth (bodies_of table) c.args.over.now.text.now p c.args.place))) none)

pub evaluate_call-returns-in_ok-o-in-Some : goal.evaluate_call-returns-in_ok-o-in-Some
evaluate_call-returns-in_ok-o-in-Some t c =
    let table = rules_of c.args.over.now.rules.now in
    let p = core_of c.in-Some.rule.now.body in
    let found =
    slice_get-map (λ (r : Rule). core_of r.body) table c.args.rule
    ∙ ap (option_map (λ (r : Rule). core_of r.body)) (sym c.get.ensures ∙ ap option_copied c.in-Some.is) in
    let some : 0 < c.args.depth = let ne = c.if-depth-eq0.false in omega arith in
    let down = below_is c.args.depth (bodies_of table) c.args.over.now.text.now p c.args.place some in
    c.more.ensures ∙ ap (λ x. capped (M.more 1 x)) (c.in_ok-o-in-Some.ensures ∙ ap capped (sym down))
    ∙ capped_more 1 1 _ refl ∙ sym (ap
    (λ o. capped (M.called o (λ q. below c.args.depth (bodies_of table) c.args.over.now.text.now q c.args.place)))
    found)

pub evaluate_core-evaluate_all-requires : goal.evaluate_core-evaluate_all-requires
evaluate_core-evaluate_all-requires t c =
    let all = ap (λ ps. weight_all (cores ps)) c.as_slice.ensures in
    let whole = ap (λ e. weight (core_of e)) c.in-Seq.is ∙ ap weight (seq_view c.in-Seq.parts) in
    (omega (arith, all, whole, c.decreases), tt)

pub evaluate_core-evaluate_first-requires : goal.evaluate_core-evaluate_first-requires
evaluate_core-evaluate_first-requires t c =
    let all = ap (λ ps. weight_all (cores ps)) c.as_slice-in-Choice.ensures in
    let whole = ap (λ e. weight (core_of e)) c.in-Choice.is ∙ ap weight (choice_view c.in-Choice.parts) in
    (omega (arith, all, whole, c.decreases), tt)

pub evaluate_core-returns-in_ok-o-in-Seq : goal.evaluate_core-returns-in_ok-o-in-Seq
evaluate_core-returns-in_ok-o-in-Seq t c =
    let at = core_at c.args.depth (bodies_of (rules_of c.args.over.now.rules.now)) c.args.over.now.text.now in
    let all = all_at c.args.depth (bodies_of (rules_of c.args.over.now.rules.now)) c.args.over.now.text.now in
    let parts = cores c.in-Seq.parts.items.items in
    let each : outcome_of c.in_ok-o-in-Seq.o ≡ capped (all parts c.args.place) =
    subst (λ ps. outcome_of c.in_ok-o-in-Seq.o ≡ capped (all (cores ps) c.args.place)) c.as_slice.ensures
    c.in_ok-o-in-Seq.ensures in
    let whole : core_of c.args.e.now ≡ C.Seq parts = ap core_of c.in-Seq.is ∙ seq_view c.in-Seq.parts in
    let inside : capped (M.more 1 (outcome_of c.in_ok-o-in-Seq.o)) ≡ capped (at (C.Seq parts) c.args.place) =
    ap (λ x. capped (M.more 1 x)) each ∙ capped_more 1 1 (all parts c.args.place) refl in
    c.more.ensures ∙ inside ∙ sym (ap (λ p. capped (at p c.args.place)) whole)

pub evaluate_core-returns-in-Choice : goal.evaluate_core-returns-in-Choice
evaluate_core-returns-in-Choice t c =
    let at = core_at c.args.depth (bodies_of (rules_of c.args.over.now.rules.now)) c.args.over.now.text.now in
    let first = first_at c.args.depth (bodies_of (rules_of c.args.over.now.rules.now)) c.args.over.now.text.now in
    let same =
    ap (λ ps. capped (first (cores ps) c.args.place)) c.as_slice-in-Choice.ensures
    ∙ sym (ap (λ p. capped (at p c.args.place)) (ap core_of c.in-Choice.is ∙ choice_view c.in-Choice.parts)) in
    subst (λ x. IfOk c.evaluate_first.result (λ o. outcome_of o ≡ x)) same c.evaluate_first.ensures

pub evaluate_turns-returns-in_ok-rest-in-At : goal.evaluate_turns-returns-in_ok-rest-in-At
evaluate_turns-returns-in_ok-rest-in-At t c =
    let R = bodies_of (rules_of c.args.over.now.rules.now) in
    let text = c.args.over.now.text.now in
    let n = c.args.depth in
    let i = c.args.place in
    let p = core_of c.args.body.now in
    let trees = forest_of c.in-At.trees in
    let work = c.in-At.work in
    let top = 2 ^ 64 - 1 in
    let some : 0 < n = let ne = c.if-depth-eq0.false in omega arith in
    let turn : M.At work c.in-At.next trees ≡ capped (core_at n R text p i) =
    sym (ap outcome_of c.in-At.is) ∙ c.in_ok-evaluate_core.ensures in
    let again = c.in_ok-rest-in-At.ensures ∙ ap capped (sym (below_is n R text (C.Many p) c.in-At.next some)) in
    let same =
    ap (λ w. capped (M.prefixed w trees (outcome_of c.in_ok-rest-in-At.rest))) c.plus.ensures
    ∙ ap (λ x. capped (M.prefixed (min (1 + work) top) trees x)) again
    ∙ turn_matches (core_at n R text p i) i (below n R text (C.Many p)) work c.in-At.next trees turn in
    subst (λ x. IfOk c.prefixed.result (λ o. outcome_of o ≡ x)) same c.prefixed.ensures

pub evaluate_first-returns-in_ok-rest-in-Fail : goal.evaluate_first-returns-in_ok-rest-in-Fail
evaluate_first-returns-in_ok-rest-in-Fail t c =
    let R = bodies_of (rules_of c.args.over.now.rules.now) in
    let text = c.args.over.now.text.now in
    let n = c.args.depth in
    let here = first_more (below n R text) R text c.args.ways.now c.args.from c.index-ways-from.result c.args.place
    c.if-from-ways.false c.if-from-ways-2.false c.index-ways-from.is in
    let fails = sym (ap outcome_of c.in-Fail.is) ∙ c.in_ok-o.ensures in
    c.more.ensures ∙ ap (λ w. capped (M.more w (outcome_of c.in_ok-rest-in-Fail.rest))) c.plus.ensures
    ∙ ap (λ x. capped (M.more (min (1 + c.in-Fail.work) (2 ^ 64 - 1)) x)) c.in_ok-rest-in-Fail.ensures
    ∙ first_fails (core_at n R text (core_of c.index-ways-from.result) c.args.place) c.args.place
    (first_at n R text (cores (drop (c.args.from + 1) c.args.ways.now))) c.in-Fail.work fails ∙ sym (ap capped here)

pub evaluate_first-returns-in-At : goal.evaluate_first-returns-in-At
evaluate_first-returns-in-At t c =
    let R = bodies_of (rules_of c.args.over.now.rules.now) in
    let text = c.args.over.now.text.now in
    let n = c.args.depth in
    let here = first_more (below n R text) R text c.args.ways.now c.args.from c.index-ways-from.result c.args.place
    c.if-from-ways.false c.if-from-ways-2.false c.index-ways-from.is in
    let matches = sym (ap outcome_of c.in-At.is) ∙ c.in_ok-o.ensures in
    ap (λ w. M.At w c.in-At.place (forest_of c.in-At.trees)) c.plus-in-At.ensures
    ∙ first_matches (core_at n R text (core_of c.index-ways-from.result) c.args.place) c.args.place
    (first_at n R text (cores (drop (c.args.from + 1) c.args.ways.now))) c.in-At.work c.in-At.place
    (forest_of c.in-At.trees)
    matches ∙ sym (ap capped here)

pub evaluate_first-returns-in-HaltAt : goal.evaluate_first-returns-in-HaltAt
evaluate_first-returns-in-HaltAt t c =
    let R = bodies_of (rules_of c.args.over.now.rules.now) in
    let text = c.args.over.now.text.now in
    let n = c.args.depth in
    let here = first_more (below n R text) R text c.args.ways.now c.args.from c.index-ways-from.result c.args.place
    c.if-from-ways.false c.if-from-ways-2.false c.index-ways-from.is in
    let halts = sym (ap outcome_of c.in-HaltAt.is) ∙ c.in_ok-o.ensures in
    ap (λ w. M.HaltAt w c.in-HaltAt.place (forest_of c.in-HaltAt.trees)) c.plus-in-HaltAt.ensures
    ∙ first_halts (core_at n R text (core_of c.index-ways-from.result) c.args.place) c.args.place
    (first_at n R text (cores (drop (c.args.from + 1) c.args.ways.now))) c.in-HaltAt.work c.in-HaltAt.place
    (forest_of c.in-HaltAt.trees) halts ∙ sym (ap capped here)

pub evaluate_lengths-returns : goal.evaluate_lengths-returns
evaluate_lengths-returns t c =
    let R = bodies_of (rules_of c.args.over.now.rules.now) in
    let at = core_at c.args.depth R c.args.over.now.text.now (core_of c.args.body.now) in
    let i = c.args.place in
    let k = c.args.lengths.first in
    let some : 0 < c.args.lengths.count = let ne = c.if-count-eq0.false in omega arith in
    let enough : k ≤ i = let no = c.if-place-first.false in omega arith in
    let others = M.lengths (c.args.lengths.count - 1) (k + 1) at i in
    c.ends_here.ensures ∙ ap (λ x. capped (M.ends_here x i (outcome_of c.in_ok-rest-2.rest))) c.in_ok-o.ensures
    ∙ ap (λ x. capped (M.ends_here (capped (at (i - k))) i x)) c.in_ok-rest-2.ensures
    ∙ one_length (at (i - k)) others i ∙ sym (ap capped (length_here c.args.lengths.count k at i some enough))

pub evaluate_lengths-returns-then-place-first : goal.evaluate_lengths-returns-then-place-first
evaluate_lengths-returns-then-place-first t c =
    let R = bodies_of (rules_of c.args.over.now.rules.now) in
    let at = core_at c.args.depth R c.args.over.now.text.now (core_of c.args.body.now) in
    let k = c.args.lengths.first in
    let some : 0 < c.args.lengths.count = let ne = c.if-count-eq0.false in omega arith in
    let others = M.lengths (c.args.lengths.count - 1) (k + 1) at c.args.place in
    c.more.ensures ∙ ap (λ x. capped (M.more 1 x)) c.in_ok-rest.ensures ∙ capped_more 1 1 others refl
    ∙ sym (ap capped (length_past c.args.lengths.count k at c.args.place some c.if-place-first.true))
