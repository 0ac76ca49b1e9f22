use Rattle.std.proofs.Common.{◌+◌, drop, sym, ap, ◌∙◌, subst}
use Rattle.std.proofs.lemmas.List.{drop_all}
use Rattle.rpl_core.specs.View.{core_of, cores}
use Rattle.rpl_core.proofs.Walk.{drop_here, seq_core, choice_core}
use Rattle.rpl_forms.specs.Counting.{Adds, Counts, seen, seen_all}
use Rattle.rpl_forms.proofs.Counted.{adds_done, seen_nothing}
use Rattle.rpl_forms.proofs.Seen.{seen_seq, seen_choice, seen_then}
use Rattle.rpl_forms.proofs.inner.+weigh.Goals as goal

pub weigh-returns-in-Seq : goal.weigh-returns-in-Seq
weigh-returns-in-Seq t c = λ I h.
    let b = c.args.in_lookbehind in
    let same =
    sym (seen_seq b I (cores c.as_slice.result.now))
    ∙ ap (seen b I) (seq_core c.args.peg.now c.in-Seq.parts c.as_slice.result.now c.in-Seq.is c.as_slice.ensures) in
    subst (Counts c.node-in-Seq.result) same (c.node-in-Seq.ensures.seq _ (c.weigh_all-all.ensures I h))

pub weigh-returns-in-Choice : goal.weigh-returns-in-Choice
weigh-returns-in-Choice t c = λ I h.
    let b = c.args.in_lookbehind in
    let same =
    sym (seen_choice b I (cores c.as_slice-in-Choice.result.now))
    ∙ ap (seen b I) (choice_core c.args.peg.now c.in-Choice.parts c.as_slice-in-Choice.result.now c.in-Choice.is
    c.as_slice-in-Choice.ensures) in
    subst (Counts c.node-in-Choice.result) same
    (c.node-in-Choice.ensures.choice _ (c.weigh_all-all-in-Choice.ensures I h))

pub weigh_all-returns : goal.weigh_all-returns
weigh_all-returns t c = λ I h.
    let b = c.args.in_lookbehind in
    let none =
    ap (λ l. seen_all b I (cores l)) (drop_all c.loop-part.part-index c.args.parts.now c.loop-part-test.false)
    ∙ seen_nothing b I in
    adds_done _ _ _ none (c.loop-part.invariant I h)

pub weigh_all-loop-part-preserved : goal.weigh_all-loop-part-preserved
weigh_all-loop-part-preserved t c = λ I h.
    let b = c.args.in_lookbehind in
    let ps = c.args.parts.now in
    let i = c.loop-part.part-index in
    let p = c.part-item.result in
    let rest = seen_all b I (cores (drop (i + 1) ps)) in
    let whole = seen_all b I (cores ps) in
    let here =
    ap (λ l. seen_all b I (cores l)) (drop_here ps i p c.loop-part-test.true c.part-item.is)
    ∙ seen_then b I (core_of p) (cores (drop (i + 1) ps)) in
    c.add-sum.ensures (seen b I (core_of p)) rest whole (c.weigh.ensures I h)
    (subst (λ r. Adds c.loop-part.sum r whole) here (c.loop-part.invariant I h))
