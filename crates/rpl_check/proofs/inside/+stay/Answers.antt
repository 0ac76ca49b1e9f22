use Rattle.std.proofs.Common.{◌∙◌, ap, sym}
use Rattle.std.specs.Prelude.{not}
use Rattle.rpl_core.specs.View.{core_of}
use Rattle.rpl_compile_laws.specs.Static.{may_halt, predicates_stay}
use Rattle.rpl_check.proofs.Stay.{body_stays}
use Rattle.rpl_core.specs.Marks.{marked}
use Rattle.rpl_core.proofs.Walk.{seq_core, choice_core}
use Rattle.rpl_check.proofs.inside.+stay.Goals as goal

pub predicates_stay-returns-in-Seq : goal.predicates_stay-returns-in-Seq
predicates_stay-returns-in-Seq t c =
    c.all_predicates_stay.ensures
    ∙ ap (predicates_stay (marked c.args.halting.now)) (seq_core c.args.peg.now c.in-Seq.parts c.as_slice.result.now
    c.in-Seq.is c.as_slice.ensures)

pub predicates_stay-returns-in-Choice : goal.predicates_stay-returns-in-Choice
predicates_stay-returns-in-Choice t c =
    c.all_predicates_stay-in-Choice.ensures
    ∙ ap (predicates_stay (marked c.args.halting.now))
    (choice_core c.args.peg.now c.in-Choice.parts c.as_slice-in-Choice.result.now c.in-Choice.is
    c.as_slice-in-Choice.ensures)

pub predicates_stay-returns-in-Not : goal.predicates_stay-returns-in-Not
predicates_stay-returns-in-Not t c =
    let h = marked c.args.halting.now in
    ap not (c.may_halt.ensures ∙ ap (λ q. may_halt h (core_of q)) c.deref.ensures)
    ∙ sym (body_stays h (core_of c.in-Not.body.value)) ∙ ap (λ q. predicates_stay h (core_of q)) (sym c.in-Not.is)

pub predicates_stay-returns-in-And : goal.predicates_stay-returns-in-And
predicates_stay-returns-in-And t c =
    let h = marked c.args.halting.now in
    ap not (c.may_halt-in-And.ensures ∙ ap (λ q. may_halt h (core_of q)) c.deref-in-And.ensures)
    ∙ sym (body_stays h (core_of c.in-And.body.value)) ∙ ap (λ q. predicates_stay h (core_of q)) (sym c.in-And.is)

pub predicates_stay-returns-in-Behind : goal.predicates_stay-returns-in-Behind
predicates_stay-returns-in-Behind t c =
    let h = marked c.args.halting.now in
    ap not (c.may_halt-in-Behind.ensures ∙ ap (λ q. may_halt h (core_of q)) c.deref-in-Behind.ensures)
    ∙ sym (body_stays h (core_of c.in-Behind.body.value))
    ∙ ap (λ q. predicates_stay h (core_of q)) (sym c.in-Behind.is)
