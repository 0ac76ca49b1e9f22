use Rattle.std.proofs.Common.{◌≤◌, ap, subst, sym, ◌∙◌}
use Rattle.std.specs.Prelude.{Some}
use Rattle.std.proofs.lemmas.List.{length-map}
use Rattle.std.proofs.lemmas.Grind.{merely}
use Rattle.rpl_compile_laws.proofs.Answering.{answer_holds}
use Rattle.rpl_core.specs.Numbers.{instr_of}
use Rattle.rpl_core.specs.Program.{instructions}
use Rattle.rpl_core.specs.Table.{bodies_of}
use Rattle.rosie_suites.specs.Tried.{subject_for}
use Rattle.rosie_suites.proofs.Tried.{runs_due, long_due, subject_is}
use Rattle.rosie_suites.proofs.subject.subject_of.Goals as goal

pub returns-in-Ok-clause-subject : goal.returns-in-Ok-clause-subject
returns-in-Ok-clause-subject c =
    let R = bodies_of c.args.rules.now in
    let p = c.in-Ok.program in
    let t = c.in-Some.target in
    let fits = subst (λ n. n ≤ 1048576) (sym (length-map p.code (instr_of p.sets p.labels))) c.in-Ok.ensures.fits in
    sym (ap (subject_for R) c.in-Some.is
    ∙ runs_due R t _ (instructions p) (subject_for R (Some t)) (subject_is R (Some t))
    c.in_ok-goal.ensures.goal c.in-Ok.ensures.code fits)

pub returns-in-Ok-clause-ready : goal.returns-in-Ok-clause-ready
returns-in-Ok-clause-ready c =
    let w = c.in_ok-goal.ensures.whole in
    merely (record {
      meant = λ t chars b. answer_holds w.stays.0 _ _ _ w.stays.1 c.in-Ok.ensures.code t chars (w.shut t) b;
      label = c.in_ok-goal.ensures.root.0;
      root = c.in_ok-goal.ensures.root.1;
    })

pub returns-in-CodeTooLong-clause-subject : goal.returns-in-CodeTooLong-clause-subject
returns-in-CodeTooLong-clause-subject c =
    let R = bodies_of c.args.rules.now in
    let t = c.in-Some.target in
    sym (ap (subject_for R) c.in-Some.is ∙ long_due R t _ (subject_for R (Some t)) (subject_is R (Some t))
    c.in_ok-goal.ensures.goal (c.in-Err.ensures.too_long c.in-CodeTooLong.is))
