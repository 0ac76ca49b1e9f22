use Rattle.std.proofs.Common.{sym, ap, ◌∙◌, refl, subst}
use Rattle.std.specs.Prelude.{◌↔◌, Bool, IsTrue, true, false, Ok}
use Rattle.std.proofs.lemmas.Bool.{false≢true}
use Rattle.rpl_safe.specs.Safe.{IsSafe}
use Rattle.rpl_core.specs.Program.{instructions}
use Rattle.rpl_safe.specs.inside.Marks.{Answers, AllPass, Heads, Searched, marks_at}
use Rattle.rpl_safe.proofs.Testing.{heads_hold, none_safe, decide}
use Rattle.rpl_safe.proofs.verify.is_safe.Goals as goal

-- a yes or no, as a `bool` that is true exactly where it holds
decided : (b : Bool) (P : Type 0) → Answers b P → IsTrue b ↔ P
decided true P h = (λ _. h, λ _. refl)
decided false P h = (λ e. absurd (false≢true e), λ p. absurd (h p))

pub returns-in-None : goal.returns-in-None
returns-in-None c =
    let code = instructions c.args.program.now in
    decided false (IsSafe code) (subst (Heads code) (sym c.head.ensures ∙ c.in-None.is) (heads_hold code))

pub returns-in-None-2 : goal.returns-in-None-2
returns-in-None-2 c =
    decided false (IsSafe (instructions c.args.program.now))
    (none_safe (instructions c.args.program.now)
    (subst (Searched (instructions c.args.program.now)) (c.in_ok-find_marks-in-Some.was
    ∙ ap Ok c.in-None-2.is) c.find_marks.ensures))

pub returns-in-Some-2 : goal.returns-in-Some-2
returns-in-Some-2 c =
    let code = instructions c.args.program.now in
    let found = subst (Searched code) (c.in_ok-find_marks-in-Some.was ∙ ap Ok c.in-Some-2.is) c.find_marks.ensures in
    let heads = subst (Heads code) (sym c.head.ensures ∙ c.in-Some.is) (heads_hold code) in
    decided c.all_pass.result (IsSafe code)
    (decide code c.in-Some-2.marks.items c.in-Some.called c.all_pass.result found heads
    (subst (λ l. Answers c.all_pass.result (AllPass (marks_at l) c.in-Some.called code)) c.deref.ensures.value
    c.all_pass.ensures))
