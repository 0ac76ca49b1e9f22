use Rattle.std.proofs.Common.{◌∙◌, ap}
use Rattle.std.specs.Prelude.{codes}
use Rattle.rosie_run.specs.Lines.{line_fault}
use Rattle.rosie_suites.proofs.loading.tests_in.Goals as goal

pub returns-in_ok-told-in-BadTest-clause-bad : goal.returns-in_ok-told-in-BadTest-clause-bad
returns-in_ok-told-in-BadTest-clause-bad c =
    let line = c.in-BadTest.line in (
      line,
      rw c.in-BadTest.is at c.in-Err.ensures.bad,
      c.in_ok-told-in-BadTest.ensures ∙ ap (λ file. line_fault file line (codes "bad test")) c.text_of.ensures,
    )
