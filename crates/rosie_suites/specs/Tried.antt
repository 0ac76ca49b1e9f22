-- How contracts see what a test is tried with.
use Rattle.std.specs.Prelude.{List, Option, Some, None}
use Rattle.rpl_core.specs.Core.{Core}
use Rattle.rpl_core.specs.Instr.{Instr}
use Rattle.rpl_core.proofs.Reaching.{has_code}
use Rattle.rpl_names.specs.declared.targets.Target.{Target}
use Rattle.rosie_suites.specs.Suites.{goal_of, subject_unless_long}
use Rattle.rosie_suites.specs.Trials as T
use Rattle.rosie_suites.specs.declared.trial.Trial.{Trial}

-- the code of the goal g over the rules R, of which there is one and no other (HasCodeLaw and CodeLaw of rpl_core)
abbrev pub code_of : List Core → Core → List Instr
code_of R g = (has_code R g).0

-- what the tests of a target are tried with
abbrev pub subject_for : List Core → Option Target → T.Subject
subject_for R None = T.Unbound
subject_for R (Some t) =
    subject_unless_long (record { rules = R; goal = goal_of t; code = code_of R (goal_of t) })

-- a test is tried with what all tests of its target are tried with
abbrev pub trial_of : List Core → Trial → T.Trial
trial_of R t = record { test = t.test; subject = subject_for R t.target }
