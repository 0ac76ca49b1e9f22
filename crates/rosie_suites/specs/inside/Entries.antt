-- What is known of the codes that are kept while the tests are tried.
use Rattle.std.specs.Prelude.{◌≡◌, ◌<◌, ℕ, get_or, length, List, Option, None}
use Rattle.std.specs.List.{All}
use Rattle.rpl_check.specs.Goal.{peg_of}
use Rattle.rpl_core.specs.Core.{Core}
use Rattle.rpl_core.specs.Program.{instructions}
use Rattle.rpl_core.specs.View.{core_of}
use Rattle.rpl_names.specs.declared.targets.Target.{Target}
use Rattle.rosie_jobs.specs.Lines as L
use Rattle.rosie_suites.specs.Trials as T
use Rattle.rosie_suites.specs.Tried.{subject_for}
use Rattle.rosie_suites.specs.declared.subject.Compiled.{Compiled}
use Rattle.rosie_suites.specs.declared.subject.Entry.{Entry}
use Rattle.rosie_suites.specs.declared.subject.Subject.{Subject}
use Rattle.rosie_suites.specs.declared.subject.Subject.TheVariants.{Unbound, TooLong, Runs}
use Rattle.rosie_suites.specs.inside.Ready.{IsReady}

-- a goal with its code, over the rules R
abbrev pub job_of : List Core → Compiled → L.Job
job_of R c = record { rules = R; goal = core_of (peg_of c.goal); code = instructions c.program }

abbrev pub subject_of : List Core → Subject → T.Subject
subject_of R Unbound = T.Unbound
subject_of R TooLong = T.TooLong
subject_of R (Runs c) = T.HasCode (job_of R c)

-- its subject is that of its target, and is ready
pub record IsSound (R : List Core) (e : Entry) : Type 0 where
  pub subject : subject_of R e.subject ≡ subject_for R e.target
  pub ready : ∥ IsReady (subject_of R e.subject) ∥₁

abbrev pub AreSound : List Core → List Entry → Type 0
AreSound R = All (IsSound R)

-- no entry of a list
abbrev pub nothing : Entry
nothing = record { target = None; subject = Unbound }

-- the entry at i is that of this target
pub record StandsAt (es : List Entry) (o : Option Target) (i : ℕ) : Type 0 where
  pub there : i < length es
  pub is : (get_or es i nothing).target ≡ o
