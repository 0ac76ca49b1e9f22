-- What is known of what tests are tried with, and how a test comes out by its trees.
use Rattle.std.specs.Prelude.{◌≡◌, ◌≤◌, ℕ, true, nat_lt, if◌then◌else◌, List, length, Option, IfSome, encode_utf8_all}
use Rattle.std.specs.List.{All}
use Rattle.std.specs.Str.{all_scalars}
use Rattle.rpl_names.specs.Texts.{max_text_bytes}
use Rattle.rpl_core.specs.Captures.{all_named}
use Rattle.rpl_core.specs.Core.{Core}
use Rattle.rpl_core.specs.Forest.{Forest, NoTree, Tree, flat}
use Rattle.rpl_core.specs.declared.caught.Caught.{Caught}
use Rattle.rpl_encode.specs.Answer.{answer, max_answer_bytes}
use Rattle.rpl_encode.specs.declared.style.Style.TheVariants.{Json}
use Rattle.rpl_compile_laws.specs.Laws.{IsCapture}
use Rattle.rpl_expand.specs.LoadLaws.{IsRuleOf}
use Rattle.rpl_names.specs.declared.targets.Target.{Target}
use Rattle.rpl_unittest.specs.Verdicts.{is_met, part_of}
use Rattle.rpl_tree.specs.Trees.{label_in}
use Rattle.rpl_unittest.specs.declared.test.Test.{Test}
use Rattle.rosie_jobs.specs.Lines.{Job}
use Rattle.rosie_jobs.specs.Meant.{IsMeant}
use Rattle.rosie_suites.specs.Trials.{Subject, HasCode, Trial}
use Rattle.rosie_suites.specs.declared.trial.Trial as D
use Rattle.rosie_suites.specs.declared.verdict.Verdict.{Verdict}
use Rattle.rosie_suites.specs.declared.verdict.Verdict.TheVariants.{Met, Unmet, LongAnswer}

-- the code does what the goal means, and a match is one tree
pub record IsReadyJob (job : Job) : Type 0 where
  pub meant : IsMeant job
  pub label : List ℕ
  pub root : IsCapture job.rules label job.goal

abbrev pub IsReady : Subject → Type 0
IsReady (HasCode job) = IsReadyJob job
IsReady _ = Unit {0}

-- a text of a file
pub record IsText (t : List ℕ) : Type 0 where
  pub scalars : all_scalars t ≡ true
  pub short : length (encode_utf8_all t) ≤ max_text_bytes

abbrev pub IsReadyTrial : Trial → Type 0
IsReadyTrial t = IsText t.test.text × IsReady t.subject

abbrev pub AreReady : List Trial → Type 0
AreReady = All IsReadyTrial

-- a target, where there is one, is a rule of the table
abbrev pub IsBound : List Core → Option Target → Type 0
IsBound R o = IfSome o (λ t. ∥ IsRuleOf R t ∥₁)

abbrev pub AreBound : List Core → List D.Trial → Type 0
AreBound R = All (λ t. IsBound R t.target)

-- the captures are those of one tree, under the names of their numbers
abbrev pub AreOfTree : List (List ℕ) → List Caught → Type 0
AreOfTree labels caught =
    (label : List ℕ) × (start : ℕ) × (end : ℕ) × (below : Forest)
    × (all_named (label_in labels) caught ≡ flat (Tree label start end below NoTree))

-- how a test comes out by what was found on its text, whose places count bytes
abbrev pub by_found : (prefix : List ℕ) → Test → Option Forest → Verdict
by_found prefix t found =
    if nat_lt max_answer_bytes (length (answer Json (encode_utf8_all t.text) found)) then LongAnswer
    else (if is_met t.verb prefix (part_of t.part) (encode_utf8_all t.text) found then Met else Unmet)
