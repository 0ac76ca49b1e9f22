-- The result of loading a file for its tests: what each of them is tried with, or the line of the first fault.
use Rattle.std.specs.Prelude.{◌≡◌, ℕ, nat_lt, if◌then◌else◌, map, List, [], ◌∷◌, ◌++◌, length}
use Rattle.std.specs.Prelude.{Option, Some, None, Ok, Err, codes, encode_utf8_all}
use Rattle.std.specs.Str.{is_utf8}
use Rattle.rosie_prepare.specs.Lines.{load_line}
use Rattle.rosie_io.specs.Opening.{file_of}
use Rattle.rosie_prepare.specs.Prepared.{OrLine, TablePasses, Tree, bodies}
use Rattle.rosie_run.specs.Lines.{line_fault}
use Rattle.rpl_core.specs.Core.{Core, Call, Capture}
use Rattle.rpl_core.specs.Instr.{Instr}
use Rattle.rpl_core.specs.Programs.{IsCode, max_code_length}
use Rattle.rpl_expand.specs.Sets.{table_of}
use Rattle.rpl_names.specs.Steps.{Outcome}
use Rattle.rpl_names.specs.Loading.{world}
use Rattle.rpl_names.specs.Owned.{own, package_name, root_module}
use Rattle.rpl_names.specs.Roots.{Packages, load}
use Rattle.rpl_names.specs.Texts.{max_text_bytes}
use Rattle.rpl_names.specs.declared.roots.Root.TheVariants.{File}
use Rattle.rpl_names.specs.declared.targets.Target.{Target}
use Rattle.rpl_scope.specs.Results.{fault_at}
use Rattle.rpl_scope.specs.declared.fault.LoadKind.TheVariants.{FileTooLong, NotText, RootMissing}
use Rattle.rpl_unittest.specs.Comments.{HasBad, HasTests}
use Rattle.rpl_unittest.specs.declared.test.Test.{Test}
use Rattle.rosie_jobs.specs.Lines.{Job}
use Rattle.rosie_suites.specs.Trials.{Bench, Subject, Unbound, TooLong, HasCode, Trial}

-- the tests of a file, each with what it is tried with
pub record Suite : Type 0 where
  pub bench : Bench
  pub trials : List Trial

-- ---- what a test is tried with

-- the goal of a rule: its call, under the root `*` where the rule makes no node
abbrev pub goal_of : Target → Core
goal_of t = if t.captures then Call t.rule else Capture (codes "*") (Call t.rule)

-- a goal with its code, unless the code is too long
abbrev pub subject_unless_long : Job → Subject
subject_unless_long job = if nat_lt max_code_length (length job.code) then TooLong else HasCode job

-- a name that no statement of the file binds, or that of a hidden rule, has no target
abbrev pub IsSubject : List Core → Option Target → Subject → Type 0
IsSubject R None s = s ≡ Unbound
IsSubject R (Some t) s =
    (code : List Instr) × IsCode R (goal_of t) code
    × (s ≡ subject_unless_long (record { rules = R; goal = goal_of t; code = code }))

-- what each test is tried with, over the rules R, by the target of its name
abbrev pub AreTrials : List Core → (target : List ℕ → Option Target) → List Test → List Trial → Type 0
AreTrials R target [] trials = trials ≡ []
AreTrials R target (t ∷ ts) trials =
    (s : Subject) × (more : List Trial) × IsSubject R (target t.name) s × AreTrials R target ts more
    × (trials ≡ record { test = t; subject = s } ∷ more)

-- ---- the file, which is loaded as the one root, and read once more for its tests

abbrev pub loading : Tree → (folders : List (List ℕ)) → (file : List ℕ) → Outcome Packages
loading tree folders file = load (world tree folders) (File file ∷ [])

-- its text, or the line by which the loading would refuse it
abbrev pub read_again : (file : List ℕ) → Option (List ℕ) → OrLine (List ℕ)
read_again file None = Err (load_line (fault_at file 0 RootMissing))
read_again file (Some bytes) =
    if nat_lt max_text_bytes (length bytes) then Err (load_line (fault_at file 0 FileTooLong))
    else if is_utf8 bytes then Ok bytes else Err (load_line (fault_at file 0 NotText))

-- the tests of the text, or the line of its first bad test comment
pub data Tells (p : Packages) (m : ℕ) (b : Bench) (text : List ℕ) (r : OrLine Suite) : Type 0 where
  tests : (ts : List Test) (trials : List Trial) → HasTests text ts
      → AreTrials (bodies (table_of p)) (own p m) ts trials
      → r ≡ Ok (record { bench = b; trials = trials }) → Tells p m b text r
  bad : (line : ℕ) → HasBad text line → r ≡ Err (line_fault b.file line (codes "bad test")) → Tells p m b text r

-- over the packages of the file, whose own module has the number m and this package name
abbrev pub ComesAgain : Packages → (file : List ℕ) → (budget : Option ℕ) → OrLine (List ℕ) → OrLine Suite → Type 0
ComesAgain p file budget (Err line) r = r ≡ Err line
ComesAgain p file budget (Ok text) r =
    (m : ℕ) × (name : List ℕ) × (root_module p 0 ≡ Some m) × (package_name p m ≡ Some name)
    × Tells p m (record { file = encode_utf8_all file; prefix = encode_utf8_all name; budget = budget }) text r

-- where all that is loaded passes, the file is asked for once more
abbrev pub SuiteComes : Tree → (file : List ℕ) → (budget : Option ℕ) → (paths asked : List (List ℕ)) → OrLine Packages
    → OrLine Suite → Type 0
SuiteComes tree file budget paths asked (Err line) r = (asked ≡ paths) × (r ≡ Err line)
SuiteComes tree file budget paths asked (Ok p) r =
    (asked ≡ paths ++ encode_utf8_all file ∷ [])
    × ComesAgain p file budget (read_again file (file_of (encode_utf8_all file) tree)) r

-- Over the tree of files, the result for the file is r, and the paths `asked`, in bytes, are asked for on the way.
pub record IsSuite (tree : Tree) (folders : List (List ℕ)) (file : List ℕ) (budget : Option ℕ) (asked : List (List ℕ))
    (r : OrLine Suite) : Type 0 where
  pub packages : OrLine Packages
  pub loads : TablePasses (loading tree folders file).answer packages
  pub comes : SuiteComes tree file budget (map encode_utf8_all (loading tree folders file).asked) asked packages r
