-- What a session loads: texts alone, and texts with a pattern.
use Rattle.std.specs.Prelude.{◌≡◌, ℕ, false, nat_lt, if◌then◌else◌, List, length, map, Ok, Err, encode_utf8_all}
use Rattle.rosie_prepare.specs.Lines.{compile_line}
use Rattle.rosie_jobs.specs.Lines.{Job}
use Rattle.rosie_prepare.specs.Prepared.{IsPrepared, OrLine, Ready, TablePasses, Tree, PatternRequest, bodies}
use Rattle.rpl_core.specs.Instr.{Instr}
use Rattle.rpl_core.specs.Programs.{IsCode, max_code_length}
use Rattle.rpl_names.specs.Loading.{world}
use Rattle.rpl_names.specs.Roots.{Packages, load}
use Rattle.rpl_names.specs.declared.roots.Root.{Root}
use Rattle.rpl_names.specs.declared.roots.Root.TheVariants.{Given}

-- the paths that are asked for on the way, and what is loaded, or the line of the first fault
pub record Load (A : Type 0) : Type 0 where
  pub asked : List (List ℕ)
  pub answer : OrLine A

-- what texts alone come to, and what they come to with a pattern
pub record Loading : Type 0 where
  pub texts : List (List ℕ) → Load Packages
  pub goal : List (List ℕ) → List ℕ → Load Job

-- each text is a root of its own
abbrev pub given : List (List ℕ) → List Root
given texts = map Given texts

-- the pattern over these texts, to be matched from the start of a line
abbrev pub kept_request : List (List ℕ) → List (List ℕ) → List ℕ → PatternRequest
kept_request folders texts pattern =
    record { roots = given texts; folders = folders; text = encode_utf8_all pattern; fixed = false; find = false }

-- texts alone come to their packages, whose rules have no fault
pub record IsLoad (tree : Tree) (folders texts : List (List ℕ)) (l : Load Packages) : Type 0 where
  pub asked : l.asked ≡ map encode_utf8_all (load (world tree folders) (given texts)).asked
  pub comes : TablePasses (load (world tree folders) (given texts)).answer l.answer

-- a goal has the job of its code, unless the code is too long
abbrev pub job_unless_long : Job → OrLine Job
job_unless_long job = if nat_lt max_code_length (length job.code) then Err compile_line else Ok job

abbrev pub Compiles : OrLine Ready → OrLine Job → Type 0
Compiles (Err line) answer = answer ≡ Err line
Compiles (Ok r) answer =
    (code : List Instr) × IsCode (bodies r.rules) r.goal code
    × (answer ≡ job_unless_long (record { rules = bodies r.rules; goal = r.goal; code = code }))

-- what is wanted comes to a job
pub record IsGoalLoad (tree : Tree) (v : PatternRequest) (l : Load Job) : Type 0 where
  pub ready : OrLine Ready
  pub prepares : IsPrepared tree v l.asked ready
  pub compiles : Compiles ready l.answer

-- The loading over a tree of files and the folders of a library path.
pub record IsLoading (tree : Tree) (folders : List (List ℕ)) (w : Loading) : Type 0 where
  pub texts : (texts : List (List ℕ)) → IsLoad tree folders texts (w.texts texts)
  pub goals : (texts : List (List ℕ)) (pattern : List ℕ)
      → IsGoalLoad tree (kept_request folders texts pattern) (w.goal texts pattern)
