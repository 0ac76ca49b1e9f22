-- A session has a loading over each tree of files, and one alone.
use Rattle.std.proofs.Common.{◌≡◌, ℕ, List, refl, sym, ◌∙◌, ap}
use Rattle.std.specs.Prelude.{Ok, Err, map, encode_utf8_all}
use mathlib.Core.Path.{fun_ext}
use Rattle.rosie_jobs.specs.Lines.{Job}
use Rattle.rosie_prepare.proofs.SomeAnswer.{some_answer, some_table}
use Rattle.rosie_prepare.specs.Prepared.{OrLine, Ready, Tree, PatternRequest, bodies}
use Rattle.rosie_session.proofs.OneLoad.{one_holds}
use Rattle.rosie_session.specs.Loading.{Compiles, IsGoalLoad, IsLoad, IsLoading, Load, Loading, given, kept_request}
use Rattle.rosie_session.specs.Loading.{job_unless_long}
use Rattle.rpl_names.specs.Loading.{world}
use Rattle.rpl_names.specs.Roots.{Packages, load}
use Rattle.rosie_cli.specs.Plans.{Planned}
use Rattle.rosie_cli.specs.Planned.{IsReplayed}
use Rattle.rosie_cli.proofs.SomeMarks.{some_code}
use Rattle.rosie_cli.proofs.Whole.{session_planned}

-- ---- it has one

some_load : (tree : Tree) (folders texts : List (List ℕ)) → (l : Load Packages) × IsLoad tree folders texts l
some_load tree folders texts =
    let s = some_table tree folders (given texts) in (
      record { asked = map encode_utf8_all (load (world tree folders) (given texts)).asked; answer = s.0 },
      record { asked = refl; comes = s.1 },
    )

some_compiled : (r : OrLine Ready) → (answer : OrLine Job) × Compiles r answer
some_compiled (Err line) = (Err line, refl)
some_compiled (Ok r) =
    let s = some_code (bodies r.rules) r.goal in
    (job_unless_long (record { rules = bodies r.rules; goal = r.goal; code = s.0 }), (s.0, s.1, refl))

some_goal : (tree : Tree) (v : PatternRequest) → (l : Load Job) × IsGoalLoad tree v l
some_goal tree v =
    let a = some_answer tree v in
    let c = some_compiled a.1 in (
      record { asked = a.0; answer = c.0 },
      record { ready = a.1; prepares = a.2; compiles = c.1 },
    )

some_loading : (tree : Tree) (folders : List (List ℕ)) → (w : Loading) × IsLoading tree folders w
some_loading tree folders = (
  record {
    texts = λ texts. (some_load tree folders texts).0;
    goal = λ texts pattern. (some_goal tree (kept_request folders texts pattern)).0;
  },
  record {
    texts = λ texts. (some_load tree folders texts).1;
    goals = λ texts pattern. (some_goal tree (kept_request folders texts pattern)).1;
  },
)

pub some_replayed : (folders : List (List ℕ)) (tree : Tree) → (p : Planned) × IsReplayed folders tree p
some_replayed folders tree =
    let s = some_loading tree folders in
    (session_planned s.0, record { loading = s.0; loads = s.1; plan = refl })

-- ---- and one alone

loading_with : (List (List ℕ) → Load Packages) → (List (List ℕ) → List ℕ → Load Job) → Loading
loading_with texts goal = record { texts = texts; goal = goal }

same_loading : (v w : Loading) → v.texts ≡ w.texts → v.goal ≡ w.goal → v ≡ w
unfolding loading_with
same_loading v w e f = ap (λ x. loading_with x v.goal) e ∙ ap (loading_with w.texts) f

pub one_replayed : (folders : List (List ℕ)) (tree : Tree) (p q : Planned) → IsReplayed folders tree p
    → IsReplayed folders tree q → p ≡ q
one_replayed folders tree p q x y =
    let one = one_holds tree folders x.loading y.loading x.loads y.loads in
    let same = same_loading x.loading y.loading (fun_ext one.0) (fun_ext (λ texts. fun_ext (one.1 texts))) in
    x.plan ∙ ap session_planned same ∙ sym y.plan
