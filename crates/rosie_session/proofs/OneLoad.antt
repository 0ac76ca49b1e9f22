-- Texts come to one thing, alone and with a pattern.
use Rattle.std.proofs.Common.{◌≡◌, ℕ, List, sym, ◌∙◌, ap, subst}
use Rattle.std.specs.Prelude.{Ok, Err}
use Rattle.rosie_prepare.specs.Prepared.{OrLine, Ready, Tree, PatternRequest, bodies}
use Rattle.rosie_prepare.proofs.OneAnswer.{one_answer, one_table}
use Rattle.rpl_core.proofs.Codes.{code_holds}
use Rattle.rpl_names.specs.Loading.{world}
use Rattle.rpl_names.specs.Roots.{Packages, load}
use Rattle.rosie_jobs.specs.Lines.{Job}
use Rattle.rosie_session.specs.Laws.{OneLoading}
use Rattle.rosie_session.specs.Loading.{Compiles, IsGoalLoad, IsLoad, Load, given, job_unless_long}

alike : {A : Type 0} (l m : Load A) → l.asked ≡ m.asked → l.answer ≡ m.answer → l ≡ m
alike l m e f =
    let first : l ≡ record { asked = m.asked; answer = l.answer } =
    ap (λ x. record { asked = x; answer = l.answer }) e in
    first ∙ ap (λ x. record { asked = m.asked; answer = x }) f

load_one : (tree : Tree) (folders texts : List (List ℕ)) (l m : Load Packages) → IsLoad tree folders texts l
    → IsLoad tree folders texts m → l ≡ m
load_one tree folders texts l m h k =
    alike l m (h.asked ∙ sym k.asked)
    (one_table (load (world tree folders) (given texts)).answer l.answer m.answer h.comes k.comes)

compiles_one : (r : OrLine Ready) (a b : OrLine Job) → Compiles r a → Compiles r b → a ≡ b
compiles_one (Err line) a b h k = h ∙ sym k
compiles_one (Ok r) a b h k =
    let same : h.0 ≡ k.0 = code_holds (bodies r.rules) r.goal h.0 k.0 h.1 k.1 in
    h.2 ∙ ap (λ c. job_unless_long (record { rules = bodies r.rules; goal = r.goal; code = c })) same ∙ sym k.2

goal_one : (tree : Tree) (v : PatternRequest) (l m : Load Job) → IsGoalLoad tree v l → IsGoalLoad tree v m → l ≡ m
goal_one tree v l m h k =
    let same = one_answer tree v l.asked m.asked h.ready k.ready h.prepares k.prepares in
    alike l m same.0 (compiles_one k.ready l.answer m.answer (subst (λ r. Compiles r l.answer) same.1 h.compiles)
    k.compiles)

-- loading the texts of a session has at most one result
pub one_holds : OneLoading
one_holds tree folders v w h k = (
  λ texts. load_one tree folders texts (v.texts texts) (w.texts texts) (h.texts texts) (k.texts texts),
  λ texts pattern.
      goal_one tree _ (v.goal texts pattern) (w.goal texts pattern) (h.goals texts pattern) (k.goals texts pattern),
)
