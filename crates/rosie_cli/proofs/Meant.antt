-- A goal that is run means something on every text, by the definitions alone.
use Rattle.std.proofs.Common.{ℕ, ◌≡◌, Bool, true, false, cond, List, length, refl, sym, ◌∙◌, subst}
use Rattle.std.specs.Prelude.{◌≢◌, Ok, Err, nat_lt}
use Rattle.rosie_jobs.specs.Lines.{Job, matches}
use Rattle.rosie_prepare.specs.Lines.{compile_line}
use Rattle.rosie_prepare.specs.Prepared.{IsPrepared, OrLine, Ready, Tree, PatternRequest, bodies}
use Rattle.rosie_session.proofs.Paying.{IsFit, fit_prepared}
use Rattle.rosie_session.specs.Loading.{Compiles, IsLoading, Load, Loading, kept_request}
use Rattle.rpl_check.specs.Checked.{IsWhole}
use Rattle.rpl_compile_laws.proofs.OneTree.{one_tree_holds}
use Rattle.rpl_compile_laws.specs.Laws.{IsCapture}
use Rattle.rpl_core.specs.Core.{Core}
use Rattle.rpl_core.specs.Instr.{Instr}
use Rattle.rpl_core.specs.Meaning.{Outcome, At, Fail, HaltAt, Open}
use Rattle.rpl_core.specs.Outcome.{outcome}
use Rattle.rosie_cli.specs.Promises.{HasMeaning, TriesMean}

failed_by : (o : Outcome) → o ≢ Open → matches o ≡ false → (w : ℕ) × (o ≡ Fail w)
failed_by Open shut h = absurd (shut refl)
failed_by (Fail w) shut h = (w, refl)
failed_by (At w j f) shut h = absurd (cc)
failed_by (HaltAt w j f) shut h = absurd (cc)

-- a goal without faults that is a capture
pub meaning_of : (R : List Core) (g : Core) (code : List Instr) → IsWhole R g
    → (label : List ℕ) × IsCapture R label g → HasMeaning (record { rules = R; goal = g; code = code })
meaning_of R g code whole root = record {
  shut = whole.shut;
  failed = λ t h. failed_by (outcome R g t) (whole.shut t) h;
  one_tree = λ t w j f e.
      let one = one_tree_holds R root.0 g t w j f root.1 e in
      (root.0, one.0, one.1);
}

-- ---- that of a line that is tried

job_within : (b : Bool) (job made : Job) → cond b (Err compile_line) (Ok made) ≡ Ok job → made ≡ job
job_within true job made e = absurd (cc)
job_within false job made e = cc

means_job : (r : Ready) (job : Job) → IsFit r → (answer : OrLine Job) → Compiles (Ok r) answer → answer ≡ Ok job
    → HasMeaning job
means_job r job fit answer h e =
    let made : Job = record { rules = bodies r.rules; goal = r.goal; code = h.0 } in
    let same : made ≡ job = job_within (nat_lt 1048576 (length h.0)) job made (sym h.2 ∙ e) in
    subst (λ (x : Job). HasMeaning x) same (meaning_of (bodies r.rules) r.goal h.0 fit.whole fit.root)

means_load : (tree : Tree) (v : PatternRequest) (l : Load Job) (job : Job) (o : OrLine Ready)
    → IsPrepared tree v l.asked o → Compiles o l.answer → l.answer ≡ Ok job → HasMeaning job
means_load tree v l job (Err line) h c e = absurd (cc)
means_load tree v l job (Ok r) h c e = means_job r job (fit_prepared tree v l.asked r h) l.answer c e

pub tries_mean : (tree : Tree) (folders : List (List ℕ)) (w : Loading) → IsLoading tree folders w → TriesMean w
tries_mean tree folders w is texts pattern job e =
    let h = is.goals texts pattern in
    means_load tree (kept_request folders texts pattern) (w.goal texts pattern) job h.ready h.prepares h.compiles e
