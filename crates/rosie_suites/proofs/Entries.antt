-- The codes that are kept while the tests are tried.
use Rattle.std.proofs.Common.{ℕ, ◌≡◌, List, [], ◌∷◌, ◌++◌, get_or, sym, ◌∙◌, ap, subst, arith}
use Rattle.std.specs.Prelude.{Option}
use Rattle.std.proofs.lemmas.List.{get_or_default}
use Rattle.std.proofs.lemmas.List.Elements.{All-push}
use Rattle.rpl_core.specs.Core.{Core}
use Rattle.rpl_names.specs.declared.targets.Target.{Target}
use Rattle.rosie_suites.specs.Tried.{subject_for}
use Rattle.rosie_suites.specs.declared.subject.Entry.{Entry}
use Rattle.rosie_suites.specs.inside.Entries.{AreSound, IsSound, StandsAt, nothing, subject_of}
use Rattle.rosie_suites.specs.inside.Ready.{IsReady}

pub sound_none : (R : List Core) → AreSound R []
sound_none R = λ k d lt. absurd (omega arith)

-- one more, that is sound
pub sound_next : (R : List Core) (es : List Entry) (e : Entry) → AreSound R es
    → subject_of R e.subject ≡ subject_for R e.target → ∥ IsReady (subject_of R e.subject) ∥₁
    → AreSound R (es ++ e ∷ [])
sound_next R es e h subject ready = All-push (IsSound R) es e h (record { subject = subject; ready = ready })

-- the entry of a target, read at its place
module _ (R : List Core) (es : List Entry) (o : Option Target) (i : ℕ) (x d : Entry) (sound : AreSound R es)
    (at : StandsAt es o i) (read : x ≡ get_or es i d) where
  same : x ≡ get_or es i nothing
  same = read ∙ get_or_default es i d nothing at.there

  pub subject_at : subject_of R x.subject ≡ subject_for R o
  subject_at =
      ap (λ e. subject_of R e.subject) same ∙ (sound i nothing at.there).subject ∙ ap (subject_for R) at.is

  pub ready_of : ∥ IsReady (subject_of R x.subject) ∥₁
  ready_of = subst (λ e. ∥ IsReady (subject_of R e.subject) ∥₁) (sym same) (sound i nothing at.there).ready
