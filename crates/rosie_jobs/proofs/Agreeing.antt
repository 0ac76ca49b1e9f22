-- A trace and a match agree.
use Rattle.std.proofs.Common.{ℕ, zero, suc, ◌≡◌, List, refl, sym, ◌∙◌, ap}
use Rattle.std.specs.Prelude.{chars}
use Rattle.rpl_core.specs.Core.{Core, Cores, NoMore, Then}
use Rattle.rpl_core.specs.Core as C
use Rattle.rpl_core.specs.Meaning.{Outcome, Open, Fail, At, HaltAt, level, level_first, no_depth, peg}
use Rattle.rpl_core.specs.Outcome.{as_match, depth}
use Rattle.rpl_trace.specs.Evaluations.{Evaluations, ending, made, made_first, none_made, evaluations}
use Rattle.rpl_trace.specs.Traces.{ending_place, place_behind}
use Rattle.rosie_jobs.specs.Laws.{first_ending, TracesAgree}
use Rattle.rosie_jobs.proofs.Allowed.{match_mark, trace_mark}

module _ (below : Core → ℕ → Outcome) (under : Core → ℕ → Evaluations) (R : List Core) (t : List ℕ) where
  -- the first evaluation of a core is its own
  mutual
    first_made : (e : Core) (i : ℕ) → first_ending (made below under R t e i) ≡ ending (level below R t e i)
    first_made (C.Set s) i = refl
    first_made (C.Seq ps) i = refl
    first_made (C.Choice ps) i = first_way ps i
    first_made (C.Many p) i = refl
    first_made (C.Not p) i = refl
    first_made (C.And p) i = refl
    first_made (C.Behind l m p) i = refl
    first_made (C.Call r) i = refl
    first_made (C.Capture c p) i = refl
    first_made (C.Note x) i = refl
    first_made C.Start i = refl
    first_made C.End i = refl
    first_made C.Halt i = refl

    first_way : (ps : Cores) (i : ℕ) → first_ending (made_first below under R t ps i)
        ≡ ending (level_first below R t ps i)
    first_way NoMore i = refl
    first_way (Then p NoMore) i = first_made p i
    first_way (Then p (Then q ps)) i = refl

first_of : (n : ℕ) (R : List Core) (t : List ℕ) (e : Core) (i : ℕ)
    → first_ending (evaluations n R t e i) ≡ ending (peg n R t e i)
first_of zero R t e i = first_made no_depth none_made R t e i
first_of (suc n) R t e i = first_made (peg n R t) (evaluations n R t) R t e i

place_ending : (t : List ℕ) (o : Outcome) → ending_place t (ending o) ≡ place_behind t (as_match o)
place_ending t Open = refl
place_ending t (Fail w) = refl
place_ending t (At w j f) = refl
place_ending t (HaltAt w j f) = refl

pub traces_agree : TracesAgree
traces_agree s limit names job due file n line a b =
    let t = chars line in
    record {
      marks = trace_mark limit names job file n line b ∙ sym (match_mark s job due file n line a);
      places = ap (ending_place t) (first_of (depth t job.rules) job.rules t job.goal 0)
          ∙ place_ending t (peg (depth t job.rules) job.rules t job.goal 0);
    }
