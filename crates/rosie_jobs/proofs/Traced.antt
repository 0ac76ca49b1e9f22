-- What a trace makes of a line.
use Rattle.std.proofs.Common.{ℕ, ◌≡◌, ◌+◌, ◌<◌, ◌≤◌, Bool, true, false, cond, List, [], ◌++◌, refl, sym, ◌∙◌, ap, subst}
use Rattle.std.proofs.Common.{append_assoc, arith}
use Rattle.std.specs.Prelude.{Option, is_some, nat_lt, codes, chars}
use Rattle.std.specs.Fmt.{decimal}
use Rattle.rosie_run.specs.Lines.{line_fault}
use Rattle.rosie_run.specs.Made.{IsMade}
use Rattle.rosie_run.specs.Report.{Piece, stop_piece}
use Rattle.rosie_run.specs.declared.mark.Mark.{Mark}
use Rattle.rosie_run.specs.declared.mark.Mark.TheVariants.{Hit, Miss, Stop}
use Rattle.rpl_core.specs.Meaning.{Outcome, Open, Fail, At, HaltAt}
use Rattle.rpl_core.specs.Outcome.{outcome, work_of}
use Rattle.rpl_trace.specs.Evaluations.{trace}
use Rattle.rpl_trace.specs.Printed.{printed}
use Rattle.rpl_trace.specs.Traces.{place_behind}
use Rattle.rosie_jobs.specs.Lines.{Job, matches}
use Rattle.rosie_jobs.specs.Makers.{trace_makes, trace_text}

matches_behind : (t : List ℕ) (o : Outcome) → is_some (place_behind t o) ≡ matches o
matches_behind t Open = refl
matches_behind t (Fail w) = refl
matches_behind t (At w j f) = refl
matches_behind t (HaltAt w j f) = refl

abbrev traced_piece : List (List ℕ) → Job → ℕ → List ℕ → Piece
traced_piece names job n t =
    record {
      out = trace_text names job n t;
      err = [];
      mark = cond (matches (outcome job.rules job.goal t)) Hit Miss;
      cost = 0;
    }

-- a line within the limit
pub line_traced : (limit : ℕ) (names : List (List ℕ)) (job : Job) (file : List ℕ) (n : ℕ) (line : List ℕ) (end :
    Option ℕ) (mark : Mark) (out err : List ℕ)
    → work_of (outcome job.rules job.goal (chars line)) ≤ limit
    → end ≡ place_behind (chars line) (outcome job.rules job.goal (chars line))
    → mark ≡ cond (is_some end) Hit Miss → out ≡ trace_text names job n (chars line) → err ≡ []
    → IsMade mark out err (trace_makes limit names job file n line)
unfolding trace_makes
line_traced limit names job file n line end mark out err within e m o r =
    let found = outcome job.rules job.goal (chars line) in
    let test : nat_lt limit (work_of found) ≡ false = grind (arith, within) in
    let stop = stop_piece (line_fault file n (codes "trace too long")) in
    let told = traced_piece names job n (chars line) in
    let P : Bool → Type 0 = λ b. IsMade mark out err (cond b stop told) in
    subst P (sym test)
    (record {
      marks = m ∙ ap (λ x. cond (is_some x) Hit Miss) e
          ∙ ap (λ b. cond b Hit Miss) (matches_behind (chars line) found);
      writes = o;
      tells = r;
    })

-- and one that isn't
pub line_too_long : (limit : ℕ) (names : List (List ℕ)) (job : Job) (file : List ℕ) (n : ℕ) (line : List ℕ) (out err :
    List ℕ)
    → limit < work_of (outcome job.rules job.goal (chars line)) → out ≡ []
    → err ≡ line_fault file n (codes "trace too long") → IsMade Stop out err (trace_makes limit names job file n line)
unfolding trace_makes
line_too_long limit names job file n line out err over o r =
    let found = outcome job.rules job.goal (chars line) in
    let test : nat_lt limit (work_of found) ≡ true = grind (arith, over) in
    let stop = stop_piece (line_fault file n (codes "trace too long")) in
    let told = traced_piece names job n (chars line) in
    let P : Bool → Type 0 = λ b. IsMade Stop out err (cond b stop told) in
    subst P (sym test) (record { marks = refl; writes = o; tells = r })

-- no step of the machine is made
pub no_cost : (limit : ℕ) (names : List (List ℕ)) (job : Job) (file : List ℕ) (n : ℕ) (line : List ℕ)
    → (trace_makes limit names job file n line).cost ≡ 0
unfolding trace_makes
no_cost limit names job file n line =
    by_case (nat_lt limit (work_of (outcome job.rules job.goal (chars line))))
    (stop_piece (line_fault file n (codes "trace too long"))) (traced_piece names job n (chars line)) refl refl
  where
    by_case : (b : Bool) (p q : Piece) → p.cost ≡ 0 → q.cost ≡ 0 → (cond b p q).cost ≡ 0
    by_case true p q e f = e
    by_case false p q e f = f

pub no_steps : (limit : ℕ) (names : List (List ℕ)) (job : Job) (file : List ℕ) (n : ℕ) (line : List ℕ) (steps : ℕ)
    → steps ≡ steps + (trace_makes limit names job file n line).cost
no_steps limit names job file n line steps = let e = no_cost limit names job file n line in omega arith

-- what a trace of a job tells, within the limit
pub record IsTold (limit : ℕ) (place : Option ℕ) (text : List ℕ) (names : List (List ℕ)) (job : Job) (t : List ℕ) :
    Type 0 where
  pub within : work_of (outcome job.rules job.goal t) ≤ limit
  pub ends : place ≡ place_behind t (outcome job.rules job.goal t)
  pub bytes : text ≡ printed names t 0 (trace job.rules job.goal t)

-- a line within the limit, whose trace was printed
pub told_line : (limit : ℕ) (names : List (List ℕ)) (job : Job) (t : List ℕ) (file : List ℕ) (n : ℕ) (line :
    List ℕ) (end : Option ℕ) (bytes : List ℕ) (mark : Mark) (out err : List ℕ)
    → t ≡ chars line → IsTold limit end bytes names job t → mark ≡ cond (is_some end) Hit Miss
    → out ≡ codes "line " ++ (decimal n ++ (codes "\n" ++ bytes)) → err ≡ []
    → IsMade mark out err (trace_makes limit names job file n line)
told_line limit names job t file n line end bytes mark out err e h m o r =
    let k = subst (λ x. IsTold limit end bytes names job x) e h in
    line_traced limit names job file n line end mark out err k.within k.ends m (o
    ∙ ap (λ x. codes "line " ++ (decimal n ++ (codes "\n" ++ x))) k.bytes) r

pub over_line : (limit : ℕ) (names : List (List ℕ)) (job : Job) (t : List ℕ) (file : List ℕ) (n : ℕ) (line out err :
    List ℕ)
    → t ≡ chars line → limit < work_of (outcome job.rules job.goal t) → out ≡ []
    → err ≡ line_fault file n (codes "trace too long")
    → IsMade Stop out err (trace_makes limit names job file n line)
over_line limit names job t file n line out err e h o r =
    line_too_long limit names job file n line out err (subst (λ x. limit < work_of (outcome job.rules job.goal x)) e h)
    o r

pub four_texts : (a d n e x1 x2 x3 x4 : List ℕ) → x1 ≡ a → x2 ≡ x1 ++ d → x3 ≡ x2 ++ n → x4 ≡ x3 ++ e
    → x4 ≡ a ++ (d ++ (n ++ e))
four_texts a d n e x1 x2 x3 x4 h1 h2 h3 h4 =
    h4 ∙ ap (λ y. y ++ e) (h3 ∙ ap (λ y. y ++ n) (h2 ∙ ap (λ y. y ++ d) h1)) ∙ append_assoc (a ++ d) n e
    ∙ append_assoc a d (n ++ e)
