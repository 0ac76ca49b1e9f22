-- A line that is tried passes its budget only where that is due: what is loaded has a meaning on each text.
use Rattle.std.proofs.Common.{ℕ, ◌≡◌, ◌<◌, true, false, List, [], length, refl, sym, ◌∙◌, ap, subst, arith}
use Rattle.std.specs.Prelude.{Bool, Option, Some, None, Ok, Err, cond, nat_lt, slice_get}
use Rattle.std.proofs.lemmas.Grind.{merely}
use Rattle.std.proofs.lemmas.List.{length-map}
use Rattle.rosie_prepare.specs.Lines.{compile_line}
use Rattle.rosie_jobs.proofs.Allowed.{job_due}
use Rattle.rosie_jobs.specs.Budgets.{PaysFor}
use Rattle.rosie_jobs.specs.Lines.{Job}
use Rattle.rosie_words.specs.declared.settings.Settings.{Settings}
use Rattle.rosie_prepare.proofs.Passing.{blocks_rows_of, bodies_rows_of, first_same}
use Rattle.rosie_prepare.specs.Prepared.{
  GoalPasses,
  IsPrepared,
  OrLine,
  Passes,
  Ready,
  TableFacts,
  Tree,
  PatternRequest,
}
use Rattle.rosie_prepare.specs.Prepared.{blocks, bodies}
use Rattle.rosie_prepare.specs.Prepared.{
  unless_faulty,
  goal_in,
  ready,
  table_too_large,
  table_unsound,
  too_large,
  unsound,
}
use Rattle.rpl_check.proofs.Accepting.{accepted, whole_of}
use Rattle.rpl_check.proofs.Firsts.{or_none}
use Rattle.rpl_check.specs.Checked.{IsWhole}
use Rattle.rpl_facts.specs.Facts.{Facts}
use Rattle.rpl_check.specs.Faults as F
use Rattle.rpl_core.specs.Core.{Capture, Core}
use Rattle.rpl_core.specs.Instr.{Instr}
use Rattle.rpl_core.specs.Order.{IsInOrder}
use Rattle.rpl_core.specs.Programs.{IsCode, calls}
use Rattle.rpl_core.specs.Table.{blocks_of, bodies_of}
use Rattle.rpl_core.specs.View.{core_of}
use Rattle.rpl_core.specs.declared.rules.Rule.{Rule}
use Rattle.rpl_expand.proofs.Rooting.{goal_only, goal_root}
use Rattle.rpl_expand.specs.Faults as E
use Rattle.rpl_expand.specs.Sets.{captures_of, scope_of, table_of}
use Rattle.rpl_expand.specs.Bound.{IsOver, MakeTrees}
use Rattle.rpl_forms.specs.Inlining.{Inners}
use Rattle.rpl_forms.specs.Rows.{inners_from, inners_of, rows_of}
use Rattle.rpl_expand.proofs.Loaded.{own_names_are_rules, scopes_are_over, tables_are_in_order, told_is_built}
use Rattle.rpl_expand.proofs.Loaded.{trees_are_made}
use Rattle.rpl_expand.specs.LoadLaws.{IsLoaded, by_pattern, by_roots}
use Rattle.rpl_names.specs.Built.{IsBuilt}
use Rattle.rpl_names.specs.Goals.{ReadsGoal}
use Rattle.rpl_names.specs.Loading.{world}
use Rattle.rpl_names.specs.Owned.{own}
use Rattle.rpl_names.specs.Patterns.{load_pattern}
use Rattle.rpl_names.specs.Roots.{Packages, load}
use Rattle.rpl_names.specs.declared.targets.Target.{Target}
use Rattle.rpl_scope.specs.Faults.{Or, ◌>>=◌}
use Rattle.rpl_compile_laws.proofs.Answering.{answer_holds}
use Rattle.rpl_compile_laws.specs.Laws.{IsCapture}
use Rattle.rpl_syntax.specs.Expression.{Expr}
use Rattle.rosie_session.specs.Laws.{BudgetLaw}
use Rattle.rosie_session.specs.Loading.{Compiles, Load, kept_request}
use Rattle.rosie_session.specs.Replay.{plain}
use Rattle.rosie_session.proofs.Pegs.{rules_for}

-- ---- what is loaded and has no fault

module _ (p : Packages) (is : IsBuilt p) (d : TableFacts p) (small : table_too_large p ≡ None)
    (none : table_unsound p d ≡ None) where
  rules : List Rule
  rules = (rules_for (table_of p) 0 small).0

  same : rows_of rules ≡ table_of p
  unfolding rules
  same = (rules_for (table_of p) 0 small).1

  same_bodies : bodies_of rules ≡ bodies (table_of p)
  same_bodies = sym (bodies_rows_of rules) ∙ ap bodies same

  same_blocks : blocks_of rules ≡ blocks (table_of p)
  same_blocks = sym (blocks_rows_of rules) ∙ ap blocks same

  same_inners : inners_of rules ≡ inners_from [] (table_of p)
  same_inners = ap (inners_from []) same

  in_order : IsInOrder (bodies (table_of p)) (blocks (table_of p))
  in_order =
      subst (λ (R : List Core). IsInOrder R (blocks (table_of p))) same_bodies
      (subst (λ (bs : List (Option ℕ)). IsInOrder (bodies_of rules) bs) same_blocks
      (tables_are_in_order p is rules same))

  calls_rules : (e : Expr) (r : ℕ) → calls (goal_in p e) r ≡ true → r < length (bodies (table_of p))
  calls_rules e r h =
      let over = subst (λ (I : Inners). IsOver (bodies_of rules) (scope_of p None I)) same_inners
      (scopes_are_over p is rules None same) in
      let below = goal_only rules (captures_of p) (scope_of p None (inners_from [] (table_of p))) e (sym same_inners)
      over
      r h in
      let long : length (bodies_of rules) ≡ length rules = length-map rules (λ x. core_of x.body) in
      let all : length (bodies_of rules) ≡ length (bodies (table_of p)) =
      ap (λ (R : List Core). length R) same_bodies in
      omega arith

  -- a goal that calls rules of the table alone, and has no fault
  pub goal_whole : (g : Core) → ((r : ℕ) → calls g r ≡ true → r < length (bodies (table_of p)))
      → F.goal_fault d.empties d.halting g ≡ None → IsWhole (bodies (table_of p)) g
  goal_whole g below clean =
      let R = bodies (table_of p) in
      let bs = blocks (table_of p) in
      let long : length bs ≡ length R =
      length-map (table_of p) (λ r. r.block) ∙ sym (length-map (table_of p) (λ r. r.body)) in
      whole_of R d.empties d.halting
      (accepted R bs d.empties d.halting long in_order d.empties_least d.halting_least (λ reach all.
      let f : Facts R = record {
        empties = d.empties;
        halting = d.halting;
        reach = reach;
        empties_least = d.empties_least;
        halting_least = d.halting_least;
        reach_least = all;
      } in
      first_same R d f bs ∙ none))
      g below clean

  -- the target of a name that a module binds itself is a rule of the table
  pub own_within : (i : ℕ) (name : List ℕ) (t : Target) → own p i name ≡ Some t → t.rule < length (bodies (table_of p))
  own_within i name t e =
      subst (λ (R : List Core). t.rule < length R) same_bodies (own_names_are_rules p is rules i name t same e).within

  -- and its body is a capture where it is said to make a tree
  pub own_root : (i : ℕ) (name : List ℕ) (t : Target) → own p i name ≡ Some t → t.captures ≡ true
      → (label : List ℕ) × (q : Core) × (slice_get (bodies (table_of p)) t.rule ≡ Some (Capture label q))
  own_root i name t e =
      subst (λ (R : List Core). t.captures ≡ true
      → (label : List ℕ) × (q : Core) × (slice_get R t.rule ≡ Some (Capture label q))) same_bodies
      (own_names_are_rules p is rules i name t same e).captures

  -- a match of a pattern's goal is one tree
  goal_is_root : (e : Expr) → (label : List ℕ) × IsCapture (bodies (table_of p)) label (goal_in p e)
  goal_is_root e =
      let trees = subst (λ (I : Inners). MakeTrees (bodies_of rules) (captures_of p) (scope_of p None I)) same_inners
      (trees_are_made p is rules None same) in
      subst (λ (R : List Core). (label : List ℕ) × IsCapture R label (goal_in p e)) same_bodies
      (goal_root (bodies_of rules) (captures_of p) (scope_of p None (inners_from [] (table_of p))) e trees)

-- ---- what is prepared

-- the code of what is ready does what the goal means, and a match is one tree
pub record IsFit (r : Ready) : Type 0 where
  pub whole : IsWhole (bodies r.rules) r.goal
  pub root : (label : List ℕ) × IsCapture (bodies r.rules) label r.goal

fit_found :
    (r : Ready) (p : Packages) (e : Expr) (o : Option F.Fault) (d : TableFacts p) → table_too_large p ≡ None → IsBuilt p
    → unsound p e d ≡ o
    → Ok r ≡ unless_faulty p (ready p e) o → IsFit r
fit_found r p e None d small is none h =
    let same : ready p e ≡ r = cc in
    let parts = or_none (table_unsound p d) (F.goal_fault d.empties d.halting (goal_in p e)) none in
    subst IsFit same (record {
      whole = goal_whole p is d small parts.0 (goal_in p e) (calls_rules p is d small parts.0 e) parts.1;
      root = goal_is_root p is d small parts.0 e;
    })
fit_found r p e (Some f) d small is some h = absurd (cc)

fit_passes :
    (r : Ready) (p : Packages) (e : Expr) (t : Option E.Fault) → too_large p e ≡ t → IsBuilt p
    → Passes p t (unsound p e) (ready p e) (Ok r) → IsFit r
fit_passes r p e None small is h =
    let parts = or_none (table_too_large p) (E.size_fault None (goal_in p e)) small in
    fit_found r p e (unsound p e h.0) h.0 parts.0 is refl h.1
fit_passes r p e (Some f) large is h = absurd (cc)

module _ (tree : Tree) (v : PatternRequest) (parse : Or Expr) (reads : ReadsGoal v.fixed v.find v.text parse) (r :
    Ready) where
  fit_goal :
      (p : Packages) → IsLoaded tree v.folders p → (l : Or (Expr × Packages))
      → (load_pattern (world tree v.folders) p parse).answer ≡ l → GoalPasses l (Ok r) → IsFit r
  fit_goal p is (Err f) e h = absurd (cc)
  fit_goal p is (Ok l) e h =
      let after = told_is_built tree v.folders l.1 (by_pattern p l.1 v.fixed v.find v.text parse l.0 reads is e) in
      fit_passes r l.1 l.0 (too_large l.1 l.0) refl after h

  fit_comes :
      (x : Or Packages) → (load (world tree v.folders) v.roots).answer ≡ x
      → GoalPasses (x >>= λ p. (load_pattern (world tree v.folders) p parse).answer) (Ok r) → IsFit r
  fit_comes (Err f) e h = absurd (cc)
  fit_comes (Ok p) e h =
      fit_goal p (by_roots v.roots p e) (load_pattern (world tree v.folders) p parse).answer refl h

-- what is prepared has a goal whose code does what it means, and each match of it is one tree
pub fit_prepared : (tree : Tree) (v : PatternRequest) (asked : List (List ℕ)) (r : Ready)
    → IsPrepared tree v asked (Ok r) → IsFit r
fit_prepared tree v asked r h =
    fit_comes tree v h.parse h.reads r (load (world tree v.folders) v.roots).answer refl h.comes

-- ---- its job

-- a goal with its code passes a budget only where that is due
pub pays_code : (s : Settings) (R : List Core) (g : Core) (code : List Instr) → IsWhole R g → IsCode R g code
    → PaysFor s (record { rules = R; goal = g; code = code })
pays_code s R g code whole is =
    job_due s (record { rules = R; goal = g; code = code })
    (merely (λ t chars b. answer_holds whole.stays.0 _ _ _ whole.stays.1 is t chars (whole.shut t) b))

job_within : (b : Bool) (job made : Job) → cond b (Err compile_line) (Ok made) ≡ Ok job → made ≡ job
job_within true job made e = absurd (cc)
job_within false job made e = cc

pays_job : (s : Settings) (r : Ready) (job : Job) → IsFit r → (answer : OrLine Job) → Compiles (Ok r) answer
    → answer ≡ Ok job → PaysFor s job
pays_job s r job fit answer h e =
    let made : Job = record { rules = bodies r.rules; goal = r.goal; code = h.0 } in
    let same : made ≡ job = job_within (nat_lt 1048576 (length h.0)) job made (sym h.2 ∙ e) in
    subst (λ (x : Job). PaysFor s x) same (pays_code s (bodies r.rules) r.goal h.0 fit.whole h.1)

pays_load : (tree : Tree) (v : PatternRequest) (l : Load Job) (s : Settings) (job : Job) (o : OrLine Ready)
    → IsPrepared tree v l.asked o → Compiles o l.answer → l.answer ≡ Ok job → PaysFor s job
pays_load tree v l s job (Err line) h c e = absurd (cc)
pays_load tree v l s job (Ok r) h c e = pays_job s r job (fit_prepared tree v l.asked r h) l.answer c e

-- a line that is tried exceeds its budget only if that is due
pub pays_holds : BudgetLaw
pays_holds tree folders w is texts pattern job e =
    let h = is.goals texts pattern in
    pays_load tree (kept_request folders texts pattern) (w.goal texts pattern) plain job h.ready h.prepares h.compiles e
