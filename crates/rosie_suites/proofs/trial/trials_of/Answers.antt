use Rattle.std.proofs.Common.{◌≡◌, ◌≤◌, ◌∷◌, [], ◌++◌, length, sym, ap, subst, ◌∙◌, arith, ℕ, List, Option, Some, None}
use Rattle.std.specs.Prelude.{encode_utf8_all, map, IfSome}
use Rattle.std.specs.List.{All}
use Rattle.std.specs.Vec.Iter.{into_iter_items}
use Rattle.std.proofs.lemmas.List.{map-append}
use Rattle.std.proofs.lemmas.List.Elements.{All-head, All-tail}
use Rattle.rpl_core.specs.Table.{bodies_of}
use Rattle.rpl_names.specs.Owned.{own}
use Rattle.rpl_names.specs.Sets.{set_seen}
use Rattle.rpl_unittest.specs.declared.test.Test.{Test}
use Rattle.rosie_suites.specs.Tried.{subject_for, trial_of}
use Rattle.rosie_suites.specs.inside.Ready.{AreBound, AreReady}
use Rattle.rosie_suites.specs.declared.trial.Trial.{Trial}
use Rattle.rosie_suites.proofs.Tried.{Passed, all_next, bound_next, ready_next, subject_due}
use Rattle.rosie_suites.proofs.trial.trials_of.Goals as goal
use Rattle.std.proofs.Math.Logic.{∥∥₁_map}
use Rattle.rpl_core.specs.declared.rules.Rule.{Rule}
use Rattle.rpl_expand.specs.Sets.{table_of}
use Rattle.rpl_forms.specs.Rows.{rows_of}
use Rattle.rpl_expand.proofs.Loaded.{own_names_are_rules}
use Rattle.rpl_expand.specs.LoadLaws.{IsRuleOf}
use Rattle.rpl_names.specs.Built.{IsBuilt}
use Rattle.rpl_names.specs.Roots.{Packages}
use Rattle.rpl_names.specs.declared.targets.Target.{Target}

module _ (p : Packages) (rs : List Rule) (i : ℕ) (n : List ℕ) (built : ∥ IsBuilt p ∥₁) (same : rows_of rs ≡ table_of p)
  where
    rule_of_own : (o : Option Target) → o ≡ own p i n → IfSome o (λ t. ∥ IsRuleOf (bodies_of rs) t ∥₁)
    rule_of_own None e = tt
    rule_of_own (Some t) e = ∥∥₁_map built (λ b. own_names_are_rules p b rs i n t same (sym e))

-- the target of a name of a module is a rule of the table
pub check_goal-requires : goal.check_goal-requires
check_goal-requires c =
    let p = set_seen c.args.packages.now in
    rule_of_own p c.args.rules.now c.args.number _ c.args.packages.now.built c.requires.rows c.own-target.result
    c.own-target.ensures

-- no text is longer than a file
abbrev IsShort : Test → Type 0
IsShort t = length (encode_utf8_all t.text) ≤ 1048576

pub with_text-test-requires : goal.with_text-test-requires
with_text-test-requires c =
    All-head IsShort c.in-Some.test (into_iter_items c.next.new.self)
    (subst (All IsShort) c.in-Some.ensures.steps.0 c.loop-test.invariant.short)

pub loop-test-preserved : goal.loop-test-preserved
loop-test-preserved c =
    let at = c.loop-test in
    let p = set_seen c.args.packages.now in
    let R = bodies_of c.args.rules.now in
    let target = own p c.args.number in
    let t = c.with_text-test.result in
    let o = c.own-target.result in
    let trial : Trial = record { test = t; target = o } in
    let before = map (trial_of R) at.trials.items in
    let rest = into_iter_items c.next.new.self in
    let steps : into_iter_items at.test-iterator ≡ c.in-Some.test ∷ rest = c.in-Some.ensures.steps.0 in
    let next : into_iter_items at.test-iterator ≡ t ∷ rest =
    steps ∙ ap (λ x. x ∷ rest) (sym c.with_text-test.ensures.same) in
    let found : o ≡ target t.name = c.own-target.ensures ∙ ap target c.as_str.ensures in
    let all : map (trial_of R) c.push.new.self.items ≡ before ++ trial_of R trial ∷ [] =
    ap (map (trial_of R)) c.in_ok-push.ensures.items ∙ map-append (trial_of R) at.trials.items (trial ∷ []) in
    record {
      passed = λ due is.
          subst (λ ts. Passed R target due ts rest) (sym all)
          (all_next R target due before t (into_iter_items at.test-iterator) rest (subject_for R o) next
          (at.invariant.passed due is) (λ x h. subject_due R o (target t.name) x (sym found) h));
      ready =
          subst (λ ts. ∥ AreReady ts ∥₁) (sym all)
          (ready_next before (trial_of R trial) at.invariant.ready c.with_text-test.ensures.text
          c.in_ok-check_goal.ensures);
      bound =
          subst (λ ts. ∥ AreBound R ts ∥₁) (sym c.in_ok-push.ensures.items)
          (bound_next R at.trials.items trial at.invariant.bound
          (rule_of_own p c.args.rules.now c.args.number _ c.args.packages.now.built c.requires.rows o
          c.own-target.ensures));
      short = All-tail IsShort c.in-Some.test rest (subst (All IsShort) steps at.invariant.short);
      left =
          let was = at.invariant.left in
          let gone = c.in-Some.ensures.steps.1 in
          let short = ap length steps in
          omega arith;
    }
