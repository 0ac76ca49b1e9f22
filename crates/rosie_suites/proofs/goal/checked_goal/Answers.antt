use Rattle.std.proofs.Common.{◌<◌, ℕ, List, length, sym, ap, subst, ◌∙◌, ◌≡◌, Option, Some, None, refl}
use Rattle.std.proofs.Math.Logic.{∥∥₁_elim, ∥∥₁_map}
use Rattle.std.proofs.Props.{props}
use Rattle.std.proofs.lemmas.List.{length-map}
use Rattle.rpl_core.specs.Programs.{calls}
use Rattle.rpl_core.specs.Table.{bodies_of}
use Rattle.rpl_core.specs.View.{core_of}
use Rattle.rpl_check.specs.Goal.{peg_of}
use Rattle.rpl_expand.proofs.Merely.{root_out}
use Rattle.rpl_compile_laws.specs.Laws.{IsCapture, by_call, itself}
use Rattle.rosie_suites.proofs.goal.checked_goal.Goals as goal
use Rattle.std.specs.Prelude.{Bool, true, false, if◌then◌else◌, codes, is_some}
use Rattle.rpl_check.specs.Answers.{IsDue, fault_named}
use Rattle.rpl_check.specs.Faults.{Fault, goal_fault}
use Rattle.rpl_check.specs.declared.fault.CheckFault.{CheckFault}
use Rattle.rpl_core.proofs.Bools.{eq_of}
use Rattle.rpl_core.specs.Core.{Core, Call, Capture}
use Rattle.rpl_expand.specs.LoadLaws.{IsRuleOf}
use Rattle.rpl_names.specs.declared.targets.Target.{Target}
use Rattle.rosie_suites.specs.Suites.{goal_of}

abbrev called : Bool → ℕ → Core
called b n = if b then Call n else Capture (codes "*") (Call n)

calls_by : (b : Bool) (n r : ℕ) → calls (called b n) r ≡ true → n ≡ r
calls_by true n r h = eq_of n r h
calls_by false n r h = eq_of n r h

calls_one : (t : Target) (r : ℕ) → calls (goal_of t) r ≡ true → t.rule ≡ r
calls_one t r h = calls_by t.captures t.rule r h

sound_by : (m h : ℕ → Bool) (b : Bool) (n : ℕ) → goal_fault m h (called b n) ≡ None
sound_by m h true n = refl
sound_by m h false n = refl

none_due : (o f : Option Fault) → o ≡ None → IsDue o f → is_some f ≡ true → ⊥
none_due o None e d k = absurd (cc)
none_due o (Some f) e d k = absurd (cc)

-- so the check names no fault of it
no_fault : (m h : ℕ → Bool) (t : Target) (c : Core) (e : CheckFault) → c ≡ goal_of t
    → IsDue (goal_fault m h c) (fault_named e) → is_some (fault_named e) ≡ true → ⊥
no_fault m h t c e is d k =
    none_due (goal_fault m h c) (fault_named e) (ap (goal_fault m h) is ∙ sound_by m h t.captures t.rule) d k

root_by : (R : List Core) (t : Target) (b : Bool) → t.captures ≡ b → IsRuleOf R t
    → (label : List ℕ) × IsCapture R label (called b t.rule)
root_by R t true e is = let c = is.captures e in (c.0, by_call t.rule c.1 c.2)
root_by R t false e is = (codes "*", itself (Call t.rule))

one_tree : (R : List Core) (t : Target) → IsRuleOf R t → (label : List ℕ) × IsCapture R label (goal_of t)
one_tree R t is = root_by R t t.captures refl is

pub check_pattern-requires : goal.check_pattern-requires
check_pattern-requires c = λ r h.
    let rules = c.args.rules.now in
    let called = calls_one c.args.target r (ap (λ p. calls p r) (sym c.in_ok-goal.ensures) ∙ h) in
    let within = ∥∥₁_elim c.requires (Prim.hlevel props) (λ is. is.within) in
    subst (λ n. r < n) (length-map rules (λ x. core_of x.body))
    (subst (λ n. n < length (bodies_of rules)) called within)

pub unreachable-requires : goal.unreachable-requires
unreachable-requires c =
    let d = c.in-Err.ensures.exactly.0 in
    no_fault d.empties d.halting c.args.target (core_of c.in_ok-goal.goal) _ c.in_ok-goal.ensures
    c.in-Err.ensures.exactly.1 c.in-Err.ensures.memory

pub returns-clause-root : goal.returns-clause-root
returns-clause-root c =
    let R = bodies_of c.args.rules.now in
    let same = ap core_of c.in-Ok.ensures.same ∙ c.in_ok-goal.ensures in
    root_out R (core_of (peg_of c.in-Ok.goal)) (∥∥₁_map c.requires (λ is.
    subst (λ g. (label : List ℕ) × IsCapture R label g) (sym same) (one_tree R c.args.target is)))
