-- The second and the third pass: what is told, and what is found.
use Rattle.std.proofs.Common.{◌≡◌, ℕ, List, [], ◌∷◌, refl, sym, ◌∙◌, ap, subst}
use Rattle.std.specs.Prelude.{IfErr, IsErrAnd, Option, Some, None, Result, Ok, Err, string_bytes}
use Rattle.std.specs.Option.{option_map}
use Rattle.std.specs.Option.{option_or}
use Rattle.rosie_prepare.specs.Lines.{Line, check_line, expand_line}
use Rattle.rosie_prepare.specs.Answers.{IsDue, Prepares}
use Rattle.rosie_prepare.specs.Prepared.{
  OrLine,
  Passes,
  Ready,
  TableFacts,
  bodies,
  blocks,
  unless_faulty,
  goal_in,
  ready,
}
use Rattle.rosie_run.specs.declared.unready.Unready.{Unready}
use Rattle.rosie_run.specs.declared.unready.Unready.TheVariants.{NoMemory, Refused, ReadFault}
use Rattle.rosie_prepare.specs.Steps.{IsOwn, Tells}
use Rattle.rpl_facts.proofs.Exists.{facts_same}
use Rattle.rpl_check.specs.Answers as CA
use Rattle.rpl_check.specs.Blocks.{first_fault, table_fault}
use Rattle.rpl_facts.specs.Facts.{Facts}
use Rattle.rpl_check.specs.Faults as C
use Rattle.rpl_core.specs.Core.{Core}
use Rattle.rpl_core.specs.Table.{blocks_of, bodies_of}
use Rattle.rpl_core.specs.View.{core_of}
use Rattle.rpl_core.specs.declared.rules.Rule.{Rule}
use Rattle.rpl_expand.specs.Faults as E
use Rattle.rpl_expand.specs.Sets.{table_of}
use Rattle.rpl_forms.specs.Rows.{Row, rows_of}
use Rattle.rpl_names.specs.Roots.{Packages}
use Rattle.rpl_syntax.specs.Expression.{Expr}

-- ---- tables as rows

-- the rows of a table have the cores of its rules
pub bodies_rows_of : (rs : List Rule) → bodies (rows_of rs) ≡ bodies_of rs
bodies_rows_of [] = refl
bodies_rows_of (r ∷ rs) = ap (λ xs. core_of r.body ∷ xs) (bodies_rows_of rs)

-- the rows of a table have the blocks of its rules
pub blocks_rows_of : (rs : List Rule) → blocks (rows_of rs) ≡ blocks_of rs
blocks_rows_of [] = refl
blocks_rows_of (r ∷ rs) = ap (λ xs. r.block ∷ xs) (blocks_rows_of rs)

-- ---- a line that is told

-- an error that is reported by its line is no failed read
pub told_own : (due : Option Line) (u : Unready) → Tells due u → IsOwn u
told_own due NoMemory h = tt
told_own due (Refused line) h = tt
told_own due (ReadFault path) h = h

-- what a step stops with goes out as it is
pub due_through :
    {X A : Type 0} (view : X → A) (result : Result X Unready) (u : Unready) (d : OrLine A)
    → IsErrAnd result (λ e. e ≡ u) → IsDue u d → Prepares view result d
due_through view (Ok x) u d h k = absurd h
due_through view (Err e) u d h k = subst (λ v. IsDue v d) (sym h) k

-- where a result passes on an error that is no failed read, its error is no failed read
pub own_through :
    {X : Type 0} (result : Result X Unready) (u : Unready) → IsErrAnd result (λ e. e ≡ u) → IsOwn u
    → IfErr result IsOwn
own_through (Ok x) u h k = tt
own_through (Err e) u h k = subst IsOwn (sym h) k

pub unsound_line :
    (line : C.Fault → Line) (due named : Option C.Fault) (text : Line) → CA.IsDue due named
    → option_map line named ≡ Some text → option_map line due ≡ Some text
unsound_line line due None text h e = cc
unsound_line line due (Some f) text h e = ap (option_map line) h ∙ e

-- ---- two checks, one after the other

pub none_mapped : {F : Type 0} (line : F → Line) (o : Option F) → option_map line o ≡ None → o ≡ None
none_mapped line None h = refl
none_mapped line (Some f) h = cc

pub none_then : {F : Type 0} (a b : Option F) → a ≡ None → b ≡ None → option_or a b ≡ None
none_then a b h k = ap (λ x. option_or x b) h ∙ k

tells_line :
    {F : Type 0} (line : F → Line) (a b : Option F) (text : Line) → option_map line a ≡ Some text
    → option_map line (option_or a b) ≡ Some text
tells_line line None b text h = cc
tells_line line (Some f) b text h = h

-- what the first tells is told of both
pub tells_first :
    {F : Type 0} (line : F → Line) (a b : Option F) (u : Unready) → Tells (option_map line a) u
    → Tells (option_map line (option_or a b)) u
tells_first line a b NoMemory h = tt
tells_first line a b (Refused text) h = tells_line line a b (string_bytes text) h
tells_first line a b (ReadFault path) h = h

-- and what the second tells, where the first finds nothing
pub tells_second :
    {F : Type 0} (line : F → Line) (a b : Option F) (u : Unready) → a ≡ None → Tells (option_map line b) u
    → Tells (option_map line (option_or a b)) u
tells_second line a b u e h = subst (λ x. Tells (option_map line (option_or x b)) u) (sym e) h

-- ---- static facts are the same

-- two proofs of the static facts of a table give the same first fault, since the facts are determined
pub first_same : (R : List Core) (d e : Facts R) (B : List (Option ℕ)) → first_fault e B ≡ first_fault d B
first_same R d e B =
    let same = facts_same R e d in
    ap (λ m. table_fault m e.halting e.reach R B) same.empties
    ∙ ap (λ h. table_fault d.empties h e.reach R B) same.halting
    ∙ ap (λ f. table_fault d.empties d.halting f R B) same.reach

pub goal_same :
    (R : List Core) (d e : Facts R) (g : Core)
    → C.goal_fault e.empties e.halting g ≡ C.goal_fault d.empties d.halting g
goal_same R d e g =
    let same = facts_same R e d in
    ap (λ m. C.goal_fault m e.halting g) same.empties ∙ ap (λ h. C.goal_fault d.empties h g) same.halting

-- what is so of what is found under some facts of a table is so under all facts of the same table
module _ (R S : List Core) (A B : List (Option ℕ)) (same : R ≡ S) (line : C.Fault → Line)
    (Q : Option Line → Type 0) where
  pub rules_found :
      A ≡ B → ((e : Facts R) × Q (option_map line (first_fault e A))) → (d : Facts S)
      → Q (option_map line (first_fault d B))
  rules_found together h =
      subst (λ T. (d : Facts T) → Q (option_map line (first_fault d B))) same
      (λ d. subst (λ f. Q (option_map line f)) (first_same R d h.0 A ∙ ap (first_fault d) together) h.1)

  pub goal_found :
      (g k : Core) → g ≡ k → ((e : Facts R) × Q (option_map line (C.goal_fault e.empties e.halting g))) → (d : Facts S)
      → Q (option_map line (C.goal_fault d.empties d.halting k))
  goal_found g k alike h =
      subst (λ T. (d : Facts T) → Q (option_map line (C.goal_fault d.empties d.halting k))) same
      (λ d. subst (λ f. Q (option_map line f)) (goal_same R d h.0 g ∙ ap (C.goal_fault d.empties d.halting) alike) h.1)

-- ---- what packages come to

module _ {A : Type 0} (p : Packages) (fault : TableFacts p → Option C.Fault) (a : A) (r : OrLine A) where
  large_told :
      (t : Option E.Fault) (text : Line) → option_map (expand_line p) t ≡ Some text → Passes p t fault a r
      → r ≡ Err text
  large_told None text h c = cc
  large_told (Some f) text h c = let same : expand_line p f ≡ text = cc in c ∙ ap Err same

  pub large_due :
      (t : Option E.Fault) (u : Unready) → Tells (option_map (expand_line p) t) u → Passes p t fault a r → IsDue u r
  large_due t NoMemory h c = tt
  large_due t (Refused text) h c = large_told t (string_bytes text) h c
  large_due t (ReadFault path) h c = tt

  found_told :
      (o : Option C.Fault) (text : Line) → option_map (check_line p) o ≡ Some text → r ≡ unless_faulty p a o
      → r ≡ Err text
  found_told None text h c = cc
  found_told (Some f) text h c = let same : check_line p f ≡ text = cc in c ∙ ap Err same

  found_due_by :
      (o : Option C.Fault) (u : Unready) → Tells (option_map (check_line p) o) u → r ≡ unless_faulty p a o → IsDue u r
  found_due_by o NoMemory h c = tt
  found_due_by o (Refused text) h c = found_told o (string_bytes text) h c
  found_due_by o (ReadFault path) h c = tt

  small : (t : Option E.Fault) → t ≡ None → Passes p t fault a r → (d : TableFacts p)
      × (r ≡ unless_faulty p a (fault d))
  small t e c = subst (λ x. Passes p x fault a r) e c

  pub found_due :
      (t : Option E.Fault) (u : Unready) → t ≡ None
      → ((d : TableFacts p) → Tells (option_map (check_line p) (fault d)) u) → Passes p t fault a r → IsDue u r
  found_due t u e h c =
      let c' = small t e c in
      found_due_by (fault c'.0) u (h c'.0) c'.1

  pub passes : (t : Option E.Fault) → t ≡ None → ((d : TableFacts p) → fault d ≡ None) → Passes p t fault a r → r ≡ Ok a
  passes t e h c =
      let c' = small t e c in
      c'.1 ∙ ap (unless_faulty p a) (h c'.0)

-- ---- what is ready

ready_with : Packages → Expr → List Row → Core → Ready
ready_with p e rules goal = record { packages = p; expr = e; rules = rules; goal = goal }

pub ready_is :
    (p : Packages) (e : Expr) (rules : List Row) (goal : Core) (r : OrLine Ready) → rules ≡ table_of p
    → goal ≡ goal_in p e → r ≡ Ok (ready p e) → r ≡ Ok (record { packages = p; expr = e; rules = rules; goal = goal })
unfolding ready_with
ready_is p e rules goal r h k made =
    made ∙ ap (λ x. Ok (ready_with p e x (goal_in p e))) (sym h) ∙ ap (λ x. Ok (ready_with p e rules x)) (sym k)
