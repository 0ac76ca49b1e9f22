-- The calls of a goal, and its tree.
use Rattle.std.proofs.Common.{◌≡◌, ℕ, suc, ◌<◌, List, [], ◌∷◌, ◌++◌, length, refl, sym, ap, ◌∙◌}
use Rattle.std.proofs.Common.{subst, inl, inr, arith, length-append}
use Rattle.std.specs.Prelude.{Bool, true, false, not, Option, Some, None, slice_get, option_map, codes}
use Rattle.std.proofs.lemmas.Bool.{cases_order}
use Rattle.std.proofs.lemmas.List.{length-map}
use Rattle.std.proofs.lemmas.Option.{slice_get_within, slice_get-map}
use Rattle.rpl_core.specs.Core.{Core, Call}
use Rattle.rpl_core.specs.Programs.{calls}
use Rattle.rpl_core.specs.Table.{bodies_of}
use Rattle.rpl_core.specs.View.{core_of}
use Rattle.rpl_core.specs.declared.rules.Rule.{Rule}
use Rattle.rpl_forms.specs.Inlining.{Inners, inner, inlined}
use Rattle.rpl_forms.specs.Rows.{Row, row_at, rows_of, inners_from, inners_of}
use Rattle.rpl_forms.proofs.Standing.{get_before, get_last}
use Rattle.rpl_macro.specs.declared.casing.Casing.TheVariants.{Plain}
use Rattle.rpl_compile_laws.specs.Laws.{IsCapture, itself, by_call}
use Rattle.rpl_syntax.specs.Expression.{Expr}
use Rattle.rpl_syntax.specs.Expression as X
use Rattle.rpl_syntax.specs.declared.name.QName.{QName}
use Rattle.rpl_expand.specs.Expansion.{Scope, core}
use Rattle.rpl_expand.specs.Table.{captured, goal, has_root}
use Rattle.rpl_expand.specs.Bound.{IsOver, MakeTrees}
use Rattle.rpl_expand.proofs.Calls.{Only, OnlyInners, Allows, only_core, only_inlined}

stands : (P : ℕ → Type 0) (I : Inners) (b : Option ℕ) (p q : Core) → OnlyInners P I → Only P p → inner I b p ≡ Some q
    → Only P q
stands P I (Some k) p q ok f e = absurd cc
stands P I None p q ok f e = let same : inlined I p ≡ q = cc in subst (Only P) same (only_inlined P I ok p f)

more : (P : ℕ → Type 0) (I : Inners) (x : Option Core) → OnlyInners P I → ((q : Core) → x ≡ Some q → Only P q)
    → OnlyInners P (I ++ x ∷ [])
more P I x ok h r q e = elim (cases_order r (length I)) [
  | inl is ↦ h q (let here : Some x ≡ Some (Some q) = sym (get_last I x) ∙ ap (slice_get (I ++ x ∷ [])) (sym is)
      ∙ e in cc)
  | inr (inl lt) ↦ ok r q (sym (get_before I x r lt) ∙ e)
  | inr (inr gt) ↦ absurd (omega (arith, slice_get_within (I ++ x ∷ []) r (Some q) e, length-append I (x ∷ [])))
]

from : (P : ℕ → Type 0) (I : Inners) (rows : List Row) → OnlyInners P I
    → ((r : ℕ) (w : Row) → slice_get rows r ≡ Some w → Only P w.body) → OnlyInners P (inners_from I rows)
from P I [] ok h = ok
from P I (w ∷ rows) ok h =
    from P (I ++ inner I w.block w.body ∷ []) rows
    (more P I (inner I w.block w.body) ok (λ q e. stands P I w.block w.body q ok (h 0 w refl) e))
    (λ r v e. h (suc r) v e)

row_there : (o : Option Rule) (w : Row) → option_map row_at o ≡ Some w → (r : Rule) × (o ≡ Some r) × (row_at r ≡ w)
row_there None w e = absurd cc
row_there (Some r) w e = (r, refl, cc)

-- what stands for the rules calls rules alone
rules_only : (P : ℕ → Type 0) (rs : List Rule)
    → ((r : ℕ) (p : Core) → slice_get (bodies_of rs) r ≡ Some p → Only P p) → OnlyInners P (inners_of rs)
rules_only P rs h = from P [] (rows_of rs) (λ r q e. absurd cc) (λ r w e.
    let row = row_there (slice_get rs r) w (sym (slice_get-map row_at rs r) ∙ e) in
    let body = slice_get-map (λ x. core_of x.body) rs r ∙ ap (option_map (λ x. core_of x.body)) row.1 in
    let f = h r (core_of row.0.body) body in
    subst (λ v. Only P v.body) row.2 f)

only_captured : (P : ℕ → Type 0) (c : Bool) (name : List ℕ) (p : Core) → Only P p → Only P (captured c name p)
only_captured P true name p f = f
only_captured P false name p f = f

-- a goal calls rules alone
pub goal_only : (rs : List Rule) (captures : QName → Bool) (s : Scope) (e : Expr) → s.inners ≡ inners_of rs
    → IsOver (bodies_of rs) s → (t : ℕ) → calls (goal captures s e) t ≡ true → t < length rs
goal_only rs captures s e same o t h =
    let long : length (bodies_of rs) ≡ length rs = length-map rs (λ x. core_of x.body) in
    let P : ℕ → Type 0 = λ n. n < length (bodies_of rs) in
    let ok : OnlyInners P s.inners =
    subst (OnlyInners P) (sym same) (rules_only P rs (λ r p g n k. o.rules r n p g k)) in
    let a : Allows P s = record { boundary = o.boundary; names = o.names; halt = o.halt; inners = ok } in
    let all = only_captured P (not (has_root captures e)) (codes "*") (core Plain s e) (only_core P s a Plain e) in
    let lt = all t h in
    omega (arith, lt, long)

root_by : (R : List Core) (captures : QName → Bool) (s : Scope) (q : QName) (b : Bool) → captures q ≡ b
    → MakeTrees R captures s → (label : List ℕ) × IsCapture R label (captured (not b) (codes "*") (Call (s.rule q)))
root_by R captures s q true e m = let f = m q e in (f.0, by_call (s.rule q) f.1 f.2)
root_by R captures s q false e m = (codes "*", itself (Call (s.rule q)))

-- a goal makes one tree
pub goal_root : (R : List Core) (captures : QName → Bool) (s : Scope) (e : Expr) → MakeTrees R captures s
    → (label : List ℕ) × IsCapture R label (goal captures s e)
goal_root R captures s (X.Name q) m = root_by R captures s q (captures q) refl m
goal_root R captures s (X.Text t) m = (codes "*", itself _)
goal_root R captures s (X.Class r n) m = (codes "*", itself _)
goal_root R captures s X.Any m = (codes "*", itself _)
goal_root R captures s X.Start m = (codes "*", itself _)
goal_root R captures s X.End m = (codes "*", itself _)
goal_root R captures s X.Boundary m = (codes "*", itself _)
goal_root R captures s (X.Cooked ps) m = (codes "*", itself _)
goal_root R captures s (X.Raw ps) m = (codes "*", itself _)
goal_root R captures s (X.Choice ps) m = (codes "*", itself _)
goal_root R captures s (X.Both p q) m = (codes "*", itself _)
goal_root R captures s (X.Prefix g p) m = (codes "*", itself _)
goal_root R captures s (X.Repeat p l n) m = (codes "*", itself _)
goal_root R captures s (X.Macro q p) m = (codes "*", itself _)
goal_root R captures s (X.Marked k p) m = (codes "*", itself _)
goal_root R captures s (X.Note t) m = (codes "*", itself _)
