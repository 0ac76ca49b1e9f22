-- The rules of a table as rows, and their lines one after the other.
use Rattle.std.proofs.Common.{◌≡◌, ℕ, zero, suc, ◌+◌, ◌<◌, List, [], ◌∷◌, ◌++◌, length, drop, refl, sym, ap, subst}
use Rattle.std.proofs.Common.{◌∙◌, arith}
use Rattle.std.specs.Prelude.{Bool, true, false, ◌↔◌, Some, map, slice_get}
use Rattle.rpl_core.specs.Core.{Core}
use Rattle.rpl_core.specs.Programs.{Reaches}
use Rattle.rpl_core.specs.Table as T
use Rattle.rpl_core.specs.declared.rules.Rule.{Rule}
use Rattle.rpl_forms.specs.Rows.{Row, rows_of}
use Rattle.rpl_forms.specs.Table.{full_names}
use Rattle.rpl_core.specs.Marked.{marked, MarksReached}
use Rattle.rpl_syntax.specs.Expression.{Expr}
use Rattle.rosie_inspect.specs.Laws.{OneExpansion}
use Rattle.rosie_inspect.specs.Expansions.{line_if, rule_lines, pattern_lines, IsExpansion}

names_in : (rs : List Rule) → T.names_of rs ≡ full_names (rows_of rs)
names_in [] = refl
names_in (r ∷ rs) = ap (λ x. r.name ∷ x) (names_in rs)

bodies_in : (rs : List Rule) → T.bodies_of rs ≡ map (λ (r : Row). r.body) (rows_of rs)
bodies_in [] = refl
bodies_in (r ∷ rs) = ap (λ x. T.bodies_of (r ∷ []) ++ x) (bodies_in rs)

pub rows_long : (rs : List Rule) → length (rows_of rs) ≡ length rs
rows_long [] = refl
rows_long (r ∷ rs) = ap suc (rows_long rs)

-- the lines from one rule on
pub lines_here : (names : List (List ℕ)) (marks : ℕ → Bool) (k n : ℕ) (rows : List Row) → n < length rows →
    rule_lines names marks k (drop n rows)
    ≡ line_if names (marks k) (slice_get rows n) ++ rule_lines names marks (k + 1) (drop (n + 1) rows)
lines_here names marks k n [] lt = absurd (omega arith)
lines_here names marks k zero (r ∷ rs) lt = refl
lines_here names marks k (suc n) (r ∷ rs) lt =
    let e : suc n + 1 ≡ suc (n + 1) = omega arith in
    lines_here names marks k n rs (omega arith)
    ∙ ap (λ j. line_if names (marks k) (slice_get rs n) ++ rule_lines names marks (k + 1) (drop j (r ∷ rs))) (sym e)

-- what is written is the text that is defined
pub shown : (rs : List Rule) (e : Expr) (g : Core) (bs : List Bool) (text : List ℕ) →
    MarksReached (T.bodies_of rs) g bs →
    text ≡ pattern_lines (T.names_of rs) e g ++ rule_lines (T.names_of rs) (marked bs) 0 (rows_of rs) →
    IsExpansion (rows_of rs) e g text
shown rs e g bs text reached is = record {
  marks = marked bs;
  exact = λ r. subst (λ bodies. (marked bs r ≡ true) ↔ Reaches bodies g r) (bodies_in rs) (reached.exact r);
  same = is ∙ ap (λ names. pattern_lines names e g ++ rule_lines names (marked bs) 0 (rows_of rs)) (names_in rs);
}

-- ---- one text

both_ways : (a b : Bool) → (a ≡ true → b ≡ true) → (b ≡ true → a ≡ true) → a ≡ b
both_ways true b f g = sym (f refl)
both_ways false true f g = g refl
both_ways false false f g = refl

lines_by : (names : List (List ℕ)) (m n : ℕ → Bool) → ((r : ℕ) → m r ≡ n r) → (k : ℕ) (rows : List Row) →
    rule_lines names m k rows ≡ rule_lines names n k rows
lines_by names m n same k [] = refl
lines_by names m n same k (r ∷ rs) =
    ap (λ b. line_if names b (Some r) ++ rule_lines names m (k + 1) rs) (same k)
    ∙ ap (λ l. line_if names (n k) (Some r) ++ l) (lines_by names m n same (k + 1) rs)

-- the text of an expansion is unique
pub one_pattern_text : OneExpansion
one_pattern_text rules e g a b s t =
    let marks : (r : ℕ) → s.marks r ≡ t.marks r =
    λ r. both_ways (s.marks r) (t.marks r) (λ x. (t.exact r).1 ((s.exact r).0 x))
    (λ x. (s.exact r).1 ((t.exact r).0 x)) in
    s.same
    ∙ ap (λ l. pattern_lines (full_names rules) e g ++ l) (lines_by (full_names rules) s.marks t.marks marks 0 rules)
    ∙ sym t.same
