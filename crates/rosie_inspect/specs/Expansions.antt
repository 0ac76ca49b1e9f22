-- What is printed for a pattern: how it is written, its core, and the core of each rule that it reaches.
use Rattle.std.specs.Prelude.{◌≡◌, ℕ, ◌+◌, Bool, true, map, ◌↔◌, List, [], ◌∷◌, ◌++◌, Option, Some, codes}
use Rattle.std.specs.Str.{encode_utf8_all}
use Rattle.rpl_core.specs.Core.{Core}
use Rattle.rpl_core.specs.Programs.{Reaches}
use Rattle.rpl_expand.specs.Printed.{printed}
use Rattle.rpl_forms.specs.Table.{Row, full_names}
use Rattle.rpl_syntax.specs.Expression.{Expr}
use Rattle.rpl_syntax.specs.Printed as P

-- the line of a rule: its full name and its core, in which calls are written with these names
abbrev pub rule_line : (names : List (List ℕ)) → Row → List ℕ
rule_line names rule = encode_utf8_all rule.name ++ codes " = " ++ printed names rule.body ++ codes "\n"

-- the line of a rule that is marked
abbrev pub line_if : (names : List (List ℕ)) → Bool → Option Row → List ℕ
line_if names true (Some rule) = rule_line names rule
line_if names _ _ = []

-- the lines of the marked rules in the order of the table; the first of these rules has the number k
abbrev pub rule_lines : (names : List (List ℕ)) → (ℕ → Bool) → ℕ → List Row → List ℕ
rule_lines names marks k [] = []
rule_lines names marks k (rule ∷ rules) = line_if names (marks k) (Some rule) ++ rule_lines names marks (k + 1) rules

-- the pattern as it is written, and its core
abbrev pub pattern_lines : (names : List (List ℕ)) → Expr → Core → List ℕ
pattern_lines names e g =
    codes "pattern " ++ encode_utf8_all (P.printed e) ++ codes "\n* = " ++ printed names g ++ codes "\n"

-- the text of the expression e with the core g over these rules: just those that g reaches have a line
pub record IsExpansion (rules : List Row) (e : Expr) (g : Core) (text : List ℕ) : Type 0 where
  pub marks : ℕ → Bool
  pub exact : (r : ℕ) → (marks r ≡ true) ↔ Reaches (map (λ (r : Row). r.body) rules) g r
  pub same : text ≡ pattern_lines (full_names rules) e g ++ rule_lines (full_names rules) marks 0 rules
