-- How contracts see what the calls of a package set borrow.
use Rattle.std.specs.Prelude.{ℕ, List, Option, Some, None, chars}
use Rattle.std.specs.Borrow.{Bor}
use Rattle.rpl_syntax.specs.Expression as M
use Rattle.rpl_syntax.specs.View.{expr_of}
use Rattle.rpl_syntax.specs.declared.expr.Expr.{Expr}
use Rattle.rpl_scope.specs.Packages as P
use Rattle.rpl_scope.specs.Seen.{rule_seen}
use Rattle.rpl_scope.specs.declared.module.Rule.{Rule}
use Rattle.rpl_names.specs.Targets as T
use Rattle.rpl_names.specs.declared.resolve.Site.{Site}
use Rattle.rpl_names.specs.declared.table.Row.{Row}
use Rattle.rpl_names.specs.declared.targets.RuleHead.{RuleHead}

abbrev pub row_found : Option (Bor Row) → Option Row
row_found None = None
row_found (Some r) = Some r.now

abbrev pub name_found : Option (Bor (List ℕ)) → Option (List ℕ)
name_found None = None
name_found (Some n) = Some n.now

abbrev pub rule_found : Option (Bor Rule) → Option P.Rule
rule_found None = None
rule_found (Some r) = Some (rule_seen r.now)

abbrev pub expr_found : Option (Bor Expr) → Option M.Expr
expr_found None = None
expr_found (Some e) = Some (expr_of e.now)

abbrev pub head_seen : RuleHead → T.Head
head_seen h = record { name = chars h.name.now; from = h.module; block = h.block; captures = h.captures }

abbrev pub head_found : Option RuleHead → Option T.Head
head_found None = None
head_found (Some h) = Some (head_seen h)

abbrev pub spot_found : Option (Bor (List ℕ) × ℕ) → Option (List ℕ × ℕ)
spot_found None = None
spot_found (Some s) = Some (chars s.0.now, s.1)

abbrev pub site_seen : Site → T.Site
site_seen s = record { owner = s.owner; start = s.start }

abbrev pub site_found : Option Site → Option T.Site
site_found None = None
site_found (Some s) = Some (site_seen s)

abbrev pub text_found : Option (Bor (List ℕ)) → Option (List ℕ)
text_found None = None
text_found (Some s) = Some (chars s.now)
