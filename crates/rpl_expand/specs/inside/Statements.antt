-- How contracts see a statement.
use Rattle.std.specs.Prelude.{Option, Some, None}
use Rattle.rpl_names.specs.Sets.{set_seen}
use Rattle.rpl_names.specs.Targets.{resolved}
use Rattle.rpl_syntax.specs.View.{expr_of}
use Rattle.rpl_expand.specs.Sets.{rule_of}
use Rattle.rpl_expand.specs.Table as T
use Rattle.rpl_expand.specs.declared.statement.Statement.{Statement}

abbrev pub statement_seen : Statement → T.Statement
statement_seen s = record {
  name = s.name.now;
  block = s.block;
  captures = s.captures;
  rule = λ q. rule_of (resolved (set_seen s.scope.packages.now) s.scope.at q);
  boundary = s.scope.boundary;
  body = expr_of s.body.now;
}

abbrev pub statement_found : Option Statement → Option T.Statement
statement_found None = None
statement_found (Some s) = Some (statement_seen s)
