use Rattle.std.proofs.Common.{sym, ap, ◌∙◌}
use Rattle.rpl_scope.specs.Packages.{prefixed}
use Rattle.rpl_scope.specs.Seen.{module_seen, modules_seen}
use Rattle.rpl_scope.proofs.Scopes.{empty, full, bound_empty, bound_full}
use Rattle.rpl_scope.proofs.scope.find.Goals as goal

pub returns-then-is_empty : goal.returns-then-is_empty
returns-then-is_empty c =
    bound_empty (modules_seen c.args.scope.modules.now) (module_seen c.args.scope.own.now) c.args.scope.start
    c.args.name.now c.in-Some.prefix c.in-Some.is
    (empty c.as_str-in-Some.result.now c.in-Some.prefix c.as_str-in-Some.ensures (sym c.is_empty.ensures
    ∙ c.if-is_empty.true))

pub returns-else-is_empty : goal.returns-else-is_empty
returns-else-is_empty c =
    c.prefixed.ensures ∙ ap (prefixed (modules_seen c.args.scope.modules.now) c.args.scope.start c.args.name.now.name)
    c.get.ensures
    ∙ bound_full (modules_seen c.args.scope.modules.now) (module_seen c.args.scope.own.now) c.args.scope.start
    c.args.name.now c.in-Some.prefix c.in-Some.is
    (full c.as_str-in-Some.result.now c.in-Some.prefix c.as_str-in-Some.utf8 c.as_str-in-Some.ensures
    (sym c.is_empty.ensures ∙ c.if-is_empty.false))
