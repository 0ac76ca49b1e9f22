use Rattle.std.proofs.Common.{ap, sym, ◌∙◌}
use Rattle.std.specs.Prelude.{Some, is_some}
use Rattle.rpl_syntax.specs.declared.module.ImportAs.TheVariants.{Last}
use Rattle.rpl_scope.specs.Seen.{module_seen}
use Rattle.rpl_scope.proofs.Scopes.{empty, full}
use Rattle.rpl_package.proofs.Wanting.{needed_empty, needed_there, needed_new}
use Rattle.rpl_package.proofs.pattern.needed_import.Goals as goal

pub returns-then-is_empty : goal.returns-then-is_empty
returns-then-is_empty c =
    needed_empty (module_seen c.args.own.now) c.args.name.now c.in-Some.prefix c.in-Some.is
    (empty c.as_str.result.now c.in-Some.prefix c.as_str.ensures (sym c.is_empty.ensures ∙ c.if-is_empty.true))

pub returns-then-is_some : goal.returns-then-is_some
returns-then-is_some c =
    needed_there (module_seen c.args.own.now) c.args.name.now c.in-Some.prefix c.in-Some.is
    (full c.as_str.result.now c.in-Some.prefix c.as_str.utf8 c.as_str.ensures (sym c.is_empty.ensures
    ∙ c.if-is_empty.false))
    (ap is_some (sym c.get.ensures) ∙ sym c.is_some.ensures ∙ c.if-is_some.true)

pub returns : goal.returns
returns c =
    ap (λ p. Some (record { path = p; at = c.args.name.now.at; name = Last })) c.in_ok-path.ensures
    ∙ needed_new (module_seen c.args.own.now) c.args.name.now c.in-Some.prefix c.in-Some.is
    (full c.as_str.result.now c.in-Some.prefix c.as_str.utf8 c.as_str.ensures (sym c.is_empty.ensures
    ∙ c.if-is_empty.false))
    (ap is_some (sym c.get.ensures) ∙ sym c.is_some.ensures ∙ c.if-is_some.false)
