use Rattle.std.specs.Prelude.{codes}
use Rattle.rpl_macro.specs.declared.casing.Casing.TheVariants.{Plain}
use Rattle.rpl_syntax.specs.View.{expr_of}
use Rattle.rpl_expand.specs.Expansion.{core}
use Rattle.rpl_expand.specs.Table.{captured}
use Rattle.rpl_expand.specs.inside.Scopes.{scope_seen}
use Rattle.rpl_expand.proofs.table.check_goal_size.Goals as goal

pub returns : goal.returns
returns c = λ I known.
    let own = core Plain (scope_seen c.args.scope.now I) (expr_of c.args.e.now) in
    c.check_size.ensures (captured c.args.captures (codes "*") own)
    (c.counts_under.ensures own (codes "*") (c.measure-own.ensures Plain I known))
