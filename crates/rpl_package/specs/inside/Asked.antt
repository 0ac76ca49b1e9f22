-- What is looked for.
use Rattle.rpl_scope.specs.Results.{Or}
use Rattle.rpl_syntax.specs.Expression.{Expr}
use Rattle.rpl_names.specs.Goals.{ReadsGoal}
use Rattle.rpl_package.specs.declared.pattern.Goal.{Goal}

-- its text is read so
abbrev pub Reads : Goal → Or Expr → Type 0
Reads g r = ReadsGoal g.fixed g.find g.text.now r
