-- How contracts see an expression: what an `Expr` stands for.
use Rattle.std.specs.Prelude.{List, [], ◌∷◌}
use Rattle.rpl_syntax.specs.Expression as M
use Rattle.rpl_syntax.specs.declared.expr.Exprs.{Exprs}
use Rattle.rpl_syntax.specs.declared.expr.Expr.{Expr, Text, Class, Any, Start, End, Boundary, Name, Cooked', Raw'}
use Rattle.rpl_syntax.specs.declared.expr.Expr.{Choice', Both', Prefix', Repeat', Macro', Marked', Note, Row_of-Expr}
use Rattle.rpl_syntax.specs.declared.expr.Expr.{end_of-Expr, more_of-Expr}

abbrev mutual
  pub expr_of : Expr → M.Expr
  expr_of (Text s) = M.Text s
  expr_of (Class set negated) = M.Class set negated
  expr_of Any = M.Any
  expr_of Start = M.Start
  expr_of End = M.End
  expr_of Boundary = M.Boundary
  expr_of (Name q) = M.Name q
  expr_of (Cooked' m ps) = M.Cooked (exprs_of ps)
  expr_of (Raw' m ps) = M.Raw (exprs_of ps)
  expr_of (Choice' m ps) = M.Choice (exprs_of ps)
  expr_of (Both' a p b q) = M.Both (expr_of p) (expr_of q)
  expr_of (Prefix' s a p) = M.Prefix s (expr_of p)
  expr_of (Repeat' a p least most) = M.Repeat (expr_of p) least most
  expr_of (Macro' q a p) = M.Macro q (expr_of p)
  expr_of (Marked' m a p) = M.Marked m (expr_of p)
  expr_of (Note s) = M.Note s

  pub exprs_of : {m : _} → Row_of-Expr m → M.Exprs
  exprs_of end_of-Expr = M.Nil
  exprs_of (more_of-Expr p rest) = M.Cons (expr_of p) (exprs_of rest)

-- the Rust values of a list
abbrev pub listed : Exprs → List Expr
listed ps = ps.items.items

-- what they stand for
abbrev pub exprs_all : List Expr → M.Exprs
exprs_all [] = M.Nil
exprs_all (p ∷ ps) = M.Cons (expr_of p) (exprs_all ps)

-- the expressions of a list
abbrev pub shown : Exprs → M.Exprs
shown ps = exprs_all ps.items.items
