use Rattle.std.proofs.Common.{rules, ◌≡◌, None, true, sym, ap, ap₂, ◌∙◌}
use Rattle.std.specs.Prelude.{codes}
use Rattle.std.proofs.lemmas.Str.{chars-IsAscii}
use Rattle.rpl_syntax.specs.Expression.{Macro}
use Rattle.rpl_syntax.specs.View.{expr_of}
use Rattle.rpl_names.specs.Goals.{sought}
use Rattle.rpl_package.proofs.pattern.sought.Goals as goal

pub returns : goal.returns
returns c =
    let yes : c.args.find ≡ true = c.if-not-find.false in
    ap₂ (λ n x. Macro (record { prefix = None; name = n; at = 0 }) (expr_of x)) (c.in_ok-from_str.ensures
    ∙ chars-IsAscii (codes "findall") (search rules)) c.in_ok-arg.ensures.ok
    ∙ ap (λ b. sought b (expr_of c.args.e)) (sym yes)
