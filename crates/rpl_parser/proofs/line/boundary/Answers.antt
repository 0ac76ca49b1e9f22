use Rattle.std.proofs.Common.{◌∙◌}
use Rattle.rpl_syntax.specs.View.{expr_of}
use Rattle.rpl_parser.proofs.Entries.{tilde, boundary_is}
use Rattle.rpl_parser.proofs.line.boundary.Goals as goal

pub returns : goal.returns
returns c = boundary_is c.args.tokens.now (expr_of c.in_ok-expression.field-0) c.in_ok-name.name
    c.in_ok-expression.ensures (c.in_ok-name.ensures ∙ tilde)
