use Rattle.std.proofs.Common.{refl}
use Rattle.rpl_check.specs.Goal.{peg_of}
use Rattle.rpl_core.specs.View.{core_of}
use Rattle.rpl_syntax.specs.View.{expr_of}
use Rattle.rosie_inspect.proofs.Rows.{shown}
use Rattle.rosie_inspect.proofs.expansion.Expansion.new.Goals as goal

pub returns-clause-pattern : goal.returns-clause-pattern
returns-clause-pattern c =
    shown c.args.rules (expr_of c.args.expr) (core_of (peg_of c.args.goal)) c.in_ok-marks.marks.items _
    (rw (c.rules-table.ensures, c.peg.ensures) at c.in_ok-marks.ensures) refl
