use Rattle.std.proofs.Common.{sym, ap, ◌∙◌, subst, refl}
use Rattle.rpl_macro.specs.Kinds.{kind_of}
use Rattle.rpl_macro.specs.Macros.{use_fault}
use Rattle.rpl_syntax.specs.View.{expr_of}
use Rattle.rpl_scope.specs.Bodies.{macro_fault}
use Rattle.rpl_scope.specs.Faults.{unless, StopIs, IsStop, fault_at}
use Rattle.rpl_scope.specs.declared.fault.LoadKind.TheVariants.{Macro}
use Rattle.rpl_scope.proofs.Stops.{told}
use Rattle.rpl_scope.proofs.checks.check_macro.Goals as goal

pub returns-in-None : goal.returns-in-None
returns-in-None c =
    let found = c.check_use.ensures ∙ ap (λ n. use_fault (kind_of n) (expr_of c.args.used.arg.now)) c.as_str.ensures in
    ap (λ o. unless (macro_fault c.args.file.now c.args.used.name.now o) (tt {0})) (sym found ∙ c.in-None.is)

pub returns-in_ok-copy-in-Some : goal.returns-in_ok-copy-in-Some
returns-in_ok-copy-in-Some c =
    let found = c.check_use.ensures ∙ ap (λ n. use_fault (kind_of n) (expr_of c.args.used.arg.now)) c.as_str.ensures in
    let at = c.args.used.name.now.at in
    let file = c.args.file.now in
    let stop = subst (λ n. IsStop c.fault_at.result (fault_at file at (Macro n c.in-Some.fault)))
    c.in_ok-copy-in-Some.ensures c.fault_at.ensures in
    subst (λ o. StopIs c.fault_at.result (unless (macro_fault file c.args.used.name.now o) (tt {0}))) (sym c.in-Some.is
    ∙ found) (told _ c.fault_at.result _ stop refl)
