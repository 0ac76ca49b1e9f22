use Rattle.std.proofs.Common.{◌≡◌, sym, subst, ◌∙◌}
use Rattle.std.specs.Prelude.{Err}
use Rattle.std.proofs.lemmas.Bool.{false≢true}
use Rattle.std.proofs.lemmas.Result.{err_from_is_err_and}
use Rattle.rpl_core.specs.Program.{instructions}
use Rattle.rpl_codefile.proofs.Decides.{says_none, not_unsafe, spelled_long}
use Rattle.rpl_codefile.proofs.code_file.read_code.Goals as goal

pub is_safe-requires : goal.is_safe-requires
is_safe-requires c = spelled_long c.in_ok-program.program c.args.bytes.now c.in_ok-program.ensures

pub returns-then-branch-clause-ok : goal.returns-then-branch-clause-ok
returns-then-branch-clause-ok c = (c.in_ok-program.ensures, c.in_ok-is_safe.ensures.0 c.if-branch.true)

pub returns-else-branch-clause-not_safe : goal.returns-else-branch-clause-not_safe
returns-else-branch-clause-not_safe c = λ e. (
  instructions c.in_ok-program.program,
  c.in_ok-program.ensures,
  λ safe. false≢true (sym c.if-branch.false
      ∙ c.in_ok-is_safe.ensures.1 safe),
)

pub returns-in_err-program-clause-not_code : goal.returns-in_err-program-clause-not_code
returns-in_err-program-clause-not_code c =
    let p = err_from_is_err_and c.from_residual.result c.from_residual.ensures.1 in
    says_none c.args.bytes.now c.in_err-program.field-0.0 c.from_residual.result
    (subst (λ x. c.from_residual.result ≡ Err x) p.2 p.1) c.in_err-program.ensures

pub returns-in_err-program-clause-not_safe : goal.returns-in_err-program-clause-not_safe
returns-in_err-program-clause-not_safe c =
    let p = err_from_is_err_and c.from_residual.result c.from_residual.ensures.1 in
    not_unsafe c.args.bytes.now c.in_err-program.field-0.0 c.from_residual.result
    (subst (λ x. c.from_residual.result ≡ Err x) p.2 p.1) c.in_err-program.ensures
