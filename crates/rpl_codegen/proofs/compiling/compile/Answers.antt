use Rattle.std.proofs.Common.{List}
use Rattle.std.specs.Prelude.{IfOk, Result, Ok, Err}
use Rattle.rpl_check.specs.Checked.{IsWhole}
use Rattle.rpl_check.specs.Goal.{peg_of}
use Rattle.rpl_core.specs.Core.{Core}
use Rattle.rpl_core.specs.Program.{instructions}
use Rattle.rpl_core.specs.Programs.{IsCode}
use Rattle.rpl_core.specs.Table.{bodies_of}
use Rattle.rpl_core.specs.View.{core_of}
use Rattle.rpl_core.specs.declared.program.Program.{Program}
use Rattle.rpl_codegen.specs.Compiled.{DoesAsMeant, IsSafeIfCapture}
use Rattle.rpl_compile_laws.proofs.Whole.{simulation_holds}
use Rattle.rpl_safe.proofs.Whole.{code_is_safe_holds}
use Rattle.rpl_codegen.proofs.compiling.compile.Goals as goal

-- the code of a goal that means something on every text, and no predicate of which may halt
does : {X : Type 0} (R : List Core) (g : Core) → IsWhole R g → (o : Result Program X)
    → IfOk o (λ p. IsCode R g (instructions p)) → IfOk o (λ p. DoesAsMeant R g (instructions p))
does R g w (Ok p) is = λ t chars. (w.shut t, simulation_holds w.stays.0 R g (instructions p) w.stays.1 is t chars)
does R g w (Err e) is = tt

pub returns-clause-meant : goal.returns-clause-meant
returns-clause-meant c =
    does (bodies_of c.args.checked.now) (core_of (peg_of c.args.goal.now)) c.requires c.compile_goal.result
    (rw (c.rules.ensures, c.peg.ensures) at c.compile_goal.ensures.code)

-- and safe code, where the goal is a capture
safe : {X : Type 0} (R : List Core) (g : Core) → IsWhole R g → (o : Result Program X)
    → IfOk o (λ p. IsCode R g (instructions p)) → IfOk o (λ p. IsSafeIfCapture R g (instructions p))
safe R g w (Ok p) is =
    λ label capture. code_is_safe_holds R label g (instructions p) capture w.goal (λ q p e r k. w.rules q r p e k) is
safe R g w (Err e) is = tt

pub returns-clause-safe : goal.returns-clause-safe
returns-clause-safe c =
    safe (bodies_of c.args.checked.now) (core_of (peg_of c.args.goal.now)) c.requires c.compile_goal.result
    (rw (c.rules.ensures, c.peg.ensures) at c.compile_goal.ensures.code)
