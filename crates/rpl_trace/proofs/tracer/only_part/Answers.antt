use Rattle.std.proofs.Common.{◌≡◌, sym, ap, subst, ◌∙◌, arith}
use Rattle.std.specs.Prelude.{false, MatchOption}
use Rattle.rpl_core.specs.Core as C
use Rattle.rpl_core.specs.Core.{Core, NoMore}
use Rattle.rpl_core.specs.View.{core_of, listed}
use Rattle.rpl_core.proofs.Rows.{choice_view}
use Rattle.rpl_trace.specs.inside.Levels.{is_alone}
use Rattle.rpl_trace.proofs.Alone.{found_only, not_alone}
use Rattle.rpl_trace.proofs.tracer.only_part.Goals as goal

pub returns-then-len-eq1 : goal.returns-then-len-eq1
returns-then-len-eq1 c =
    let P : Core → Type 0 =
    λ k. MatchOption c.get.result (is_alone k ≡ false) (λ p. k ≡ C.Choice (C.Then (core_of p.now) NoMore)) in
    subst P (sym (ap core_of c.in-Choice.is ∙ choice_view c.in-Choice.parts))
    (found_only (listed c.in-Choice.parts) c.get.result (omega (arith, c.len.ensures)) c.get.ensures)

pub returns-else-len-eq1 : goal.returns-else-len-eq1
returns-else-len-eq1 c =
    let P : Core → Type 0 = λ k. is_alone k ≡ false in
    subst P (sym (ap core_of c.in-Choice.is ∙ choice_view c.in-Choice.parts))
    (not_alone (listed c.in-Choice.parts) (omega (arith, c.len.ensures)))
