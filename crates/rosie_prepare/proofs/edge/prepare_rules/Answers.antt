use Rattle.rosie_prepare.proofs.Loads.{asked_through, passes_asked}
use Rattle.rosie_prepare.proofs.edge.prepare_rules.Goals as goal

pub returns-in_err-packages-clause-asked : goal.returns-in_err-packages-clause-asked
returns-in_err-packages-clause-asked g c = λ told.
    asked_through _ _ _ c.from_residual.result c.in_err-packages.field-0.0 c.from_residual.ensures.1
    (c.in_err-packages.ensures.asked told)

pub returns-clause-asked : goal.returns-clause-asked
returns-clause-asked g c = λ told.
    passes_asked _ _ _ c.in_ok-packages.packages c.pass_rules.result c.pass_rules.ensures.own
    (c.in_ok-packages.ensures.asked told)
