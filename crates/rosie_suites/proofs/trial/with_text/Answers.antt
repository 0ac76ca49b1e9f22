use Rattle.std.proofs.Common.{ap, sym, ◌∙◌}
use Rattle.std.specs.Str.{all_scalars}
use Rattle.rosie_jobs.proofs.OneLine.{are_scalars}
use Rattle.rosie_suites.proofs.trial.with_text.Goals as goal

pub returns-clause-text : goal.returns-clause-text
returns-clause-text c =
    let text = c.as_str-text.result.now in
    record {
      scalars = ap all_scalars (sym c.as_str-text.ensures) ∙ are_scalars text c.as_str-text.utf8;
      short = c.requires;
    }
