use Rattle.std.proofs.lemmas.Bool.{false≢true}
use Rattle.rpl_encode.proofs.Styles.{differs}
use Rattle.rpl_encode.proofs.style.Style.ignores_trees.Goals as goal

pub returns-in-Json : goal.returns-in-Json
returns-in-Json c = (λ e. absurd (false≢true e), λ h. absurd (differs c.args.self c.in-Json.is h))
