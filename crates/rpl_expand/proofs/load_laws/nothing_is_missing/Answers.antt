use Rattle.rpl_expand.proofs.Loaded.{rules_have_statements, top_is_there}
use Rattle.rpl_expand.proofs.load_laws.nothing_is_missing.Goals as goal

pub returns : goal.returns
returns c = record { top = top_is_there; statements = rules_have_statements }
