use Rattle.rpl_expand.proofs.LoadedParts.{goals_have_parts, tables_have_parts}
use Rattle.rpl_expand.proofs.load_laws.cores_have_parts.Goals as goal

pub returns : goal.returns
returns c = record { table = tables_have_parts; goal = goals_have_parts }
