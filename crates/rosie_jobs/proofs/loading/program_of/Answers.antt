use Rattle.std.proofs.Common.{ap}
use Rattle.std.specs.Prelude.{Err}
use Rattle.rosie_jobs.proofs.Told.{reads_none}
use Rattle.rosie_jobs.proofs.loading.program_of.Goals as goal

pub returns-in-NotCode : goal.returns-in-NotCode
returns-in-NotCode c =
    reads_none c.args.path.now c.args.bytes.now c.refused.result c.refused.ensures
    (c.in-Err.ensures.not_code (ap Err c.in-NotCode.is))
