use Rattle.std.proofs.Common.{ap, drop, take, ◌∙◌}
use Rattle.rosie_run.specs.Parts.{part_bytes}
use Rattle.rosie_jobs.proofs.TraceParts.{part_cut}
use Rattle.rosie_jobs.proofs.trace_parts.TraceParts.part.Goals as goal

pub returns : goal.returns
returns c =
    let from = c.args.self.now.from in
    part_cut from c.min.result c.as_bytes.result.now c.min.ensures
    ∙ ap (λ bytes. take part_bytes (drop from bytes)) c.as_bytes.ensures.value
