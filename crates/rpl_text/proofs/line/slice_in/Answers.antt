use Rattle.std.proofs.Common.{ap, ◌∙◌}
use Rattle.std.specs.Prelude.{chars}
use Rattle.rpl_text.proofs.Cuts.{slice_chars}
use Rattle.rpl_text.proofs.Walks.{place_cut}
use Rattle.rpl_text.proofs.line.slice_in.Goals as goal

pub range-requires-clause-start_boundary : goal.range-requires-clause-start_boundary
range-requires-clause-start_boundary c = λ lt. place_cut _ _ c.utf8.line c.requires.from

pub range-requires-clause-end_boundary : goal.range-requires-clause-end_boundary
range-requires-clause-end_boundary c = place_cut _ _ c.utf8.line c.requires.to

pub returns : goal.returns
returns c = ap chars c.range.ensures.value
    ∙ slice_chars c.args.line.now c.args.from c.args.to c.utf8.line c.requires.from c.requires.to c.requires.order
