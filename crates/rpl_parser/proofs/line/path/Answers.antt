use Rattle.std.proofs.Common.{◌∙◌}
use Rattle.rpl_parser.proofs.Entries.{path_step}
use Rattle.rpl_parser.proofs.line.path.Goals as goal

pub loop-name-preserved : goal.loop-name-preserved
loop-name-preserved c =
    let e = c.in-Some.ensures.some in
    path_step c.loop-name.text c.put.new.self c.word-in-Some.new.self c.in-Some.name.now e.0 c.loop-name.rest.now
    c.in-Some.after.now e.1 c.in_ok-put.ensures c.in_ok-word-2.ensures ∙ c.loop-name.invariant
