use Rattle.std.proofs.Common.{◌≡◌, map}
use Rattle.rpl_columns.specs.Nodes.{seen}
use Rattle.rosie_columns_cli.specs.inside.Marks.{noted}
use Rattle.rosie_columns_cli.proofs.Marks.{so_far}
use Rattle.rosie_columns_cli.proofs.job.note_found.Given as goal

-- the marks so far, and those that are left
abbrev pub invariant-loop-index : goal.invariant-loop-index
invariant-loop-index l =
    so_far (map (seen l.tree.line.now) l.tree.nodes.now) l.columns l.found l.index
    ≡ noted l.columns l.initial.found (map (seen l.tree.line.now) l.tree.nodes.now)
