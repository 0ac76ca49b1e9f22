use Rattle.std.proofs.Common.{◌≡◌, ◌++◌, drop}
use Rattle.rosie_columns_cli.specs.Absent.{absent_text}
use Rattle.rosie_columns_cli.specs.inside.Marks.{unfound}
use Rattle.rosie_columns_cli.proofs.job.absent_lines.Given as goal

-- the lines that are written, and those that are left
abbrev pub invariant-loop-index : goal.invariant-loop-index
invariant-loop-index l = l.text.items ++ absent_text (unfound (drop l.index l.columns) (drop l.index l.found))
    ≡ absent_text (unfound l.columns l.found)
