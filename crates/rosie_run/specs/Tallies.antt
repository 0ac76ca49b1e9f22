-- The tally of the pieces of a run.
use Rattle.rosie_run.specs.declared.mark.Mark.{Mark}
use Rattle.rosie_run.specs.declared.tally.Tally.{Tally}
use Rattle.std.specs.Prelude.{◌||◌, List}
use Rattle.rosie_run.specs.Report.{Piece, is_hit, is_fault, is_stop, has}

-- what some pieces come to, and one more, and others more
abbrev pub tally_of : List Piece → Tally
tally_of ps = record { stop = has is_stop ps; fault = has is_fault ps; hit = has is_hit ps }

abbrev pub counted : Tally → Mark → Tally
counted t m = record { stop = t.stop || is_stop m; fault = t.fault || is_fault m; hit = t.hit || is_hit m }

abbrev pub added : Tally → Tally → Tally
added t u = record { stop = t.stop || u.stop; fault = t.fault || u.fault; hit = t.hit || u.hit }
