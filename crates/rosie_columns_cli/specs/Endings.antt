-- How the program ends.
use Rattle.std.specs.Prelude.{ℕ, Bool, true}
use Rattle.rosie_run.specs.Statuses.{code_of}
use Rattle.rosie_run.specs.declared.status.Status.{Status}
use Rattle.rosie_run.specs.declared.status.Status.TheVariants as S
use Rattle.rosie_columns_cli.specs.declared.ending.Ending.{Ending}
use Rattle.rosie_columns_cli.specs.declared.ending.Ending.TheVariants.{Absent, Ran}

-- the number of an ending, which is the exit status
abbrev pub number_of : Ending → ℕ
number_of Absent = 8
number_of (Ran status) = code_of status

-- where all else went well, a column that was never found has an ending of its own
abbrev pub ending_of : Status → Bool → Ending
ending_of S.Matched true = Absent
ending_of status absent = Ran status

-- how the run of an ending ended
abbrev pub status_in : Ending → Status
status_in Absent = S.Matched
status_in (Ran status) = status
