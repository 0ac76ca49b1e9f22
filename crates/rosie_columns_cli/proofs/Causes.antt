-- What a run leaves that reads nothing, and the rows as the pieces of the inputs.
use Rattle.std.proofs.Common.{◌≡◌, List, ℕ, true, refl, sym, subst, ◌∙◌, arith}
use Rattle.std.specs.Prelude.{Result, Ok, Err, IfErr, IfOk}
use Rattle.std.specs.Str.{encode_utf8_all}
use Rattle.std.proofs.lemmas.Bool.{false≢true}
use Rattle.rosie_run.specs.Course.{Course}
use Rattle.rosie_run.specs.Devices.{RunsInputs}
use Rattle.rosie_run.specs.Inputs.{names_of}
use Rattle.rosie_run.specs.Runs.{GoesOn, IsNoCut, RunReadCause}
use Rattle.rosie_run.specs.Sources.{Moment, Still}
use Rattle.rosie_run.specs.declared.ended.Ended.{Ended}
use Rattle.rosie_run.specs.declared.ended.Ended.TheVariants as E
use Rattle.rosie_run.specs.declared.lines.Reading.{Reading}
use Rattle.rosie_run.specs.declared.tally.Tally.{Tally}
use Rattle.rosie_run.specs.declared.tool.Tool.{Tool}
use Rattle.rosie_run.specs.declared.tool.Tool.TheVariants.{RosieColumns}
use Rattle.rpl_columns.specs.declared.row.Sheet.{Sheet}
use Rattle.rosie_columns_cli.specs.Lines.{makes}
use Rattle.rosie_columns_cli.specs.Report.{by_lines}
use Rattle.rosie_columns_cli.specs.declared.words.Asked.{Asked}
use Rattle.rosie_columns_cli.specs.inside.Running.{RunsRows}

still : (m : Moment) → Still m m
still m = record { faults = refl; opens = refl }

pub quiet_cause : (r : Result Tally Ended) (i f : Moment) → IfErr r IsNoCut → RunReadCause r i i f f
quiet_cause (Ok tally) i f h = (still i, still f)
quiet_cause (Err E.NoMemory) i f h = (still i, record { faults = omega arith; opens = omega arith })
quiet_cause (Err E.WriteFault) i f h = (still i, still f)
quiet_cause (Err (E.Cut why text)) i f h = absurd h

-- it ends with its piece
pub goes_never : (r : Result Tally Ended) (P : Type 0) → IfOk r (λ tally. tally.stop ≡ true) → GoesOn r P
goes_never (Ok tally) P h = λ goes. absurd (false≢true (sym goes ∙ h))
goes_never (Err e) P h = tt

pub rows_runs : (r : Result Tally Ended) (a : Asked) (c : Tool → Course) (sheet : Sheet) (names : List (List ℕ))
    (reading : Reading) → sheet ≡ a.sheet → names ≡ a.names → reading ≡ by_lines
    → RunsInputs r (makes sheet) reading (names_of encode_utf8_all names) (c reading.tool)
    → RunsRows r a (c RosieColumns)
rows_runs r a c sheet names reading s n l h =
    subst (λ x. RunsInputs r (makes x) by_lines (names_of encode_utf8_all a.names) (c RosieColumns)) s
    (subst (λ (x : Reading). RunsInputs r (makes sheet) x (names_of encode_utf8_all a.names) (c x.tool)) l
    (subst (λ x. RunsInputs r (makes sheet) reading (names_of encode_utf8_all x) (c reading.tool)) n h))
