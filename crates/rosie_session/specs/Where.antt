-- Where reading may end the run of a session.
use Rattle.std.specs.Prelude.{◌≡◌, ℕ, false, List, Some, codes, slice_get}
use Rattle.std.specs.List.{Contains}
use Rattle.rosie_run.specs.Sources.{Moment, RoseIn}
use Rattle.rosie_run.specs.Where.{InNamed}
use Rattle.rosie_io.specs.declared.stop.ReadStop.{ReadStop}
use Rattle.rosie_io.specs.declared.stop.ReadStop.TheVariants.{ReadFault}
use Rattle.rosie_session.specs.Loading.{Loading}
use Rattle.rosie_session.specs.Replay.{Turn, turns}

-- It had passed k lines: the standard input has so many line feeds up to where it was read, or a file wasn't read that
-- the line after them asks for.
pub data InSession (w : Loading) (input : List ℕ) (i0 i1 f0 f1 : Moment) (why : ReadStop) (file : List ℕ) (k : ℕ)
    : Type 0 where
  in_lines : InNamed (codes "-") false i0 i1 why file k → InSession w input i0 i1 f0 f1 why file k
  in_load : (t : Turn) → slice_get (turns w input) k ≡ Some t → Contains t.asked file → why ≡ ReadFault
      → RoseIn f0 f1 → InSession w input i0 i1 f0 f1 why file k
