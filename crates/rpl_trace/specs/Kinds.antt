-- What is evaluated of a core, and by an evaluation of the tracer.
use Rattle.rpl_core.specs.Core.{Core}
use Rattle.rpl_core.specs.Core as C
use Rattle.rpl_core.specs.View.{core_of}
use Rattle.rpl_trace.specs.Evaluations.{Kind, Set, Seq, Choice, Many, Not, And, Behind, Call, Capture, Note, Start, End}
use Rattle.rpl_trace.specs.Evaluations.{Halt, Turn, Length}
use Rattle.rpl_trace.specs.declared.event.Kind as D
use Rattle.rpl_trace.specs.declared.event.Kind.TheVariants as K

abbrev pub kind_of : Core → Kind
kind_of (C.Set s) = Set s
kind_of (C.Seq ps) = Seq
kind_of (C.Choice ps) = Choice
kind_of (C.Many p) = Many
kind_of (C.Not p) = Not
kind_of (C.And p) = And
kind_of (C.Behind l m p) = Behind l m
kind_of (C.Call r) = Call r
kind_of (C.Capture c p) = Capture c
kind_of (C.Note x) = Note x
kind_of C.Start = Start
kind_of C.End = End
kind_of C.Halt = Halt

abbrev pub kind_seen : D.Kind → Kind
kind_seen (K.Of e) = kind_of (core_of e.now)
kind_seen K.Choice = Choice
kind_seen K.Turn = Turn
kind_seen (K.Length k) = Length k
