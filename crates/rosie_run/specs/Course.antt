-- A run over files and streams, as contracts see it.
use Rattle.std.specs.Prelude.{ℕ, List}
use Rattle.rosie_io.specs.declared.outside.Sink as K
use Rattle.rosie_io.specs.declared.outside.Source as S
use Rattle.rosie_run.specs.Outputs.{Telling, Texts, shown, telling}
use Rattle.rosie_run.specs.Sources.{Span, span_of}
use Rattle.rosie_run.specs.declared.tool.Tool.{Tool}

-- What is visible of the files and the streams of a run, and their states before and after, with the machine's steps.
pub record Course : Type 1 where
  pub tree : List (List ℕ × List ℕ)
  pub files_tell : Type 0
  pub input_tells : Type 0
  pub tells : Telling
  pub files : Span
  pub input : Span
  pub before : Texts
  pub after : Texts

-- the run of a program whose files, standard input and outputs are these before and after, with so many steps
abbrev pub course_of :
    {F I O E : Type 0} → Tool → S.Ghosts F → S.Ghosts I → K.Ghosts O → K.Ghosts E → F → F → I → I → O → O → E → E
    → ℕ → ℕ → Course
course_of tool F I O E f f' i i' o o' e e' n n' = record {
  tree = F.tree f;
  files_tell = F.tells;
  input_tells = I.tells;
  tells = telling tool O E;
  files = span_of F f f';
  input = span_of I i i';
  before = shown O E o e n;
  after = shown O E o' e' n';
}
