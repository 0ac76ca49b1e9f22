-- Where reading stood when it ended a run.
use Rattle.rosie_io.specs.Counts.{Rose}
use Rattle.rosie_io.specs.Opening.{file_of}
use Rattle.rosie_run.specs.Inputs.{is_standard, reads_standard}
use Rattle.rosie_run.specs.Lines.{passed}
use Rattle.rosie_run.specs.Sources.{Ends, Moment}
use Rattle.rosie_io.specs.declared.stop.ReadStop.{ReadStop}
use Rattle.rosie_io.specs.declared.stop.ReadStop.TheVariants.{ReadFault, Spent}
use Rattle.std.specs.List.{Contains}
use Rattle.std.specs.Prelude.{◌++◌, ◌+◌, ◌^◌, ◌∷◌, ◌≡◌, ◌≤◌, ◌⊎◌, Bool, List, Some, false, length, true, ℕ}

-- it wasn't reading that ended the run
abbrev pub Nowhere : ReadStop → List ℕ → ℕ → Type 0
Nowhere why file k = ⊥

-- where reading stood in a file: it wasn't opened, or these bytes of it were taken
pub data InFile (tree : List (List ℕ × List ℕ)) (whole : Bool) (f0 f1 : Moment) (why : ReadStop) (file : List ℕ)
    (k : ℕ) : Type 0 where
  not_opened : why ≡ ReadFault → Rose f0.opens f1.opens → k ≡ 0 → InFile tree whole f0 f1 why file k
  opened : (got : List ℕ) → f1.opens ≡ f0.opens → Ends why f0 f1 → file_of file tree ≡ Some (got ++ f1.rest)
      → k ≡ passed whole got → (why ≡ Spent → 2 ^ 32 ≤ length (got ++ f1.rest))
      → InFile tree whole f0 f1 why file k

-- and in a source that is open
pub record InSource (whole : Bool) (m0 m1 : Moment) (why : ReadStop) (k : ℕ) : Type 0 where
  pub got : List ℕ
  pub ends : Ends why m0 m1
  pub took : m0.rest ≡ got ++ m1.rest
  pub count : k ≡ passed whole got
  pub long : why ≡ Spent → 2 ^ 32 ≤ length m0.rest

-- a source that goes by this name
abbrev pub InNamed : List ℕ → Bool → Moment → Moment → ReadStop → List ℕ → ℕ → Type 0
InNamed name whole m0 m1 why file k = (file ≡ name) × InSource whole m0 m1 why k

-- where reading stood among the inputs with these names: after the pieces of those before it. `before` is their number.
-- The standard input is read where its name comes first
pub data InInputs (names : List (List ℕ)) (before : List (List ℕ) → ℕ) (tree : List (List ℕ × List ℕ))
    (whole : Bool) (i0 i1 f0 f1 : Moment) (why : ReadStop) (file : List ℕ) (k : ℕ) : Type 0 where
  in_file : (front back : List (List ℕ)) (n : ℕ) → names ≡ front ++ file ∷ back → is_standard file ≡ false
      → InFile tree whole f0 f1 why file n → k ≡ before front + n
      → InInputs names before tree whole i0 i1 f0 f1 why file k
  in_standard : (front back : List (List ℕ)) (n : ℕ) → names ≡ front ++ file ∷ back → is_standard file ≡ true
      → reads_standard front ≡ false → InSource whole i0 i1 why n → k ≡ before front + n
      → InInputs names before tree whole i0 i1 f0 f1 why file k

-- where it stood in the run of a command: in its loading, which asks for these paths, or among its inputs
pub data InRun (asks : List (List ℕ)) (Inputs : ReadStop → List ℕ → ℕ → Type 0) (f0 f1 : Moment) (why : ReadStop)
    (file : List ℕ) (k : ℕ) : Type 0 where
  in_loading : Contains asks file → why ≡ ReadFault → Rose f0.faults f1.faults ⊎ Rose f0.opens f1.opens → k ≡ 0
      → InRun asks Inputs f0 f1 why file k
  in_inputs : Inputs why file k → InRun asks Inputs f0 f1 why file k
