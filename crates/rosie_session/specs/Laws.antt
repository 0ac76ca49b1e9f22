-- What holds for all sessions.
use Rattle.std.specs.Prelude.{◌≡◌, ◌≢◌, ◌⊎◌, ℕ, Bool, true, false, List, Some, codes, []}
use Rattle.rosie_prepare.specs.Prepared.{Tree}
use Rattle.rosie_repl.specs.Edits.{Edit, Try, Undo, edit_of}
use Rattle.rosie_repl.specs.Session.{Session}
use Rattle.rosie_run.specs.Report.{Piece, has, is_stop}
use Rattle.rosie_run.specs.declared.mark.Mark.TheVariants.{Fault}
use Rattle.rosie_session.specs.Limits.{SessionPays}
use Rattle.rosie_session.specs.Loading.{IsLoading, Loading}
use Rattle.rosie_session.specs.Replay.{accepted, replay, session_fault, turn}

-- over a tree of files and a library path there is one loading
abbrev pub OneLoading : Type 0
OneLoading =
    (tree : Tree) (folders : List (List ℕ)) (v w : Loading) → IsLoading tree folders v → IsLoading tree folders w
    → ((texts : List (List ℕ)) → v.texts texts ≡ w.texts texts)
    × ((texts : List (List ℕ)) (pattern : List ℕ) → v.goal texts pattern ≡ w.goal texts pattern)

abbrev pub is_change : Edit → Bool
is_change (Try line) = false
is_change Undo = false
is_change _ = true

-- a change that is accepted, and then `u`, leave the session as it was
abbrev pub UndoLaw : Type 0
UndoLaw =
    (w : Loading) (m n : ℕ) (s : Session) (line : List ℕ) (e : Edit) → edit_of line ≡ Some e → is_change e ≡ true
    → (turn w m s line).piece.mark ≢ Fault → turn w n (turn w m s line).session (codes "u") ≡ accepted s []

-- the same error line, except for the number of the session's line
abbrev pub SameError : ℕ → ℕ → List ℕ → List ℕ → Type 0
SameError m n a b = (a ≡ b) ⊎ ((text : List ℕ) × (a ≡ session_fault m text) × (b ≡ session_fault n text))

pub record SameAnswer (m n : ℕ) (p q : Piece) : Type 0 where
  pub out : p.out ≡ q.out
  pub err : SameError m n p.err q.err
  pub mark : p.mark ≡ q.mark
  pub cost : p.cost ≡ q.cost

-- the answer to a tried line depends only on what is kept, whatever came before; and trying a line changes nothing
pub record Tries (w : Loading) (m n : ℕ) (s r : Session) (line : List ℕ) : Type 0 where
  pub same : SameAnswer m n (turn w m s line).piece (turn w n r line).piece
  pub stays : (turn w m s line).session ≡ s

abbrev pub TryLaw : Type 0
TryLaw =
    (w : Loading) (m n : ℕ) (s r : Session) (line tried : List ℕ) → edit_of line ≡ Some (Try tried) → s.now ≡ r.now
    → Tries w m n s r line

-- over a tree of files, a line that is tried exceeds its budget only if that is due
abbrev pub BudgetLaw : Type 0
BudgetLaw = (tree : Tree) (folders : List (List ℕ)) (w : Loading) → IsLoading tree folders w → SessionPays w

-- a session is never refused
abbrev pub NoStopLaw : Type 0
NoStopLaw = (w : Loading) (input : List ℕ) → has is_stop (replay w input) ≡ false
