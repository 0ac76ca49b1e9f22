-- The trees that a capture list represents, read from its end.
use Rattle.std.specs.Prelude.{◌≡◌, ℕ, List, [], ◌∷◌}
use Rattle.rpl_core.specs.Forest.{Caught, Begin, Finish, Mark, Forest, NoTree, Tree, Noted, flat}
use Rattle.rpl_core.specs.Instr.{Instr}
use Rattle.rpl_core.specs.Run.{Matched, run}

-- the trees from here on, in the tree that is open here or in none; and of each tree that is open, the innermost first,
-- where it ends, and the trees after it
pub record Behind : Type 0 where
  pub here : Forest
  pub around : List (ℕ × Forest)

-- the innermost tree begins before these
abbrev pub begun : List ℕ → ℕ → Forest → List (ℕ × Forest) → Behind
begun label start subs [] = record { here = subs; around = [] }
begun label start subs (end ∷ around) = record { here = Tree label start end.0 subs end.1; around = around }

-- with one capture more before them
abbrev pub before : Caught → Behind → Behind
before (Begin label start) b = begun label start b.here b.around
before (Finish end) b = record { here = NoTree; around = (end, b.here) ∷ b.around }
before (Mark text place) b = record { here = Noted text place b.here; around = b.around }

abbrev pub behind : List Caught → Behind
behind [] = record { here = NoTree; around = [] }
behind (c ∷ cs) = before c (behind cs)

abbrev pub written : List Caught → Forest
written cs = (behind cs).here

-- the captures of each match are those of some trees
abbrev pub WritesTrees : List Instr → Type 0
WritesTrees code =
    (t : List ℕ) (b n i : ℕ) (cs : List Caught) → run code t b ≡ Matched n i cs → cs ≡ flat (written cs)
