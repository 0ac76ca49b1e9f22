-- The sets and the texts that a code uses, and tables that keep each of them once.
use Rattle.std.specs.Prelude.{◌≡◌, ℕ, ◌⊎◌, List, [], ◌∷◌, ◌++◌}
use Rattle.std.specs.List.{Contains}
use Rattle.regex_class.specs.Ranges.{Range}
use Rattle.rpl_core.specs.Instr.{Instr}
use Rattle.rpl_core.specs.Instr as I

-- the sets of the instructions in their order
abbrev pub sets_in : List Instr → List (List Range)
sets_in [] = []
sets_in (I.Set s ∷ is) = s ∷ sets_in is
sets_in (I.TestSet l s ∷ is) = s ∷ sets_in is
sets_in (I.Span s ∷ is) = s ∷ sets_in is
sets_in (_ ∷ is) = sets_in is

-- the texts of the instructions in their order
abbrev pub labels_in : List Instr → List (List ℕ)
labels_in [] = []
labels_in (I.Open c ∷ is) = c ∷ labels_in is
labels_in (I.Note x ∷ is) = x ∷ labels_in is
labels_in (_ ∷ is) = labels_in is

-- the table becomes the other by these uses: one that it has changes nothing, and one that it hasn't is added at the
-- end
abbrev pub Keeps : {A : Type 0} → List A → List A → List A → Type 0
Keeps table [] other = other ≡ table
Keeps table (x ∷ xs) other =
    (Contains table x × Keeps table xs other) ⊎ ((Contains table x → ⊥) × Keeps (table ++ x ∷ []) xs other)

-- the table has the uses, each once, in the order of their first uses; `Laws` says it by three facts
abbrev pub KeepsOnce : {A : Type 0} → List A → List A → Type 0
KeepsOnce uses table = Keeps [] uses table
