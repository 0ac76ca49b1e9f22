-- How a draft grows by code that is placed where it begins.
use Rattle.std.specs.Prelude.{◌≡◌, ℕ, suc, ◌+◌, List, [], ◌∷◌, ◌++◌, length, Option, Some, None}
use Rattle.regex_class.specs.Ranges.{Range}
use Rattle.rpl_core.specs.Code.{Placed, code, lengths_code}
use Rattle.rpl_core.specs.Instr.{Instr}
use Rattle.rpl_core.specs.Instr as I
use Rattle.rpl_core.specs.View.{core_of}
use Rattle.rpl_core.specs.declared.peg.Peg.{Peg}
use Rattle.rpl_intern.specs.Written.{Adds}
use Rattle.rpl_intern.specs.declared.draft.Draft.{Draft}
use Rattle.rpl_codegen.specs.declared.layout.Layout.{Layout}
use Rattle.rpl_codegen.specs.inside.Starts.{start_from}

-- the draft has this code more, placed where it begins
abbrev pub Writes : Draft → Draft → Placed → Type 0
Writes old new p = Adds old new (p (length old.code))

-- Whatever code q comes next, up to the end: with it, the draft has the code that is made of q.
abbrev pub GoesOn : Draft → Draft → ℕ → (Placed → Placed) → Type 0
GoesOn old new end whole =
    (q : Placed) (x : Draft)
    → end ≡ length new.code + length (q (length new.code)) → Writes new x q → Writes old x (whole q)

-- However many lengths come next, of which the first is one more: with them, the draft tries this length and those.
abbrev pub Tries : Draft → Draft → Placed → ℕ → ℕ → Type 0
Tries old new body end back =
    (left : ℕ) (x : Draft)
    → Writes new x (lengths_code body end left (back + 1)) → Writes old x (lengths_code body end (suc left) back)

-- the address of each rule
abbrev pub address_of : Layout → ℕ → ℕ
address_of l r = start_from l.starts.list.items r l.end

-- the test of a head, if there is one
abbrev pub test_code : Option (List Range) → ℕ → List Instr
test_code None l = []
test_code (Some s) l = I.TestSet l s ∷ []

-- the code of a pattern, with its calls to where the rules are
abbrev pub code_in : Layout → Peg → Placed
code_in l peg = code (address_of l) (core_of peg)

-- the code of a capture, by that of its body
abbrev pub capture_code : List ℕ → Placed → Placed
capture_code label p a = I.Open label ∷ (p (a + 1) ++ I.Close ∷ [])
