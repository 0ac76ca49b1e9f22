-- The whole code of a goal: its own, the end, and the rules that it reaches.
use Rattle.std.specs.Prelude.{◌≡◌, ℕ, zero, suc, ◌+◌, Bool, true, false, ◌||◌, nat_eq, ◌↔◌, if◌then◌else◌, List, []}
use Rattle.std.specs.Prelude.{◌∷◌, ◌++◌, Some, slice_get}
use Rattle.rpl_core.specs.Core.{Core, Set, Seq, Choice, Many, Not, And, Behind, Call, Capture, Note, Start, End, Halt}
use Rattle.rpl_core.specs.Core.{Cores, NoMore, Then}
use Rattle.rpl_core.specs.Instr.{Instr}
use Rattle.rpl_core.specs.Instr as I
use Rattle.rpl_core.specs.Code.{Placed, code, size}

-- the most instructions that a code may have
abbrev pub max_code_length : ℕ
max_code_length = 1048576

-- the core calls the rule r somewhere
abbrev mutual
  pub calls : Core → ℕ → Bool
  calls (Set s) r = false
  calls (Seq ps) r = calls_any ps r
  calls (Choice ps) r = calls_any ps r
  calls (Many p) r = calls p r
  calls (Not p) r = calls p r
  calls (And p) r = calls p r
  calls (Behind l m p) r = calls p r
  calls (Call q) r = nat_eq q r
  calls (Capture c p) r = calls p r
  calls (Note x) r = false
  calls Start r = false
  calls End r = false
  calls Halt r = false

  -- some part calls it
  pub calls_any : Cores → ℕ → Bool
  calls_any NoMore r = false
  calls_any (Then p ps) r = calls p r || calls_any ps r

-- the goal reaches the rule: it calls it, or it reaches a rule that does
pub data Reaches (R : List Core) (g : Core) : ℕ → Type 0 where
  by_goal : (r : ℕ) → calls g r ≡ true → Reaches R g r
  by_rule : (q r : ℕ) (p : Core) → Reaches R g q → slice_get R q ≡ Some p → calls p r ≡ true → Reaches R g r

-- the code of the marked rules in the order of the table, each with its return; the first rule has the number k
abbrev pub bodies : (ℕ → Bool) → (ℕ → ℕ) → List Core → ℕ → Placed
bodies marks at [] k a = []
bodies marks at (p ∷ ps) k a =
    if marks k then code at p a ++ I.Return ∷ bodies marks at ps (k + 1) (a + size p + 1)
    else bodies marks at ps (k + 1) a

-- where the rule begins that stands r rules after the first
abbrev pub place_of : (ℕ → Bool) → List Core → ℕ → ℕ → ℕ → ℕ
place_of marks [] k a r = a
place_of marks (p ∷ ps) k a zero = a
place_of marks (p ∷ ps) k a (suc r) = place_of marks ps (k + 1) (if marks k then a + size p + 1 else a) r

-- the address of each rule
abbrev pub address : (ℕ → Bool) → List Core → Core → ℕ → ℕ
address marks R g = place_of marks R 0 (size g + 1)

-- the goal's code, finish, and the bodies of the marked rules
abbrev pub program : (ℕ → Bool) → List Core → Core → List Instr
program marks R g =
    code (address marks R g) g 0 ++ I.Finish ∷ bodies marks (address marks R g) R 0 (size g + 1)

-- the code of the goal g over the table R: just the rules that the goal reaches are marked
pub record IsCode (R : List Core) (g : Core) (code : List Instr) : Type 0 where
  pub marks : ℕ → Bool
  pub exact : (r : ℕ) → (marks r ≡ true) ↔ Reaches R g r
  pub same : code ≡ program marks R g
