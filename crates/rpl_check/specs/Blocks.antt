-- The first fault of a table of rules, block by block.
use Rattle.std.specs.Prelude.{ℕ, zero, suc, ◌+◌, ◌-◌, Bool, if◌then◌else◌, List, [], ◌∷◌, Option, Some, None, length}
use Rattle.std.specs.Option.{option_or}
use Rattle.rpl_core.specs.Core.{Core}
use Rattle.rpl_core.specs.Order.{joins_next}
use Rattle.rpl_facts.specs.Facts.{Facts}
use Rattle.rpl_check.specs.Faults.{Fault, LeftRecursion, behind_at, loop_at, halt_at, first_from}

-- which of the n rules from k on reach themselves
abbrev pub selves : (ℕ → ℕ → Bool) → ℕ → ℕ → List ℕ
selves reach k zero = []
selves reach k (suc n) = if reach k k then k ∷ selves reach (k + 1) n else selves reach (k + 1) n

-- their fault, if there are any
abbrev pub recursion_of : List ℕ → Option Fault
recursion_of [] = None
recursion_of (r ∷ rs) = Some (LeftRecursion (r ∷ rs))

-- The first fault of a block, or of a rule outside blocks, whose rules are those from a on and before b: first the
-- look-behinds of all its rules, then left recursion, then all empty loops, then all halts under predicates. The rules
-- of m may be empty, those of h may halt, and each reaches those of `reach` before a character.
abbrev pub group_fault : (ℕ → Bool) → (ℕ → Bool) → (ℕ → ℕ → Bool) → List Core → ℕ → ℕ → Option Fault
group_fault m h reach R a b =
    option_or
    (first_from (behind_at R) a (b - a))
    (option_or
    (recursion_of (selves reach a (b - a)))
    (option_or (first_from (loop_at m R) a (b - a)) (first_from (halt_at h R) a (b - a))))

-- the first that f finds at a block, or at a rule outside blocks, where the present one begins at a, and n rules are
-- left from k on
abbrev pub fault_from : (ℕ → ℕ → Option Fault) → List (Option ℕ) → ℕ → ℕ → ℕ → Option Fault
fault_from f blocks a k zero = None
fault_from f blocks a k (suc n) =
    if joins_next blocks k then fault_from f blocks a (k + 1) n
    else option_or (f a (k + 1)) (fault_from f blocks (k + 1) (k + 1) n)

-- the first fault of a table
abbrev pub table_fault :
    (ℕ → Bool) → (ℕ → Bool) → (ℕ → ℕ → Bool) → List Core → List (Option ℕ) → Option Fault
table_fault m h reach R blocks = fault_from (group_fault m h reach R) blocks 0 0 (length blocks)

-- that under the static facts of the table
abbrev pub first_fault : {R : List Core} → Facts R → List (Option ℕ) → Option Fault
first_fault {R} d blocks = table_fault d.empties d.halting d.reach R blocks
