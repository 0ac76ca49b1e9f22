-- How contracts see a block of the table.
use Rattle.std.specs.Prelude.{◌≡◌, ℕ, ◌-◌, ◌≤◌, Bool, List, length}
use Rattle.rpl_core.specs.Core.{Core}
use Rattle.rpl_core.specs.Listed.{bodies_in, rules_of}
use Rattle.rpl_core.specs.Marks.{marked}
use Rattle.rpl_facts.specs.Groups.{CallsBefore}
use Rattle.rpl_check.specs.declared.recursion.Block.{Block}

-- the bodies of the table's rules
abbrev pub table_of : Block → List Core
table_of b = bodies_in b.rules.now

-- the rules that may be empty
abbrev pub empty_in : Block → ℕ → Bool
empty_in b = marked b.empties.now

-- It is one of the table, and its rules call only earlier rules and each other.
pub record Stands (b : Block) : Type 0 where
  pub ends : b.start ≤ b.end
  pub inside : b.end ≤ length (rules_of b.rules.now)
  pub earlier : CallsBefore (table_of b) b.start
  pub calls : CallsBefore (table_of b) b.end

-- the list has a mark for each of its rules
abbrev pub IsLong : Block → List Bool → Type 0
IsLong b marks = length marks ≡ b.end - b.start
