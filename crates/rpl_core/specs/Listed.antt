-- How contracts see a table of rules: the rules in order, their bodies and their blocks.
use Rattle.std.specs.Prelude.{ℕ, List, Option}
use Rattle.rpl_core.specs.Core.{Core}
use Rattle.rpl_core.specs.Table.{bodies_of, blocks_of}
use Rattle.rpl_core.specs.declared.rules.Rule.{Rule}
use Rattle.rpl_core.specs.declared.rules.Rules.{Rules}

abbrev pub rules_of : Rules → List Rule
rules_of rs = rs.items.items

-- the core of each rule's body
abbrev pub bodies_in : Rules → List Core
bodies_in rs = bodies_of (rules_of rs)

-- the number of each rule's block, if it stands in one
abbrev pub blocks_in : Rules → List (Option ℕ)
blocks_in rs = blocks_of (rules_of rs)
