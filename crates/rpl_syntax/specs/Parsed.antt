-- A module as it is read: what it imports, and its rules and blocks in their order.
use Rattle.std.specs.Prelude.{ℕ, Bool, List, Option}
use Rattle.rpl_syntax.specs.Expression as M
use Rattle.rpl_syntax.specs.declared.module.Import.{Import}
use Rattle.rpl_syntax.specs.declared.name.QName.{QName}

-- a rule
pub record Rule : Type 0 where
  pub name : List ℕ
  pub at : ℕ
  pub local : Bool
  pub alias : Bool
  pub body : M.Expr

-- a rule, or a block of them
pub data Entry : Type 0 where
  One : (rule : Rule) → Entry
  Block : (hidden visible : List Rule) → Entry

pub record ParsedModule : Type 0 where
  pub name : Option QName
  pub imports : List Import
  pub items : List Entry
