-- A listing, name by name.
use Rattle.std.specs.Prelude.{ℕ, ◌≡◌, List, Option, Some, slice_get}
use Rattle.rpl_syntax.specs.declared.name.QName.{QName}
use Rattle.rpl_scope.specs.Packages.{Module, first_of}
use Rattle.rpl_scope.specs.declared.module.Prefix.{Prefix}
use Rattle.rpl_names.specs.Roots.{Packages}

-- a name after a prefix or without one
abbrev pub named : Option (List ℕ) → List ℕ → QName
named p n = record { prefix = p; name = n; at = 0 }

-- the top module has the module with this number under this prefix
pub record IsUnder (p : Packages) (prefix : List ℕ) (number : ℕ) : Type 0 where
  pub top : Module
  pub is : slice_get p.stock.modules p.top ≡ Some top
  pub under : Prefix
  pub stands : first_of prefix top.prefixes ≡ Some under
  pub numbered : under.number ≡ number
