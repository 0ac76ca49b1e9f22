-- What a statement says, and which versions are known.
use Rattle.std.specs.Prelude.{ℕ, Bool, List, ◌&&◌, nat_eq, nat_le}
use Rattle.rpl_syntax.specs.Expression.{Expr}
use Rattle.rpl_syntax.specs.declared.module.Import.{Import}
use Rattle.rpl_parser.specs.declared.walk.Numbered.{Numbered}

-- what a statement says
pub data Line : Type 0 where
  Version : (major minor : ℕ) → Line
  Package : (name : List ℕ) → Line
  Imports : (entries : List Import) → Line
  Binds : (local alias : Bool) (name : List ℕ) (body : Expr) → Line
  Opens : Line
  Splits : Line
  Closes : Line

-- 1.0 to 1.4
abbrev pub is_known : Numbered → Bool
is_known v = nat_eq v.major 1 && nat_le v.minor 4
