-- Which uses of a macro are right.
use Rattle.std.specs.Prelude.{ℕ, Bool, true, false, ◌&&◌, not, List, [], Option, Some, None, if◌then◌else◌}
use Rattle.rpl_syntax.specs.Expression.{Expr, Text}
use Rattle.rpl_macro.specs.Kinds.{Macro, takes_text}
use Rattle.rpl_macro.specs.declared.fault.MacroFault.{MacroFault}
use Rattle.rpl_macro.specs.declared.fault.MacroFault.TheVariants.{UnknownMacro, BadArguments}

-- the characters of a text
abbrev pub text_of : Expr → List ℕ
text_of (Text t) = t
text_of _ = []

abbrev pub is_text : Expr → Bool
is_text (Text t) = true
is_text _ = false

-- what is wrong with a use, if anything is
abbrev pub use_fault : Option Macro → Expr → Option MacroFault
use_fault None p = Some UnknownMacro
use_fault (Some k) p = if takes_text k && not (is_text p) then Some BadArguments else None
