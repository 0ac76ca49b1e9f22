-- What each macro makes of its argument, and which uses are right.
use Rattle.std.specs.Prelude.{ℕ, List, [], Option, Some, None, codes}
use Rattle.rpl_syntax.specs.Expression.{Expr, Any, Name, Raw, Prefix, Repeat, Marked, Note, Cons, one}
use Rattle.rpl_syntax.specs.declared.expr.Mark.TheVariants.{Hit, Skip}
use Rattle.rpl_syntax.specs.declared.expr.Sign.TheVariants.{Not}
use Rattle.rpl_syntax.specs.declared.name.QName.{QName}
use Rattle.rpl_macro.specs.Casings.{recased}
use Rattle.rpl_macro.specs.Kinds.{Macro}
use Rattle.rpl_macro.specs.declared.casing.Casing.TheVariants.{Ascii, Folded}
use Rattle.rpl_macro.specs.declared.kind.Macro.TheVariants.{Find, FindAll, KeepTo, Ci, Uci, Message, Error}
pub use Rattle.rpl_macro.specs.Uses.{text_of, is_text, use_fault}

-- any characters where p doesn't match
abbrev pub passed : Expr → Expr
passed p = Repeat (Raw (Cons (Prefix Not p) (one Any))) 0 None

-- the first place where p matches
abbrev pub found : Expr → Expr
found p = Raw (Cons (passed p) (one (Marked Hit p)))

-- the same, with what stands before it
abbrev pub kept : Expr → Expr
kept p = Raw (Cons (Marked Skip (passed p)) (one (Marked Hit p)))

-- `halt` with an empty prefix, which no text spells: the built-in rule, whatever is bound
abbrev pub halt : QName
halt = record { prefix = Some []; name = codes "halt"; at = 0 }

-- a message, and the end of the match
abbrev pub failed : List ℕ → Expr
failed t = Raw (Cons (Note t) (one (Name halt)))

-- the equation of each macro
abbrev pub applied : Macro → Expr → Expr
applied Find p = found p
applied FindAll p = Repeat (Raw (one (found p))) 1 None
applied KeepTo p = kept p
applied Ci p = recased Ascii p
applied Uci p = recased Folded p
applied Message p = Note (text_of p)
applied Error p = failed (text_of p)

-- what the macro, if there is one, makes of its argument
abbrev pub applied_if : Option Macro → Expr → Expr
applied_if None p = p
applied_if (Some k) p = applied k p
