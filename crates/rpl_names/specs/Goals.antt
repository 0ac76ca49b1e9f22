-- The expression that a pattern's text is read as, or the first fault of the text.
use Rattle.std.specs.Prelude.{◌≡◌, ◌<◌, ◌≤◌, ℕ, Bool, true, false, List, None, Result, Ok, Err, codes}
use Rattle.std.specs.Prelude.{chars, length}
use Rattle.rpl_lexer.specs.Cutting.{cut_of}
use Rattle.rpl_lexer.specs.declared.fault.LexFault.{LexFault}
use Rattle.rpl_lexer.specs.declared.token.Token.{Token}
use Rattle.rpl_parser.specs.Patterns.{IsPattern, IsPatternFault}
use Rattle.rpl_parser.specs.declared.fault.ParseFault.{ParseFault}
use Rattle.rpl_syntax.specs.Expression.{Expr, Text, Macro}
use Rattle.rpl_syntax.specs.declared.name.QName.{QName}
use Rattle.rpl_scope.specs.Results.{Or, fault}
use Rattle.rpl_scope.specs.declared.fault.LoadKind.TheVariants.{FileTooLong, Lex, Parse}
use Rattle.rpl_names.specs.Texts.{max_text_bytes}

-- under this name the faults of a pattern's text are reported
abbrev pub pattern_file : List ℕ
pattern_file = codes "(pattern)"

abbrev pub findall : QName
findall = record { prefix = None; name = codes "findall"; at = 0 }

-- a pattern that is searched for is found wherever it stands
abbrev pub sought : (find : Bool) → Expr → Expr
sought true e = Macro findall e
sought false e = e

-- tokens read as a pattern, or their first fault
abbrev pub ReadsTokens : (find : Bool) → List ℕ → List Token → Or Expr → Type 0
ReadsTokens find s ts (Ok e) = (x : Expr) × IsPattern s ts x × (e ≡ sought find x)
ReadsTokens find s ts (Err f) =
    (p : ParseFault) × IsPatternFault s ts p × (Err f ≡ fault {A = Expr} pattern_file p.at (Parse p.kind))

abbrev pub ReadsCut : (find : Bool) → List ℕ → Result (List Token) LexFault → Or Expr → Type 0
ReadsCut find s (Ok ts) r = ReadsTokens find s ts r
ReadsCut find s (Err e) r = r ≡ fault pattern_file e.at (Lex e.kind)

-- a text that isn't too long: a literal, or RPL
abbrev pub ReadsText : (fixed find : Bool) → List ℕ → Or Expr → Type 0
ReadsText true find s r = r ≡ Ok (sought find (Text (chars s)))
ReadsText false find s r = ReadsCut find s (cut_of s) r

-- what a pattern's text is read as
pub record ReadsGoal (fixed find : Bool) (s : List ℕ) (r : Or Expr) : Type 0 where
  pub long : max_text_bytes < length s → r ≡ fault pattern_file 0 FileTooLong
  pub text : length s ≤ max_text_bytes → ReadsText fixed find s r
