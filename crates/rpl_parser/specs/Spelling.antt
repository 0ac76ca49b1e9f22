-- The grammar of statements: one case for each of its lines, with the tokens of each case and what it stands for.
--
--   Statement := "rpl" Number "." Number | "package" Name | "import" Entries
--              | "local"? "alias"? Name "=" Exp | "~" "=" Exp | "grammar" | "in" | "end"
--   Entries   := Entry | Entry "," Entries
--   Entry     := Path | Path "as" Name | Path "as" "."
--   Path      := Name | Name "/" Path
use Rattle.std.specs.Prelude.{◌≡◌, ℕ, Bool, true, false, List, [], ◌∷◌, ◌++◌}
use Rattle.rpl_lexer.specs.declared.keyword.Keyword.{Keyword}
use Rattle.rpl_lexer.specs.declared.keyword.Keyword.TheVariants as W
use Rattle.rpl_lexer.specs.declared.punct.Punct.TheVariants as P
use Rattle.rpl_syntax.specs.Expression.{Expr, joined}
use Rattle.rpl_syntax.specs.Grammar.{Exp, spell_exp, content}
use Rattle.rpl_syntax.specs.declared.module.Import.{Import}
use Rattle.rpl_syntax.specs.declared.module.ImportAs.{ImportAs}
use Rattle.rpl_syntax.specs.declared.module.ImportAs.TheVariants as A
use Rattle.rpl_syntax.specs.declared.token.Token.{Token}
use Rattle.rpl_syntax.specs.declared.token.Token.TheVariants as T
pub use Rattle.rpl_parser.specs.Statements.{Line, Version, Package, Imports, Binds, Opens, Splits, Closes}

-- ---- the trees

pub data Path : Type 0 where
  Last : (name : List ℕ) (at : ℕ) → Path
  Under : (name : List ℕ) (at : ℕ) (p : Path) → Path

pub data As : Type 0 where
  NoAs : As
  AsName : (name : List ℕ) (at : ℕ) → As
  AsDot : As

pub data Entries : Type 0 where
  Single : (p : Path) (a : As) → Entries
  More : (p : Path) (a : As) (es : Entries) → Entries

pub data Statement : Type 0 where
  RplLine : (major minor : ℕ) → Statement
  PackageLine : (name : List ℕ) (at : ℕ) → Statement
  ImportLine : (es : Entries) → Statement
  BindingLine : (local alias : Bool) (name : List ℕ) (at : ℕ) (e : Exp) → Statement
  BoundaryLine : (e : Exp) → Statement
  GrammarLine : Statement
  InLine : Statement
  EndLine : Statement

-- ---- spelling: the tokens of each, and after them the tokens r

abbrev pub spell_path : Path → List Token → List Token
spell_path (Last n at) r = T.Name n at ∷ r
spell_path (Under n at p) r = T.Name n at ∷ T.Sign P.Slash ∷ spell_path p r

abbrev pub spell_as : As → List Token → List Token
spell_as NoAs r = r
spell_as (AsName n at) r = T.Keyword W.As ∷ T.Name n at ∷ r
spell_as AsDot r = T.Keyword W.As ∷ T.Sign P.Dot ∷ r

abbrev pub spell_entries : Entries → List Token
spell_entries (Single p a) = spell_path p (spell_as a [])
spell_entries (More p a es) = spell_path p (spell_as a (T.Sign P.Comma ∷ spell_entries es))

-- a keyword that may be left out
abbrev pub spell_if : Bool → Keyword → List Token → List Token
spell_if true w r = T.Keyword w ∷ r
spell_if false w r = r

abbrev pub spell_statement : Statement → List Token
spell_statement (RplLine a b) = T.Keyword W.Rpl ∷ T.Number a ∷ T.Sign P.Dot ∷ T.Number b ∷ []
spell_statement (PackageLine n at) = T.Keyword W.Package ∷ T.Name n at ∷ []
spell_statement (ImportLine es) = T.Keyword W.Import ∷ spell_entries es
spell_statement (BindingLine local alias n at e) =
    spell_if local W.Local (spell_if alias W.Alias (T.Name n at ∷ T.Sign P.Equals ∷ spell_exp e []))
spell_statement (BoundaryLine e) = T.Sign P.Tilde ∷ T.Sign P.Equals ∷ spell_exp e []
spell_statement GrammarLine = T.Keyword W.Grammar ∷ []
spell_statement InLine = T.Keyword W.In ∷ []
spell_statement EndLine = T.Keyword W.End ∷ []

-- ---- meaning

-- the names with `/` between them
abbrev pub path_text : Path → List ℕ
path_text (Last n at) = n
path_text (Under n at p) = n ++ 47 ∷ path_text p

abbrev pub path_place : Path → ℕ
path_place (Last n at) = at
path_place (Under n at p) = at

abbrev pub import_as : As → ImportAs
import_as NoAs = A.Last
import_as (AsName n at) = A.Named n
import_as AsDot = A.Plain

abbrev pub entry : Path → As → Import
entry p a = record { path = path_text p; at = path_place p; name = import_as a }

abbrev pub entries : Entries → List Import
entries (Single p a) = entry p a ∷ []
entries (More p a es) = entry p a ∷ entries es

abbrev pub whole_expr : Exp → Expr
whole_expr e = joined false (content false e)

-- the module's own boundary is a local alias with the name `~`
abbrev pub line : Statement → Line
line (RplLine a b) = Version a b
line (PackageLine n at) = Package n
line (ImportLine es) = Imports (entries es)
line (BindingLine local alias n at e) = Binds local alias n (whole_expr e)
line (BoundaryLine e) = Binds true true (126 ∷ []) (whole_expr e)
line GrammarLine = Opens
line InLine = Splits
line EndLine = Closes

-- the tokens p are a spelling of the statement l
pub record Spells (p : List Token) (l : Line) : Type 0 where
  pub tree : Statement
  pub spelled : p ≡ spell_statement tree
  pub stands_for : l ≡ line tree
