-- What a module is: statements one after the other, in this order.
--
--   Module := Version? Package? Import* Part*
--   Part   := Binding | "grammar" Binding* "end" | "grammar" Binding* "in" Binding* "end"
--
-- No binding of a block is local. In a block those before its `in` are hidden; without an `in` all are visible.
use Rattle.std.specs.Prelude.{◌≡◌, ℕ, true, false, List, [], ◌∷◌, ◌++◌, Option, Some, None}
use Rattle.rpl_lexer.specs.declared.token.Token.{Token as Lexeme}
use Rattle.rpl_syntax.specs.Grammar.{unprefixed}
use Rattle.rpl_syntax.specs.Parsed.{Rule, Entry, One, Block, ParsedModule}
use Rattle.rpl_syntax.specs.declared.module.Import.{Import}
use Rattle.rpl_syntax.specs.declared.name.QName.{QName}
use Rattle.rpl_parser.specs.Levels.{ground_level, too_deep}
use Rattle.rpl_parser.specs.Spelling as L
use Rattle.rpl_parser.specs.Spelling.{Line, Spells}
use Rattle.rpl_parser.specs.Tokens.{tokens_of, first_place, first_bad}
use Rattle.rpl_parser.specs.declared.walk.Numbered.{Numbered}
use Rattle.rpl_parser.specs.Statements.{is_known}

-- a statement, and the place of its first token
pub record Placed : Type 0 where
  pub at : ℕ
  pub line : Line

abbrev pub placed : (at : ℕ) → Line → Placed
placed at l = record { at = at; line = l }

-- ---- the trees; a number is the place of a statement

pub record Title : Type 0 where
  pub at : ℕ
  pub name : List ℕ

pub record Importing : Type 0 where
  pub at : ℕ
  pub entries : List Import

pub data Part : Type 0 where
  Alone : (rule : Rule) → Part
  Whole : (opens : ℕ) (visible : List Rule) (closes : ℕ) → Part
  Halves : (opens : ℕ) (hidden : List Rule) (splits : ℕ) (visible : List Rule) (closes : ℕ) → Part

pub record Outline : Type 0 where
  pub version : Option Numbered
  pub title : Option Title
  pub imports : List Importing
  pub parts : List Part

-- ---- spelling: the statements of each, and after them the statements q

abbrev pub rule_line : Rule → Placed
rule_line r = placed r.at (L.Binds r.local r.alias r.name r.body)

abbrev pub rule_lines : List Rule → List Placed → List Placed
rule_lines [] q = q
rule_lines (r ∷ rs) q = rule_line r ∷ rule_lines rs q

abbrev pub part_lines : Part → List Placed → List Placed
part_lines (Alone r) q = rule_line r ∷ q
part_lines (Whole o vs c) q = placed o L.Opens ∷ rule_lines vs (placed c L.Closes ∷ q)
part_lines (Halves o hs i vs c) q =
    placed o L.Opens ∷ rule_lines hs (placed i L.Splits ∷ rule_lines vs (placed c L.Closes ∷ q))

abbrev pub parts_lines : List Part → List Placed
parts_lines [] = []
parts_lines (p ∷ ps) = part_lines p (parts_lines ps)

abbrev pub import_lines : List Importing → List Placed → List Placed
import_lines [] q = q
import_lines (i ∷ is) q = placed i.at (L.Imports i.entries) ∷ import_lines is q

abbrev pub title_lines : Option Title → List Placed → List Placed
title_lines None q = q
title_lines (Some t) q = placed t.at (L.Package t.name) ∷ q

abbrev pub version_lines : Option Numbered → List Placed → List Placed
version_lines None q = q
version_lines (Some v) q = placed v.at (L.Version v.major v.minor) ∷ q

abbrev pub outline_lines : Outline → List Placed
outline_lines o = version_lines o.version (title_lines o.title (import_lines o.imports (parts_lines o.parts)))

-- ---- meaning

abbrev pub part_entry : Part → Entry
part_entry (Alone r) = One r
part_entry (Whole o vs c) = Block [] vs
part_entry (Halves o hs i vs c) = Block hs vs

abbrev pub part_entries : List Part → List Entry
part_entries [] = []
part_entries (p ∷ ps) = part_entry p ∷ part_entries ps

abbrev pub all_imports : List Importing → List Import
all_imports [] = []
all_imports (i ∷ is) = i.entries ++ all_imports is

abbrev pub title_name : Option Title → Option QName
title_name None = None
title_name (Some t) = Some (unprefixed t.name t.at)

abbrev pub outline_said : Outline → ParsedModule
outline_said o = record { name = title_name o.title; imports = all_imports o.imports; items = part_entries o.parts }

-- ---- what else is asked

abbrev pub NoneLocal : List Rule → Type 0
NoneLocal [] = Unit {0}
NoneLocal (r ∷ rs) = (r.local ≡ false) × NoneLocal rs

-- no binding of a block is local
abbrev pub LocalOutside : Part → Type 0
LocalOutside (Alone r) = Unit {0}
LocalOutside (Whole o vs c) = NoneLocal vs
LocalOutside (Halves o hs i vs c) = NoneLocal hs × NoneLocal vs

abbrev pub AllLocalOutside : List Part → Type 0
AllLocalOutside [] = Unit {0}
AllLocalOutside (p ∷ ps) = LocalOutside p × AllLocalOutside ps

abbrev pub IsKnown : Option Numbered → Type 0
IsKnown None = Unit {0}
IsKnown (Some v) = is_known v ≡ true

-- these tokens of the text are a spelling of the statement
pub record Spelt (s : List ℕ) (p : List Lexeme) (l : Placed) : Type 0 where
  pub place : l.at ≡ first_place p
  pub spelled : Spells (tokens_of s p) l.line

-- they are, and are nested no deeper than 100, with good bounds and brackets
pub record Stands (s : List ℕ) (p : List Lexeme) (l : Placed) : Type 0 where
  pub place : l.at ≡ first_place p
  pub shallow : too_deep s ground_level p ≡ None
  pub spelled : Spells (tokens_of s p) l.line
  pub good : first_bad s p ≡ None

-- these tokens are the statements, one after the other
abbrev pub AreLines : (List Lexeme → Placed → Type 0) → List Lexeme → List Placed → Type 0
AreLines Is ts [] = ts ≡ []
AreLines Is ts (l ∷ ls) = (p : List Lexeme) × (q : List Lexeme) × (ts ≡ p ++ q) × Is p l × AreLines Is q ls

-- the tokens of the text are a spelling of the module
pub record ReadsModule (s : List ℕ) (ts : List Lexeme) (m : ParsedModule) : Type 0 where
  pub tree : Outline
  pub spelled : AreLines (Spelt s) ts (outline_lines tree)
  pub stands_for : m ≡ outline_said tree
  pub blocks : AllLocalOutside tree.parts

-- they are, and none of them is at fault
pub record IsModule (s : List ℕ) (ts : List Lexeme) (m : ParsedModule) : Type 0 where
  pub tree : Outline
  pub spelled : AreLines (Stands s) ts (outline_lines tree)
  pub stands_for : m ≡ outline_said tree
  pub blocks : AllLocalOutside tree.parts
  pub version : IsKnown tree.version
