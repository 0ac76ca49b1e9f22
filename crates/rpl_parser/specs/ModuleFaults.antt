-- The first fault of a module. Its tokens are cut into pieces, each of which is to be a statement that may stand where
-- it stands: the first piece at fault decides, and the version comes last.
use Rattle.std.specs.Prelude.{◌≡◌, ◌⊎◌, ℕ, true, false, List, [], ◌∷◌, ◌++◌, take, drop, Some, None}
use Rattle.rpl_lexer.specs.declared.token.Token.{Token as Lexeme}
use Rattle.rpl_syntax.specs.declared.token.Token.{Token}
use Rattle.rpl_parser.specs.Levels.{ground_level, too_deep}
use Rattle.rpl_parser.specs.Order.{Placed, placed, Outline, outline_lines, AllLocalOutside, Stands, AreLines}
use Rattle.rpl_parser.specs.Statements.{is_known}
use Rattle.rpl_parser.specs.Spelling as L
use Rattle.rpl_parser.specs.Spelling.{Line, Spells}
use Rattle.rpl_parser.specs.Tokens.{tokens_of, first_place, first_bad}
use Rattle.rpl_parser.specs.Pieces.{piece_len, closes_later}
use Rattle.rpl_parser.specs.declared.fault.ParseFault.{ParseFault}
use Rattle.rpl_parser.specs.declared.fault.ParseKind.{ParseKind}
use Rattle.rpl_parser.specs.declared.fault.ParseKind.TheVariants.{NoMemory, TooDeep, Syntax, BadBounds, Class, Version}
use Rattle.rpl_parser.specs.declared.walk.Numbered.{Numbered}

-- the first piece of the tokens, and what stands after it
abbrev pub first_of : List ℕ → List Lexeme → List Lexeme
first_of s ts = take (piece_len (tokens_of s ts)) ts

abbrev pub others_of : List ℕ → List Lexeme → List Lexeme
others_of s ts = drop (piece_len (tokens_of s ts)) ts

-- where a statement opens a block, an `end` is among the tokens after it
abbrev pub IsClosed : Line → List Token → Type 0
IsClosed L.Opens r = closes_later r ≡ true
IsClosed _ r = Unit {0}

-- the first pieces are these statements, and after them stands the rest
abbrev pub PiecesAre : List ℕ → List Lexeme → List Placed → (rest : List Lexeme) → Type 0
PiecesAre s ts [] rest = ts ≡ rest
PiecesAre s ts (l ∷ ls) rest =
    Stands s (first_of s ts) l × IsClosed l.line (tokens_of s (others_of s ts)) × PiecesAre s (others_of s ts) ls rest

-- a module can begin with these statements
pub record MayBegin (ls : List Placed) : Type 0 where
  pub more : List Placed
  pub tree : Outline
  pub lines : ls ++ more ≡ outline_lines tree
  pub blocks : AllLocalOutside tree.parts

-- the piece p is a statement that may stand after these, with the tokens q after it
pub record HasPlace (s : List ℕ) (before : List Placed) (p q : List Lexeme) : Type 0 where
  pub line : Line
  pub spelled : Spells (tokens_of s p) line
  pub begins : MayBegin (before ++ placed (first_place p) line ∷ [])
  pub closed : IsClosed line (tokens_of s q)

-- what is wrong with the piece p: the level first, then the syntax or the place of the statement, then the first bad
-- bounds or bracket
abbrev pub PieceFault : ParseKind → List ℕ → (before : List Placed) → (p q : List Lexeme) → ParseFault → Type 0
PieceFault NoMemory s before p q f = ⊥
PieceFault TooDeep s before p q f = too_deep s ground_level p ≡ Some f.at
PieceFault Syntax s before p q f =
    (too_deep s ground_level p ≡ None) × (HasPlace s before p q → ⊥) × (f.at ≡ first_place p)
PieceFault (BadBounds least most) s before p q f =
    (too_deep s ground_level p ≡ None) × HasPlace s before p q × (first_bad s p ≡ Some f)
PieceFault (Class fault) s before p q f =
    (too_deep s ground_level p ≡ None) × HasPlace s before p q × (first_bad s p ≡ Some f)
PieceFault Version s before p q f = ⊥

-- some pieces are statements that may stand so, each without a fault, and the next is at fault
pub record StatementFault (s : List ℕ) (ts : List Lexeme) (f : ParseFault) : Type 0 where
  pub before : List Placed
  pub first : Lexeme
  pub more : List Lexeme
  pub pieces : PiecesAre s ts before (first ∷ more)
  pub begins : MayBegin before
  pub fault : PieceFault f.kind s before (first_of s (first ∷ more)) (others_of s (first ∷ more)) f

-- all are statements of a module, and its version is unknown
pub record VersionFault (s : List ℕ) (ts : List Lexeme) (f : ParseFault) : Type 0 where
  pub tree : Outline
  pub number : Numbered
  pub spelled : AreLines (Stands s) ts (outline_lines tree)
  pub blocks : AllLocalOutside tree.parts
  pub version : tree.version ≡ Some number
  pub unknown : is_known number ≡ false
  pub is : f ≡ record { at = number.at; kind = Version }

abbrev pub IsModuleFault : List ℕ → List Lexeme → ParseFault → Type 0
IsModuleFault s ts f = StatementFault s ts f ⊎ VersionFault s ts f
