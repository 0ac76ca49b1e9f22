-- The messages of the faults. A lack of memory has none: it is reported as such.
use Rattle.std.specs.Prelude.{ℕ, List, [], ◌++◌, codes, encode_utf8_all}
use Rattle.rpl_check.specs.Causes.{Cause, Recursive, Repetition, TooLong}
use Rattle.rpl_classes.specs.declared.fault.SetFault.{SetFault}
use Rattle.rpl_classes.specs.declared.fault.SetFault.TheVariants as S
use Rattle.rpl_lexer.specs.declared.fault.LexKind.{LexKind}
use Rattle.rpl_lexer.specs.declared.fault.LexKind.TheVariants as L
use Rattle.rpl_macro.specs.declared.fault.MacroFault.{MacroFault}
use Rattle.rpl_macro.specs.declared.fault.MacroFault.TheVariants as M
use Rattle.rpl_parser.specs.declared.fault.ParseKind.{ParseKind}
use Rattle.rpl_parser.specs.declared.fault.ParseKind.TheVariants as P
use Rattle.rpl_scope.specs.declared.fault.LoadKind.{LoadKind}
use Rattle.rpl_scope.specs.declared.fault.LoadKind.TheVariants as K

-- why a text has no tokens
abbrev pub lex_text : LexKind → List ℕ
lex_text L.NoMemory = []
lex_text L.BadChar = codes "bad character"
lex_text L.OpenText = codes "text without end"
lex_text L.BadEscape = codes "bad escape"
lex_text L.NumberTooWide = codes "number too wide"
lex_text L.TooManyTokens = codes "too many tokens"

-- why a bracket has no set
abbrev pub set_text : SetFault → List ℕ
set_text S.NoMemory = []
set_text (S.UnknownClass at) = codes "unknown class"
set_text (S.BadRange at) = codes "bad range"
set_text (S.BadSet at) = codes "bad set"

-- why tokens have no reading
abbrev pub parse_text : ParseKind → List ℕ
parse_text P.NoMemory = []
parse_text P.TooDeep = codes "nested too deep"
parse_text P.Syntax = codes "syntax"
parse_text (P.BadBounds least most) = codes "bad bounds"
parse_text (P.Class fault) = set_text fault
parse_text P.Version = codes "version"

-- what is wrong with the use of a macro, whose name follows
abbrev pub macro_text : MacroFault → List ℕ
macro_text M.UnknownMacro = codes "unknown macro: "
macro_text M.BadArguments = codes "bad arguments: "

-- what is wrong with the roots, the files that they import, or the pattern
abbrev pub load_text : LoadKind → List ℕ
load_text K.NoMemory = []
load_text (K.ImportMissing path) = codes "import not found: " ++ encode_utf8_all path
load_text (K.ImportCycle path) = codes "import cycle: " ++ encode_utf8_all path
load_text K.FileTooLong = codes "text too long"
load_text K.NotText = codes "not UTF-8"
load_text (K.Duplicate name) = codes "duplicate name: " ++ encode_utf8_all name
load_text (K.UnknownName name) = codes "unknown name: " ++ encode_utf8_all name
load_text (K.HiddenName name) = codes "hidden name: " ++ encode_utf8_all name
load_text K.TooManyPackages = codes "too many packages"
load_text K.ReadFault = codes "read failed"
load_text (K.Lex kind) = lex_text kind
load_text (K.Parse kind) = parse_text kind
load_text (K.Macro name fault) = macro_text fault ++ encode_utf8_all name
load_text K.RootMissing = codes "no such file"

-- why a look-behind can't look back
abbrev pub cause_text : Cause → List ℕ
cause_text Recursive = codes "recursive"
cause_text Repetition = codes "repetition"
cause_text TooLong = codes "too long"
