-- What a text is read as: its size, its form, its tokens and its statements, or the first fault of these.
use Rattle.std.specs.Prelude.{ℕ, nat_lt, if◌then◌else◌, List, length, Result, Ok, Err}
use Rattle.std.specs.Str.{is_utf8}
use Rattle.rpl_lexer.specs.Cutting.{cut_of}
use Rattle.rpl_lexer.specs.declared.token.Token.{Token}
use Rattle.rpl_lexer.specs.declared.fault.LexFault.{LexFault}
use Rattle.rpl_parser.specs.Walks.{module_of}
use Rattle.rpl_parser.specs.declared.fault.ParseFault.{ParseFault}
use Rattle.rpl_syntax.specs.Parsed.{ParsedModule}
use Rattle.rpl_scope.specs.Results.{Or, fault}
use Rattle.rpl_scope.specs.declared.fault.LoadKind.TheVariants.{FileTooLong, NotText, Lex, Parse}

abbrev pub of_parse : {A : Type 0} → List ℕ → Result A ParseFault → Or A
of_parse f (Ok x) = Ok x
of_parse f (Err e) = fault f e.at (Parse e.kind)

abbrev pub of_cut : {A : Type 0} → List ℕ → (List Token → Result A ParseFault) → Result (List Token) LexFault → Or A
of_cut f parse (Ok ts) = of_parse f (parse ts)
of_cut f parse (Err e) = fault f e.at (Lex e.kind)

-- a text of the file f that is neither too long nor in another form
abbrev pub parsed : List ℕ → List ℕ → Or ParsedModule
parsed f s = of_cut f (module_of s) (cut_of s)

abbrev pub max_text_bytes : ℕ
max_text_bytes = 1048576

abbrev pub module_text : List ℕ → List ℕ → Or ParsedModule
module_text f bytes =
    if nat_lt max_text_bytes (length bytes) then fault f 0 FileTooLong
    else if is_utf8 bytes then parsed f bytes
    else fault f 0 NotText
