-- Reading a module statement by statement: which may stand where, and the first fault. The law `one_module` says that
-- this gives just the modules of `Order`, and the first faults of `ModuleFaults`.
use Rattle.std.specs.Prelude.{ℕ, zero, suc, Bool, true, false, List, [], ◌∷◌, ◌++◌, length, take, drop, Option, Some}
use Rattle.std.specs.Prelude.{None, option_and_then, Result, Ok, Err, if◌then◌else◌}
use Rattle.rpl_lexer.specs.declared.token.Token.{Token as Lexeme}
use Rattle.rpl_syntax.specs.Grammar.{unprefixed}
use Rattle.rpl_syntax.specs.Parsed.{Rule, Entry, One, Block, ParsedModule}
use Rattle.rpl_syntax.specs.declared.module.Import.{Import}
use Rattle.rpl_syntax.specs.declared.name.QName.{QName}
use Rattle.rpl_parser.specs.Levels.{ground_level, too_deep}
use Rattle.rpl_parser.specs.Lines.{line_of}
use Rattle.rpl_parser.specs.Statements.{is_known, Line}
use Rattle.rpl_parser.specs.Pieces.{piece_len, closes_later}
use Rattle.rpl_parser.specs.Statements as L
use Rattle.rpl_parser.specs.Tokens.{tokens_of, first_place, first_bad}
use Rattle.rpl_parser.specs.declared.walk.Numbered.{Numbered}
use Rattle.rpl_parser.specs.declared.walk.Stage.{Stage}
use Rattle.rpl_parser.specs.declared.walk.Stage.TheVariants.{Begun, Versioned, Packaged, Ruled, InBlock, BehindIn}
use Rattle.rpl_parser.specs.declared.fault.ParseFault.{ParseFault}
use Rattle.rpl_parser.specs.declared.fault.ParseKind.TheVariants.{TooDeep, Syntax, Version}

-- ---- the order of statements

pub record Walk : Type 0 where
  pub stage : Stage
  pub version : Option Numbered
  pub name : Option QName
  pub imports : List Import
  pub items : List Entry
  pub hidden : List Rule
  pub rules : List Rule

abbrev pub begun : Walk
begun = record { stage = Begun; version = None; name = None; imports = []; items = []; hidden = []; rules = [] }

abbrev pub versioned : Walk → Stage → Numbered → Option Walk
versioned w Begun v = Some (record w { stage = Versioned; version = Some v })
versioned w _ v = None

abbrev pub packaged : Walk → Stage → QName → Option Walk
packaged w Begun q = Some (record w { stage = Packaged; name = Some q })
packaged w Versioned q = Some (record w { stage = Packaged; name = Some q })
packaged w _ q = None

abbrev pub imported : Walk → Stage → List Import → Option Walk
imported w Ruled es = None
imported w InBlock es = None
imported w BehindIn es = None
imported w _ es = Some (record w { stage = Packaged; imports = w.imports ++ es })

abbrev pub in_block : Walk → Rule → Option Walk
in_block w r = if r.local then None else Some (record w { rules = w.rules ++ r ∷ [] })

abbrev pub ruled : Walk → Rule → Walk
ruled w r = record w { stage = Ruled; items = w.items ++ One r ∷ [] }

abbrev pub bound : Walk → Stage → Rule → Option Walk
bound w InBlock r = in_block w r
bound w BehindIn r = in_block w r
bound w _ r = Some (ruled w r)

abbrev pub block_begun : Walk → (closes : Bool) → Option Walk
block_begun w true = Some (record w { stage = InBlock; hidden = []; rules = [] })
block_begun w false = None

abbrev pub opened : Walk → Stage → (closes : Bool) → Option Walk
opened w InBlock c = None
opened w BehindIn c = None
opened w _ c = block_begun w c

abbrev pub split : Walk → Stage → Option Walk
split w InBlock = Some (record w { stage = BehindIn; hidden = w.rules; rules = [] })
split w _ = None

abbrev pub shut : Walk → Walk
shut w = record w { stage = Ruled; items = w.items ++ Block w.hidden w.rules ∷ []; hidden = []; rules = [] }

abbrev pub closed : Walk → Stage → Option Walk
closed w InBlock = Some (shut w)
closed w BehindIn = Some (shut w)
closed w _ = None

-- after one more statement that begins at this place, where it may stand there
abbrev pub place : Walk → (at : ℕ) → (closes : Bool) → Line → Option Walk
place w at c (L.Version a b) = versioned w w.stage (record { at = at; major = a; minor = b })
place w at c (L.Package n) = packaged w w.stage (unprefixed n at)
place w at c (L.Imports es) = imported w w.stage es
place w at c (L.Binds local alias n x) =
    bound w w.stage (record { name = n; at = at; local = local; alias = alias; body = x })
place w at c L.Opens = opened w w.stage c
place w at c L.Splits = split w w.stage
place w at c L.Closes = closed w w.stage

-- ---- faults

abbrev pub syntax_at : {X : Type 0} → (at : ℕ) → Result X ParseFault
syntax_at at = Err (record { at = at; kind = Syntax })

abbrev pub by_bad : {X : Type 0} → X → Option ParseFault → Result X ParseFault
by_bad w None = Ok w
by_bad w (Some f) = Err f

abbrev pub by_place : (at : ℕ) → Option ParseFault → Option Walk → Result Walk ParseFault
by_place at bad None = syntax_at at
by_place at bad (Some w) = by_bad w bad

abbrev pub by_line : (at : ℕ) → Option ParseFault → Walk → (closes : Bool) → Option Line → Result Walk ParseFault
by_line at bad w c l = by_place at bad (option_and_then (place w at c) l)

abbrev pub by_level : Option ℕ → Result Walk ParseFault → Result Walk ParseFault
by_level None r = r
by_level (Some at) r = Err (record { at = at; kind = TooDeep })

-- after one more piece, or its first fault: the level, the syntax, then the first bad bounds or bracket
abbrev pub step : List ℕ → Walk → (closes : Bool) → List Lexeme → Result Walk ParseFault
step s w c p =
    by_level (too_deep s ground_level p) (by_line (first_place p) (first_bad s p) w c (line_of (tokens_of s p)))

abbrev pub by_version : ParsedModule → Option Numbered → Result ParsedModule ParseFault
by_version m None = Ok m
by_version m (Some v) = if is_known v then Ok m else Err (record { at = v.at; kind = Version })

abbrev pub finish : Walk → Result ParsedModule ParseFault
finish w = by_version (record { name = w.name; imports = w.imports; items = w.items }) w.version

abbrev pub go_on : Result Walk ParseFault → (Walk → Result ParsedModule ParseFault) → Result ParsedModule ParseFault
go_on (Ok w) rest = rest w
go_on (Err f) rest = Err f

-- at most n pieces
abbrev pub walk : ℕ → List ℕ → Walk → List Lexeme → Result ParsedModule ParseFault
walk zero s w ts = finish w
walk (suc n) s w [] = finish w
walk (suc n) s w (t ∷ ts) =
    let k = piece_len (tokens_of s (t ∷ ts)) in
    let rest = drop k (t ∷ ts) in
    go_on (step s w (closes_later (tokens_of s rest)) (take k (t ∷ ts))) (λ v. walk n s v rest)

-- the module that a text with these tokens spells, or its first fault
abbrev pub module_of : List ℕ → List Lexeme → Result ParsedModule ParseFault
module_of s ts = walk (suc (length ts)) s begun ts
