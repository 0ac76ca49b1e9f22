-- Reading a statement from left to right: how the tokens that spell it are found to do so. The law `one_line` says that
-- this is the reading of the grammar.
use Rattle.std.specs.Prelude.{ℕ, zero, suc, Bool, true, false, List, [], ◌∷◌, ◌++◌, length, Option, Some, None}
use Rattle.rpl_text.specs.Options.{◌>>=◌}
use Rattle.rpl_lexer.specs.declared.keyword.Keyword.TheVariants as W
use Rattle.rpl_lexer.specs.declared.punct.Punct.TheVariants as P
use Rattle.rpl_syntax.specs.Reading.{read}
use Rattle.rpl_syntax.specs.declared.module.Import.{Import}
use Rattle.rpl_syntax.specs.declared.module.ImportAs.{ImportAs}
use Rattle.rpl_syntax.specs.declared.module.ImportAs.TheVariants as A
use Rattle.rpl_syntax.specs.declared.token.Token.{Token}
use Rattle.rpl_syntax.specs.declared.token.Token.TheVariants as T
use Rattle.rpl_parser.specs.Statements.{Line, Version, Package, Imports, Binds, Opens, Splits, Closes}

-- ---- entries of an import

-- the names of a path, with `/` between them, and what follows them
abbrev pub path_of : List ℕ → List Token → List ℕ × List Token
path_of path (T.Sign P.Slash ∷ T.Name n at ∷ r) = path_of (path ++ 47 ∷ n) r
path_of path r = (path, r)

abbrev pub as_of : List Token → Option (ImportAs × List Token)
as_of (T.Keyword W.As ∷ T.Name n at ∷ r) = Some (A.Named n, r)
as_of (T.Keyword W.As ∷ T.Sign P.Dot ∷ r) = Some (A.Plain, r)
as_of (T.Keyword W.As ∷ r) = None
as_of r = Some (A.Last, r)

abbrev pub entry_from : (at : ℕ) → List ℕ × List Token → Option (Import × List Token)
entry_from at p = as_of p.1 >>= λ a. Some (record { path = p.0; at = at; name = a.0 }, a.1)

abbrev pub entry_of : List Token → Option (Import × List Token)
entry_of (T.Name n at ∷ r) = entry_from at (path_of n r)
entry_of r = None

-- entries after which nothing stands
abbrev pub all_of : List Import → List Token → Option (List Import)
all_of es [] = Some es
all_of es (t ∷ r) = None

-- an entry, and those that are read after a comma
abbrev pub with_others : (List Token → Option (List Import)) → Import → List Token → Option (List Import)
with_others others e (T.Sign P.Comma ∷ r) = others r >>= λ es. Some (e ∷ es)
with_others others e r = all_of (e ∷ []) r

-- at most n entries, which are all that follows
abbrev pub entries_of : ℕ → List Token → Option (List Import)
entries_of zero s = None
entries_of (suc n) s = entry_of s >>= λ e. with_others (entries_of n) e.0 e.1

-- ---- statements

abbrev pub binds : (local alias : Bool) → List Token → Option Line
binds local alias (T.Name n at ∷ T.Sign P.Equals ∷ r) = read r >>= λ x. Some (Binds local alias n x)
binds local alias r = None

abbrev pub alias_of : (local : Bool) → List Token → Option Line
alias_of local (T.Keyword W.Alias ∷ r) = binds local true r
alias_of local r = binds local false r

-- a statement of one keyword, after that keyword
abbrev pub alone_of : Line → List Token → Option Line
alone_of l [] = Some l
alone_of l (t ∷ r) = None

-- the statement that the tokens spell
abbrev pub line_of : List Token → Option Line
line_of (T.Keyword W.Rpl ∷ T.Number a ∷ T.Sign P.Dot ∷ T.Number b ∷ []) = Some (Version a b)
line_of (T.Keyword W.Package ∷ T.Name n at ∷ []) = Some (Package n)
line_of (T.Keyword W.Import ∷ r) = entries_of (suc (length r)) r >>= λ es. Some (Imports es)
line_of (T.Keyword W.Grammar ∷ r) = alone_of Opens r
line_of (T.Keyword W.In ∷ r) = alone_of Splits r
line_of (T.Keyword W.End ∷ r) = alone_of Closes r
line_of (T.Keyword W.Local ∷ r) = alias_of true r
line_of (T.Keyword W.Alias ∷ r) = binds false true r
line_of (T.Sign P.Tilde ∷ T.Sign P.Equals ∷ r) = read r >>= λ x. Some (Binds true true (126 ∷ []) x)
line_of r = binds false false r
