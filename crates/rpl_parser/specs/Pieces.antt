-- The pieces of a module: each begins at a keyword of statements, or at a binding's name, and is to be a statement.
use Rattle.std.specs.Prelude.{ℕ, suc, Bool, true, false, not, List, [], ◌∷◌, if◌then◌else◌}
use Rattle.rpl_lexer.specs.declared.keyword.Keyword.{Keyword}
use Rattle.rpl_lexer.specs.declared.keyword.Keyword.TheVariants as W
use Rattle.rpl_lexer.specs.declared.punct.Punct.TheVariants as P
use Rattle.rpl_syntax.specs.declared.token.Token.{Token}
use Rattle.rpl_syntax.specs.declared.token.Token.TheVariants as T

abbrev pub word_begins : Keyword → Bool
word_begins W.As = false
word_begins W.Alias = false
word_begins _ = true

abbrev pub is_local : Token → Bool
is_local (T.Keyword W.Local) = true
is_local t = false

abbrev pub is_local_or_alias : Token → Bool
is_local_or_alias (T.Keyword W.Local) = true
is_local_or_alias (T.Keyword W.Alias) = true
is_local_or_alias t = false

-- a piece begins after this token
abbrev pub begins_piece : Token → List Token → Bool
begins_piece before (T.Keyword W.Alias ∷ r) = not (is_local before)
begins_piece before (T.Keyword w ∷ r) = word_begins w
begins_piece before (T.Name n at ∷ T.Sign P.Equals ∷ r) = not (is_local_or_alias before)
begins_piece before (T.Sign P.Tilde ∷ T.Sign P.Equals ∷ r) = not (is_local_or_alias before)
begins_piece before r = false

-- how many tokens stand before the next piece, after this token
abbrev pub front : Token → List Token → ℕ
front before [] = 0
front before (t ∷ ts) = if begins_piece before (t ∷ ts) then 0 else suc (front t ts)

-- how many tokens the first piece has
abbrev pub piece_len : List Token → ℕ
piece_len [] = 0
piece_len (t ∷ ts) = suc (front t ts)

-- a block is closed later
abbrev pub closes_later : List Token → Bool
closes_later [] = false
closes_later (T.Keyword W.End ∷ r) = true
closes_later (t ∷ r) = closes_later r
