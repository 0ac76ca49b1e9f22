-- What a token is where pieces are told apart: a keyword, a name, `~`, `=` or something else.
use Rattle.std.specs.Prelude.{Bool, true, false, not, List, [], ◌∷◌}
use Rattle.rpl_lexer.specs.declared.keyword.Keyword.TheVariants as W
use Rattle.rpl_lexer.specs.declared.punct.Punct.{Punct}
use Rattle.rpl_lexer.specs.declared.punct.Punct.TheVariants as P
use Rattle.rpl_syntax.specs.declared.token.Token.{Token}
use Rattle.rpl_syntax.specs.declared.token.Token.TheVariants as T
use Rattle.rpl_parser.specs.Pieces.{word_begins}
use Rattle.rpl_parser.specs.declared.piece.Role.{Role}
use Rattle.rpl_parser.specs.declared.piece.Role.TheVariants as R

abbrev pub sign_role : Punct → Role
sign_role P.Tilde = R.Tilde
sign_role P.Equals = R.Equals
sign_role _ = R.Other

abbrev pub role_of : Token → Role
role_of (T.Keyword w) = R.Word w
role_of (T.Name n at) = R.Name
role_of (T.Sign k) = sign_role k
role_of _ = R.Other

-- the role of the first token, where there is one
abbrev pub next_role : List Token → Role
next_role [] = R.Other
next_role (t ∷ ts) = role_of t

abbrev pub is_local : Role → Bool
is_local (R.Word W.Local) = true
is_local _ = false

abbrev pub leads : Role → Bool
leads (R.Word W.Local) = true
leads (R.Word W.Alias) = true
leads _ = false

abbrev pub is_end : Role → Bool
is_end (R.Word W.End) = true
is_end _ = false

-- a piece begins at a token with the role `next`, of which the neighbours are known
abbrev pub begins_by : (before next behind : Role) → Bool
begins_by before (R.Word W.Alias) behind = not (is_local before)
begins_by before (R.Word w) behind = word_begins w
begins_by before R.Name R.Equals = not (leads before)
begins_by before R.Tilde R.Equals = not (leads before)
begins_by before next behind = false
