-- How the entries of an import end.
use Rattle.std.specs.Prelude.{Bool, true, false, List, ◌∷◌}
use Rattle.rpl_lexer.specs.declared.punct.Punct.TheVariants as P
use Rattle.rpl_syntax.specs.declared.token.Token.{Token}
use Rattle.rpl_syntax.specs.declared.token.Token.TheVariants as T

-- no name follows
abbrev pub is_path_end : List Token → Bool
is_path_end (T.Sign P.Slash ∷ T.Name n at ∷ r) = false
is_path_end r = true

abbrev pub comma : List Token → Bool
comma (T.Sign P.Comma ∷ r) = true
comma r = false
