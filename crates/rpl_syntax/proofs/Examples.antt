-- The reading computes.
use Rattle.std.proofs.Common.{◌≡◌, [], ◌∷◌, Some, None, refl}
use Rattle.rpl_lexer.specs.declared.punct.Punct.TheVariants.{Slash, Ampersand, OpenBrace, CloseBrace, Star, Bang}
use Rattle.rpl_syntax.specs.declared.token.Token.TheVariants as T
use Rattle.rpl_syntax.specs.declared.expr.Sign.TheVariants.{Not}
use Rattle.rpl_syntax.specs.Expression.{Name, Raw, Choice, Both, Prefix, Repeat, Cons, one}
use Rattle.rpl_syntax.specs.Grammar.{unprefixed}
use Rattle.rpl_syntax.specs.Reading.{read}

-- a / b & c
choice_and : read (T.Name (1 ∷ []) 0 ∷ T.Sign Slash ∷ T.Name (2 ∷ []) 4 ∷ T.Sign Ampersand ∷ T.Name (3 ∷ []) 8 ∷ [])
    ≡ Some (Choice (Cons (Name (unprefixed (1 ∷ []) 0))
    (one (Both (Name (unprefixed (2 ∷ []) 4)) (Name (unprefixed (3 ∷ []) 8))))))
choice_and = refl

-- {!a b*}
group : read (T.Sign OpenBrace ∷ T.Sign Bang ∷ T.Name (1 ∷ []) 2 ∷ T.Name (2 ∷ []) 4 ∷ T.Sign Star ∷ T.Sign CloseBrace
    ∷ []) ≡ Some (Raw (Cons (Prefix Not (Name (unprefixed (1 ∷ []) 2)))
    (one (Repeat (Name (unprefixed (2 ∷ []) 4)) 0 None))))
group = refl

-- "a" /
cut_short : read (T.Text (1 ∷ []) ∷ T.Sign Slash ∷ []) ≡ None
cut_short = refl
