-- How deep tokens are nested, counted from left to right with a base, a level and a stack of bases.
--
-- `!`, `>`, `<` and a name with a colon after it raise the level by one. `(` and `{` push the base and raise the
-- level and the base with it; `)` and `}` take the base off again. `&` raises the base. `/` and every atom of one
-- token set the level back to the base. A bracket's own nesting counts on top of the level where it stands.
use Rattle.std.specs.Prelude.{ℕ, ◌+◌, Bool, true, false, nat_lt, List, [], ◌∷◌, Option, Some, None, if◌then◌else◌}
use Rattle.rpl_lexer.specs.declared.punct.Punct.{Punct}
use Rattle.rpl_lexer.specs.declared.punct.Punct.TheVariants.{OpenBrace, CloseBrace, OpenParen, CloseParen, Slash}
use Rattle.rpl_lexer.specs.declared.punct.Punct.TheVariants.{Ampersand, Bang, Greater, Less, Dot, Caret, Dollar, Tilde}
use Rattle.rpl_lexer.specs.declared.punct.Punct.TheVariants.{Colon}
use Rattle.rpl_lexer.specs.declared.token.Token.{Token}
use Rattle.rpl_lexer.specs.declared.token.TokenKind.{TokenKind}
use Rattle.rpl_lexer.specs.declared.token.TokenKind.TheVariants as K
use Rattle.rpl_lexer.specs.Nesting.{nesting}
use Rattle.rpl_lexer.specs.Payloads.{span, punct_of}

pub record Level : Type 0 where
  pub base : ℕ
  pub level : ℕ
  pub bases : List ℕ

abbrev pub ground_level : Level
ground_level = record { base = 0; level = 0; bases = [] }

abbrev pub raised : Level → Level
raised l = record l { level = l.level + 1 }

abbrev pub settled : Level → Level
settled l = record l { level = l.base }

abbrev pub opened : Level → Level
opened l = record { base = l.level + 1; level = l.level + 1; bases = l.base ∷ l.bases }

abbrev pub popped : List ℕ → Level
popped [] = ground_level
popped (b ∷ bs) = record { base = b; level = b; bases = bs }

abbrev pub joined : Level → Level
joined l = record l { base = l.base + 1; level = l.base + 1 }

abbrev pub sign_level : Punct → Level → Level
sign_level Bang l = raised l
sign_level Greater l = raised l
sign_level Less l = raised l
sign_level OpenParen l = opened l
sign_level OpenBrace l = opened l
sign_level CloseParen l = popped l.bases
sign_level CloseBrace l = popped l.bases
sign_level Ampersand l = joined l
sign_level Slash l = settled l
sign_level Dot l = settled l
sign_level Caret l = settled l
sign_level Dollar l = settled l
sign_level Tilde l = settled l
sign_level _ l = l

-- after one more token, of which it is known whether a colon follows
abbrev pub level_by : TokenKind → List ℕ → Token → (colon : Bool) → Level → Level
level_by K.Name s t true l = raised l
level_by K.Name s t false l = settled l
level_by K.Qualified s t colon l = settled l
level_by K.Text s t colon l = settled l
level_by K.Bracket s t colon l = settled l
level_by K.Sign s t colon l = sign_level (punct_of s t) l
level_by _ s t colon l = l

abbrev pub level_after : List ℕ → Token → (colon : Bool) → Level → Level
level_after s t colon l = level_by t.kind s t colon l

-- the level that a token reaches where it stands, beside the level after it
abbrev pub reach_by : TokenKind → List ℕ → Token → Level → Level → ℕ
reach_by K.Bracket s t before behind = before.level + nesting (span s t)
reach_by _ s t before behind = behind.level

-- ---- texts

abbrev pub is_colon : Punct → Bool
is_colon Colon = true
is_colon _ = false

abbrev pub colon_by : TokenKind → List ℕ → Token → Bool
colon_by K.Sign s t = is_colon (punct_of s t)
colon_by _ s t = false

-- a colon is next
abbrev pub colon_next : List ℕ → List Token → Bool
colon_next s [] = false
colon_next s (t ∷ ts) = colon_by t.kind s t

-- the place of the first token at which the level passes 100
abbrev pub too_deep : List ℕ → Level → List Token → Option ℕ
too_deep s l [] = None
too_deep s l (t ∷ ts) =
    let u = level_after s t (colon_next s ts) l in
    if nat_lt 100 (reach_by t.kind s t l u) then Some t.start else too_deep s u ts
