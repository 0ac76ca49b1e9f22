-- The level stays low until it passes 100.
use Rattle.std.proofs.Common.{◌≡◌, ℕ, suc, ◌+◌, ◌≤◌, ◌<◌, List, [], ◌∷◌, length, get_or, drop, refl, sym, ap, subst}
use Rattle.std.proofs.Common.{◌∙◌, arith}
use Rattle.std.proofs.Math.Seq.{drop-cons}
use Rattle.std.proofs.lemmas.Option.{slice_get-get_or}
use Rattle.std.specs.Prelude.{Bool, true, false, nat_lt}
use Rattle.rpl_lexer.specs.Cut.{IsToken}
use Rattle.rpl_lexer.specs.Payloads.{punct_of}
use Rattle.rpl_lexer.specs.declared.punct.Punct.{Punct}
use Rattle.rpl_lexer.specs.declared.punct.Punct.TheVariants.{OpenBrace, CloseBrace, OpenParen, CloseParen, Slash}
use Rattle.rpl_lexer.specs.declared.punct.Punct.TheVariants.{Ampersand, Bang, Greater, Less, Dot, Caret, Dollar, Tilde}
use Rattle.rpl_lexer.specs.declared.token.Token.{Token}
use Rattle.rpl_lexer.specs.declared.token.TokenKind.{TokenKind}
use Rattle.rpl_lexer.specs.declared.token.TokenKind.TheVariants as K
use Rattle.rpl_parser.specs.Levels.{Level, popped, sign_level, level_by, level_after, reach_by, colon_next, too_deep}
use Rattle.rpl_parser.specs.inside.Low.{All_low, Low}
use Rattle.rpl_parser.specs.Tokens.{AllStand}

pub stands_at : (s : List ℕ) (ts : List Token) (i : ℕ) (d : Token) → AllStand s ts → i < length ts
    → IsToken s (get_or ts i d)
stands_at s ts i d h lt = h i (get_or ts i d) (slice_get-get_or ts i d lt)

popped_low : (bs : List ℕ) → All_low bs → Low (popped bs)
popped_low [] h = record { base = omega arith; level = omega arith; bases = tt }
popped_low (b ∷ bs) h = record { base = h.0; level = h.0; bases = h.1 }

sign_low : (k : Punct) (l : Level) → Low l → (sign_level k l).level ≤ 100 → Low (sign_level k l)
sign_low Bang l h le = record { base = h.base; level = le; bases = h.bases }
sign_low Greater l h le = record { base = h.base; level = le; bases = h.bases }
sign_low Less l h le = record { base = h.base; level = le; bases = h.bases }
sign_low OpenParen l h le = record { base = le; level = le; bases = (h.base, h.bases) }
sign_low OpenBrace l h le = record { base = le; level = le; bases = (h.base, h.bases) }
sign_low CloseParen l h le = popped_low l.bases h.bases
sign_low CloseBrace l h le = popped_low l.bases h.bases
sign_low Ampersand l h le = record { base = le; level = le; bases = h.bases }
sign_low Slash l h le = record { base = h.base; level = h.base; bases = h.bases }
sign_low Dot l h le = record { base = h.base; level = h.base; bases = h.bases }
sign_low Caret l h le = record { base = h.base; level = h.base; bases = h.bases }
sign_low Dollar l h le = record { base = h.base; level = h.base; bases = h.bases }
sign_low Tilde l h le = record { base = h.base; level = h.base; bases = h.bases }
sign_low _ l h le = h

settled_low : (l : Level) → Low l → Low (record l { level = l.base })
settled_low l h = record { base = h.base; level = h.base; bases = h.bases }

-- what a token reaches is at least the level after it, but for a bracket, after which the level is the base
low_by : (k : TokenKind) (s : List ℕ) (t : Token) (c : Bool) (l : Level) → Low l
    → reach_by k s t l (level_by k s t c l) ≤ 100 → Low (level_by k s t c l)
low_by K.Name s t true l h le = record { base = h.base; level = le; bases = h.bases }
low_by K.Name s t false l h le = settled_low l h
low_by K.Qualified s t c l h le = settled_low l h
low_by K.Text s t c l h le = settled_low l h
low_by K.Bracket s t c l h le = settled_low l h
low_by K.Sign s t c l h le = sign_low (punct_of s t) l h le
low_by K.Keyword s t c l h le = h
low_by K.Bounds s t c l h le = h
low_by K.Number s t c l h le = h

pub low_after : (s : List ℕ) (t : Token) (c : Bool) (l u : Level) → u ≡ level_after s t c l → Low l
    → reach_by t.kind s t l u ≤ 100 → Low u
low_after s t c l u e h le =
    subst Low (sym e) (low_by t.kind s t c l h (subst (λ v. reach_by t.kind s t l v ≤ 100) e le))

at_cons : (ts : List Token) (i : ℕ) (d : Token) → i < length ts → drop i ts ≡ get_or ts i d ∷ drop (i + 1) ts
at_cons ts i d lt = let k : suc i ≡ i + 1 = omega arith in drop-cons ts i d lt ∙ ap (λ j. get_or ts i d ∷ drop j ts) k

pub deep_on : (s : List ℕ) (l u : Level) (ts : List Token) (i : ℕ) (d : Token) → i < length ts
    → u ≡ level_after s (get_or ts i d) (colon_next s (drop (i + 1) ts)) l
    → nat_lt 100 (reach_by (get_or ts i d).kind s (get_or ts i d) l u) ≡ false
    → too_deep s u (drop (i + 1) ts) ≡ too_deep s l (drop i ts)
deep_on s l u ts i d lt f k = rw (at_cons ts i d lt, ← f, k) refl
