-- What a token of a kind says is there to be said.
use Rattle.std.proofs.Common.{◌≡◌, ℕ, zero, suc, ◌+◌, ◌-◌, List, [], ◌∷◌, Option, Some, None, take, drop, get_or, refl}
use Rattle.std.proofs.Common.{sym, ap, ◌∙◌, arith, get_or-drop}
use Rattle.std.specs.Prelude.{true, is_some, unwrap_or, slice_index}
use Rattle.rpl_lexer.specs.declared.token.Token.{Token}
use Rattle.rpl_lexer.specs.declared.token.TokenKind.{TokenKind}
use Rattle.rpl_lexer.specs.declared.token.TokenKind.TheVariants as K
use Rattle.rpl_lexer.specs.declared.front.Stand.TheVariants.{Found}
use Rattle.rpl_lexer.specs.Keywords.{keyword_named}
use Rattle.rpl_lexer.specs.Signs.{punct}
use Rattle.rpl_lexer.specs.Cut.{IsToken}
use Rattle.rpl_lexer.specs.Forms.{Form}
use Rattle.rpl_lexer.specs.Payloads.{span, keyword_of, punct_of}
use Rattle.rpl_lexer.proofs.Longest.{longest}

-- the form of a token of a kind
token_form : (s : List ℕ) (t : Token) (k : TokenKind) → t.kind ≡ k → IsToken s t → Form k (span s t)
token_form s t k e h =
    (longest (drop t.start s) k (t.end - t.start) (h.stands ∙ ap (λ x. Found x (t.end - t.start)) e)).fits.form

some_or : {A : Type 0} (o : Option A) (d : A) → is_some o ≡ true → o ≡ Some (unwrap_or o d)
some_or None d h = absurd (cc)
some_or (Some x) d h = refl

pub keyword_told : (s : List ℕ) (t : Token) → t.kind ≡ K.Keyword → IsToken s t
    → keyword_named (span s t) ≡ Some (keyword_of s t)
keyword_told s t e h = some_or (keyword_named (span s t)) _ (token_form s t K.Keyword e h).word

first_taken : (s : List ℕ) (n b : ℕ) → take n s ≡ b ∷ [] → get_or s 0 0 ≡ b
first_taken [] zero b e = absurd (cc)
first_taken [] (suc n) b e = absurd (cc)
first_taken (c ∷ cs) zero b e = absurd (cc)
first_taken (c ∷ cs) (suc n) b e = cc

pub sign_told : (s : List ℕ) (t : Token) → t.kind ≡ K.Sign → IsToken s t
    → punct (slice_index s t.start) ≡ Some (punct_of s t)
sign_told s t e h =
    let f = token_form s t K.Sign e h in
    let n : t.start + 0 ≡ t.start = omega arith in
    let b : get_or s t.start 0 ≡ f.byte = sym (ap (λ x. get_or s x 0) n) ∙ sym (get_or-drop t.start s 0 0)
    ∙ first_taken (drop t.start s) (t.end - t.start) f.byte f.is in
    some_or (punct (slice_index s t.start)) _ (ap (λ x. is_some (punct x)) b ∙ f.sign)
