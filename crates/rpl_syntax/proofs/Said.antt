-- What the tokens of a text say is one thing, and can be written.
use Rattle.std.proofs.Common.{◌≡◌, ℕ, zero, suc, ◌+◌, ◌-◌, List, [], ◌∷◌, Option, Some, None, drop, refl, sym, ap}
use Rattle.std.proofs.Common.{subst, ◌∙◌, arith}
use Rattle.std.specs.Prelude.{Bool, true, false, ◌&&◌, nat_eq, nat_le, if◌then◌else◌, chars, IsUtf8}
use Rattle.std.specs.Str.{all_scalars}
use Rattle.std.proofs.lemmas.Bool.{and_parts, and_from}
use Rattle.std.proofs.lemmas.Bool.Decides.{nat_tests}
use Rattle.std.proofs.lemmas.Str.{scalars-chars, chars-IsAscii, IsUtf8-between}
use lib.Utf8.{scalar}
use Rattle.rpl_text.specs.Characters.{is_char}
use Rattle.rpl_text.specs.Escapes.{numbered, is_kept, hex, escape}
use Rattle.rpl_classes.specs.Sets.{IsNormal}
use Rattle.rpl_lexer.specs.declared.token.Token.{Token as Lexeme}
use Rattle.rpl_lexer.specs.declared.token.TokenKind.{TokenKind}
use Rattle.rpl_lexer.specs.declared.token.TokenKind.TheVariants as K
use Rattle.rpl_lexer.specs.Bytes.{is_word, run}
use Rattle.rpl_lexer.specs.Cut.{Done, Chain, IsToken}
use Rattle.rpl_lexer.specs.Forms.{Form, IsName, IsPair}
use Rattle.rpl_lexer.specs.Fronts.{first_name}
use Rattle.rpl_lexer.specs.Payloads.{span, inner, unescaped, decoded}
use Rattle.rpl_lexer.specs.Said.{Payload, payload}
use Rattle.rpl_lexer.specs.Said as P
use Rattle.rpl_lexer.proofs.Cuts.{one_cut}
use Rattle.rpl_lexer.proofs.Decoding.{decoded_cons, decoded_nil, decoded_skip}
use Rattle.rpl_lexer.proofs.Edges.{token_cuttable}
use Rattle.rpl_lexer.proofs.Longest.{longest}
use Rattle.rpl_syntax.specs.declared.token.Token.{Token}
use Rattle.rpl_syntax.specs.declared.token.Token.TheVariants as T
use Rattle.rpl_syntax.specs.Expression.{Expr}
use Rattle.rpl_syntax.specs.Grammar.{Reads}
use Rattle.rpl_syntax.specs.Texts.{Allowed, Says, Say, IsReadAs}
use Rattle.rpl_syntax.proofs.Fronts.{name_ascii, halves}
use Rattle.rpl_syntax.proofs.Sets.{same_pair, bracket_normal}
use Rattle.rpl_syntax.proofs.Unique.{unique}

-- ---- one reading

says_one : (at : ℕ) (p : Payload) (t u : Token) → Says at p t → Says at p u → t ≡ u
says_one at (P.Name n) t u h k = h ∙ sym k
says_one at (P.Qualified p n) t u h k = h ∙ sym k
says_one at (P.Keyword w) t u h k = h ∙ sym k
says_one at (P.Text s) t u h k = h ∙ sym k
says_one at (P.Bracket s) t u h k =
    let e = same_pair (h.0, h.1) (k.0, k.1) (sym h.2 ∙ k.2) in
    h.3 ∙ (ap (λ x. T.Class x h.1) e.0 ∙ (ap (T.Class k.0) e.1 ∙ sym k.3))
says_one at (P.Bounds b) t u h k = h.1 ∙ sym k.1
says_one at (P.Number n) t u h k = h ∙ sym k
says_one at (P.Sign s) t u h k = h ∙ sym k

say_one : (s : List ℕ) (ls : List Lexeme) (ts us : List Token) → Say s ls ts → Say s ls us → ts ≡ us
say_one s [] ts us h k = h ∙ sym k
say_one s (l ∷ ls) ts us h k =
    h.2 ∙ (ap (λ x. x ∷ h.1) (says_one l.start (payload s l) h.0 k.0 h.3 k.3)
    ∙ (ap (λ x. k.0 ∷ x) (say_one s ls h.1 k.1 h.4 k.4) ∙ sym k.2))

pub one_text_reading : (s : List ℕ) (x y : Expr) → IsReadAs s x → IsReadAs s y → x ≡ y
one_text_reading s x y h k =
    let c = one_cut s 0 0 h.lexemes k.lexemes Done Done h.cut k.cut in
    let t = say_one s k.lexemes h.tokens k.tokens (subst (λ ls. Say s ls h.tokens) c.0 h.say) k.say in
    unique k.tokens x y (subst (λ ts. Reads ts x) t h.reads) k.reads

-- ---- what is said can be written

-- the token can be written
abbrev pub Fit_token : Token → Type 0
Fit_token (T.Name n at) = IsName n false
Fit_token (T.Qualified p n at) = IsName p false × IsName n false
Fit_token (T.Text s) = all_scalars s ≡ true
Fit_token (T.Class ranges negated) = IsNormal ranges
Fit_token (T.Bounds l m) = Allowed l m
Fit_token _ = Unit {0}

-- each of the tokens can be written
abbrev pub All_fit : List Token → Type 0
All_fit [] = Unit {0}
All_fit (t ∷ ts) = Fit_token t × All_fit ts

-- ---- characters of texts

char_scalar : (c : ℕ) → is_char c ≡ true → scalar c ≡ true
char_scalar c h = grind (arith, nat_tests)

kept_scalar : (c : ℕ) → is_kept c ≡ true → scalar c ≡ true
kept_scalar c h = grind (arith, nat_tests)

-- a number that an escape may give
abbrev Given : Option (ℕ × ℕ) → Type 0
Given None = Unit {0}
Given (Some p) = scalar p.0 ≡ true

if_given : (b : Bool) (x y : Option (ℕ × ℕ)) → (b ≡ true → Given x) → Given y → Given (if b then x else y)
if_given true x y h k = h refl
if_given false x y h k = k

numbered_given : (n last : ℕ) (o : Option ℕ) → Given (numbered n last o)
numbered_given n last None = tt
numbered_given n last (Some v) =
    if_given (is_char v && nat_le v last) (Some (v, 1 + n)) None
    (λ e. char_scalar v (and_parts (is_char v) (nat_le v last) e).0) tt

escape_given : (cs : List ℕ) → Given (escape cs)
unfolding escape
escape_given [] = tt
escape_given (c ∷ cs) =
    if_given (is_kept c) (Some (c, 1)) _ (kept_scalar c)
    (if_given (nat_eq c 110) (Some (10, 1)) _ (λ e. refl)
    (if_given (nat_eq c 114) (Some (13, 1)) _ (λ e. refl)
    (if_given (nat_eq c 116) (Some (9, 1)) _ (λ e. refl)
    (if_given (nat_eq c 120) (numbered 2 0x7f (hex 2 0 cs)) _ (λ e. numbered_given 2 0x7f (hex 2 0 cs))
    (if_given (nat_eq c 117) (numbered 4 0x10_ffff (hex 4 0 cs)) _ (λ e. numbered_given 4 0x10_ffff (hex 4 0 cs))
    (if_given (nat_eq c 85) (numbered 8 0x10_ffff (hex 8 0 cs)) None (λ e. numbered_given 8 0x10_ffff (hex 8 0 cs))
    tt))))))

unescaped_scalars : (o : Option (ℕ × ℕ)) (rest : ℕ → List ℕ) → Given o → ((k : ℕ) → all_scalars (rest k) ≡ true)
    → all_scalars (unescaped o rest) ≡ true
unescaped_scalars None rest g h = refl
unescaped_scalars (Some p) rest g h = and_from (scalar p.0) (all_scalars (rest p.1)) g (h p.1)

if_scalars : (b : Bool) (x y : List ℕ) → all_scalars x ≡ true → all_scalars y ≡ true
    → all_scalars (if b then x else y) ≡ true
if_scalars true x y h k = h
if_scalars false x y h k = k

decoded_scalars : (k : ℕ) (cs : List ℕ) → all_scalars cs ≡ true → all_scalars (decoded k cs) ≡ true
decoded_scalars k [] h = ap all_scalars (decoded_nil k)
decoded_scalars (suc k) (c ∷ cs) h = ap all_scalars (decoded_skip k c cs)
    ∙ decoded_scalars k cs (and_parts (scalar c) (all_scalars cs) h).1
decoded_scalars zero (c ∷ cs) h =
    let p = and_parts (scalar c) (all_scalars cs) h in
    let e = unescaped (escape cs) (λ k. decoded k cs) in
    let r = c ∷ decoded 0 cs in
    ap all_scalars (decoded_cons c cs)
    ∙ if_scalars (nat_eq c 34) [] (if nat_eq c 92 then e else r) refl
    (if_scalars (nat_eq c 92) e r (unescaped_scalars (escape cs) (λ k. decoded k cs) (escape_given cs)
    (λ k. decoded_scalars k cs p.1))
    (and_from (scalar c) (all_scalars (decoded 0 cs)) p.0 (decoded_scalars 0 cs p.1)))

-- ---- tokens

-- the bytes of a token have the form of its kind
pub form_of : (s : List ℕ) (l : Lexeme) → IsToken s l → Form l.kind (span s l)
form_of s l h = (longest (drop l.start s) l.kind (l.end - l.start) h.stands).fits.form

name_fit : (w : List ℕ) → IsName w false → IsName (chars w) false
name_fit w h = subst (λ x. IsName x false) (sym (chars-IsAscii w (name_ascii w false h))) h

pair_fit : (w : List ℕ) → IsPair w → IsName (chars (first_name w)) false
    × IsName (chars (drop (run is_word w + 1) w)) false
pair_fit w h =
    let k = halves h.prefix h.name h.before h.behind in (
      name_fit (first_name w) (subst (λ x. IsName x false) (sym (ap first_name h.is ∙ k.prefix)) h.before),
      name_fit (drop (run is_word w + 1) w) (subst (λ x. IsName x false) (sym (ap (λ x. drop (run is_word x + 1) x) h.is
          ∙ k.name)) h.behind),
    )

text_fit : (s : List ℕ) (l : Lexeme) → IsUtf8 s → IsToken s l → all_scalars (decoded 0 (chars (inner s l))) ≡ true
text_fit s l u h =
    let c = token_cuttable s l u h in
    let lt = h.forward in
    decoded_scalars 0 (chars (inner s l))
    (scalars-chars (inner s l) (IsUtf8-between s (l.start + 1) l.end u (omega arith) c.inner c.end))

fit_as : (t u : Token) → t ≡ u → Fit_token u → Fit_token t
fit_as t u e h = subst Fit_token (sym e) h

-- what a token of a UTF-8 text says can be written
pub token_fit : (k : TokenKind) (s : List ℕ) (l : Lexeme) (t : Token) → IsUtf8 s → IsToken s l → Form k (span s l)
    → Says l.start (P.payload_by k s l) t → Fit_token t
token_fit K.Name s l t u h f e = fit_as t _ e (name_fit (span s l) f)
token_fit K.Qualified s l t u h f e = fit_as t _ e (pair_fit (span s l) f)
token_fit K.Keyword s l t u h f e = fit_as t _ e tt
token_fit K.Text s l t u h f e = fit_as t _ e (text_fit s l u h)
token_fit K.Bracket s l t u h f e = fit_as t _ e.3 (bracket_normal (chars (span s l)) e.0 e.1 e.2)
token_fit K.Bounds s l t u h f e = fit_as t _ e.1 e.0
token_fit K.Number s l t u h f e = fit_as t _ e tt
token_fit K.Sign s l t u h f e = fit_as t _ e tt

pub tokens_fit : (s : List ℕ) (p n : ℕ) (ls : List Lexeme) (ts : List Token) → IsUtf8 s → Chain s p n ls Done
    → Say s ls ts → All_fit ts
tokens_fit s p n [] ts u c h = subst All_fit (sym h) tt
tokens_fit s p n (l ∷ ls) ts u c h =
    let t = c.0.token in
    subst All_fit (sym h.2) (
      token_fit l.kind s l h.0 u t (form_of s l t) h.3,
      tokens_fit s l.end (n + 1) ls h.1 u c.1 h.4,
    )
