-- A text that is cut token by token from its front on has a cut.
use Rattle.std.proofs.Common.{◌≡◌, ℕ, ◌+◌, ◌-◌, ◌<◌, ◌≤◌, List, [], ◌∷◌, ◌++◌, length, take, drop, get_or, refl, sym}
use Rattle.std.proofs.Common.{ap, subst, ◌∙◌, arith, length-append}
use Rattle.std.specs.Prelude.{false, unwrap_or, chars, slice_index}
use Rattle.std.proofs.lemmas.List.{length-drop, drop-drop, drop_at, take_at, drop-take, get_or-take, get_or-drop}
use Rattle.rpl_lexer.specs.declared.keyword.Keyword.TheVariants as W
use Rattle.rpl_lexer.specs.declared.punct.Punct.TheVariants as U
use Rattle.rpl_lexer.specs.declared.token.Token.{Token as Lexeme}
use Rattle.rpl_lexer.specs.declared.token.TokenKind.{TokenKind}
use Rattle.rpl_lexer.specs.declared.token.TokenKind.TheVariants as K
use Rattle.rpl_lexer.specs.Bytes.{is_word, run}
use Rattle.rpl_lexer.specs.Keywords.{keyword_named}
use Rattle.rpl_lexer.specs.Signs.{punct}
use Rattle.rpl_text.specs.Numbers.{value}
use Rattle.rpl_lexer.specs.Braces.{bounds_in}
use Rattle.rpl_lexer.specs.Gaps.{gap}
use Rattle.rpl_lexer.specs.Fronts.{first_name}
use Rattle.rpl_lexer.specs.Cut.{Done, Chain, IsToken, start}
use Rattle.rpl_lexer.specs.Payloads.{span, inner, decoded}
use Rattle.rpl_lexer.specs.Said.{Payload, payload}
use Rattle.rpl_lexer.specs.Said as P
use Rattle.rpl_syntax.specs.declared.token.Token.{Token}
use Rattle.rpl_syntax.specs.declared.token.Token.TheVariants as T
use Rattle.rpl_syntax.specs.Texts.{Says, Say}
use Rattle.rpl_syntax.specs.Bounds.{least_of, most_of}
use Rattle.rpl_syntax.proofs.Placing.{Alike, All_alike}

-- what a token of these bytes says
abbrev pub payload_of : TokenKind → List ℕ → Payload
payload_of K.Name w = P.Name (chars w)
payload_of K.Qualified w = P.Qualified (chars (first_name w)) (chars (drop (run is_word w + 1) w))
payload_of K.Keyword w = P.Keyword (unwrap_or (keyword_named w) W.Rpl)
payload_of K.Text w = P.Text (decoded 0 (chars (drop 1 w)))
payload_of K.Bracket w = P.Bracket (chars w)
payload_of K.Bounds w = P.Bounds (bounds_in (drop 1 w))
payload_of K.Number w = P.Number (value 0 w)
payload_of K.Sign w = P.Sign (unwrap_or (punct (slice_index w 0)) U.OpenBrace)

-- the token that bytes are, which stand at the front
abbrev pub alone : TokenKind → List ℕ → Lexeme
alone k w = record { kind = k; start = 0; end = length w }

-- after blanks the token t stands at the front of the bytes b
pub record Cuts (b : List ℕ) (t : Token) : Type 0 where
  pub kind : TokenKind
  pub text : List ℕ
  pub rest : List ℕ
  pub front : drop (gap false b) b ≡ text ++ rest
  pub blanks : gap false b ≤ length b
  pub token : IsToken (text ++ rest) (alone kind text)
  pub says : Says 0 (payload_of kind text) t

-- the bytes b are the tokens, one after the other
abbrev pub Lexes : List ℕ → List Token → Type 0
Lexes b [] = gap false b ≡ length b
Lexes b (t ∷ ts) = (c : Cuts b t) × Lexes c.rest ts

inner_is : (s : List ℕ) (t : Lexeme) → t.start < t.end → inner s t ≡ drop 1 (span s t)
inner_is s t lt =
    let n : t.end - t.start ≡ 1 + (t.end - (t.start + 1)) = omega arith in
    ap (take (t.end - (t.start + 1))) (sym (drop-drop 1 t.start s))
    ∙ sym (drop-take 1 (t.end - (t.start + 1)) (drop t.start s)) ∙ ap (λ k. drop 1 (take k (drop t.start s))) (sym n)

index_is : (s : List ℕ) (t : Lexeme) → t.start < t.end → slice_index s t.start ≡ slice_index (span s t) 0
index_is s t lt =
    let n : t.start + 0 ≡ t.start = omega arith in
    sym (get_or-take (t.end - t.start) (drop t.start s) 0 0 (omega arith)
    ∙ (get_or-drop t.start s 0 0 ∙ ap (λ k. get_or s k 0) n))

payload_is : (k : TokenKind) (s : List ℕ) (t : Lexeme) → t.kind ≡ k → t.start < t.end
    → payload s t ≡ payload_of k (span s t)
payload_is k s t e lt = ap (λ x. P.payload_by x s t) e ∙ by k
  where
    by : (k : TokenKind) → P.payload_by k s t ≡ payload_of k (span s t)
    by K.Name = refl
    by K.Qualified = refl
    by K.Keyword = refl
    by K.Text = ap (λ x. P.Text (decoded 0 (chars x))) (inner_is s t lt)
    by K.Bracket = refl
    by K.Bounds = ap (λ x. P.Bounds (bounds_in x)) (inner_is s t lt)
    by K.Number = refl
    by K.Sign = ap (λ x. P.Sign (unwrap_or (punct x) U.OpenBrace)) (index_is s t lt)

-- what is said at another place
pub record Told (at : ℕ) (p : Payload) (t : Token) : Type 0 where
  pub token : Token
  pub says : Says at p token
  pub alike : Alike t token

told : (at : ℕ) (p : Payload) (t : Token) → Says 0 p t → Told at p t
told at (P.Name n) t h = record {
  token = T.Name n at;
  says = refl;
  alike = subst (λ x. Alike x (T.Name n at)) (sym h) (at, refl);
}
told at (P.Qualified p n) t h = record {
  token = T.Qualified p n at;
  says = refl;
  alike = subst (λ x. Alike x (T.Qualified p n at)) (sym h) (at, refl);
}
told at (P.Keyword w) t h = record {
  token = T.Keyword w;
  says = refl;
  alike = subst (λ x. Alike x (T.Keyword w)) (sym h) refl;
}
told at (P.Text s) t h = record { token = T.Text s; says = refl; alike = subst (λ x. Alike x (T.Text s)) (sym h) refl }
told at (P.Bracket s) t h = record {
  token = T.Class h.0 h.1;
  says = (h.0, h.1, h.2, refl);
  alike = subst (λ x. Alike x (T.Class h.0 h.1)) (sym h.3) refl;
}
told at (P.Bounds b) t h = record {
  token = T.Bounds (least_of b) (most_of b);
  says = (h.0, refl);
  alike = subst (λ x. Alike x (T.Bounds (least_of b) (most_of b))) (sym h.1) refl;
}
told at (P.Number n) t h = record {
  token = T.Number n;
  says = refl;
  alike = subst (λ x. Alike x (T.Number n)) (sym h) refl;
}
told at (P.Sign k) t h = record { token = T.Sign k; says = refl; alike = subst (λ x. Alike x (T.Sign k)) (sym h) refl }

say_more : (s : List ℕ) (l : Lexeme) (ls : List Lexeme) (u : Token) (us : List Token) → Says l.start (payload s l) u
    → Say s ls us → Say s (l ∷ ls) (u ∷ us)
say_more s l ls u us h k = (u, us, refl, h, k)

alike_more : (t u : Token) (ts us : List Token) → Alike t u → All_alike ts us → All_alike (t ∷ ts) (u ∷ us)
alike_more t u ts us h k = (u, us, refl, h, k)

-- the tokens of the text s after the place p, with n before them
pub record Cutting (s : List ℕ) (p n : ℕ) (ts : List Token) : Type 0 where
  pub lexemes : List Lexeme
  pub tokens : List Token
  pub chain : Chain s p n lexemes Done
  pub say : Say s lexemes tokens
  pub alike : All_alike ts tokens

pub cutting : (ts : List Token) (s b : List ℕ) (p n : ℕ) → drop p s ≡ b → p ≤ length s → n + length ts ≤ 262144
    → Lexes b ts → Cutting s p n ts
cutting [] s b p n e le few h =
    let g : gap false (drop p s) ≡ length (drop p s) = ap (gap false) e ∙ (h ∙ sym (ap length e)) in
    record { lexemes = []; tokens = []; chain = omega (arith, length-drop p s); say = refl; alike = refl }
cutting (t ∷ ts) s b p n e le few h =
    let c = h.0 in
    let g = gap false b in
    let len = length c.text in
    let l : Lexeme = record { kind = c.kind; start = p + g; end = p + g + len } in
    let some : 0 < len = c.token.forward in
    let blanks = c.blanks in
    let at : drop (p + g) s ≡ c.text ++ c.rest = sym (drop-drop g p s) ∙ (ap (drop g) e ∙ c.front) in
    let size : length (c.text ++ c.rest) ≡ len + length c.rest = length-append c.text c.rest in
    let whole : length b ≡ length s - p = sym (ap length e) ∙ length-drop p s in
    let inside : p + g + len ≤ length s = omega (arith, ap length at, length-drop (p + g) s) in
    let n-len : p + g + len - (p + g) ≡ len - 0 = omega arith in
    let n-zero : len - 0 ≡ len = omega arith in
    let begins : p + g ≡ start s p = ap (λ x. p + gap false x) (sym e) in
    let forward : p + g < p + g + len = omega arith in
    let spans : span s l ≡ c.text = ap (λ k. take k (drop (p + g) s)) (n-len ∙ n-zero)
    ∙ (ap (take len) at ∙ take_at c.text c.rest len refl) in
    let says : Told (p + g) (payload s l) t =
    told (p + g) (payload s l) t (subst (λ x. Says 0 x t) (sym (payload_is c.kind s l refl forward
    ∙ ap (payload_of c.kind) spans)) c.says) in
    let behind : drop (p + g + len) s ≡ c.rest = sym (drop-drop len (p + g) s)
    ∙ (ap (drop len) at ∙ drop_at c.text c.rest len refl) in
    let k = cutting ts s c.rest (p + g + len) (n + 1) behind inside (omega arith) h.1 in
    record {
      lexemes = l ∷ k.lexemes;
      tokens = says.token ∷ k.tokens;
      chain = (
        record {
          few = omega arith;
          begins = begins;
          token = record { forward = forward; inside = inside; stands = rw (at, n-len) c.token.stands };
        },
        k.chain,
      );
      say = say_more s l k.lexemes says.token k.tokens says.says k.say;
      alike = alike_more t says.token ts k.tokens says.alike k.alike;
    }
