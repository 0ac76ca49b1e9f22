-- Pieces are told apart by the roles of their tokens.
use Rattle.std.proofs.Common.{◌≡◌, ℕ, suc, ◌+◌, ◌<◌, ◌≤◌, List, [], ◌∷◌, length, get_or, drop, ◌⊎◌, inl, inr, refl, sym}
use Rattle.std.proofs.Common.{ap, ◌∙◌, arith}
use Rattle.std.proofs.Math.Seq.{drop-cons}
use Rattle.std.proofs.Math.ListN.{drop_of_length-le}
use Rattle.std.specs.Prelude.{Bool, true, false, not, Result, Ok, Err, if◌then◌else◌, chars}
use Rattle.regex_class.specs.Ranges.{Range}
use Rattle.rpl_classes.specs.Brackets.{bracket_of}
use Rattle.rpl_classes.specs.declared.fault.SetFault.{SetFault}
use Rattle.rpl_lexer.specs.Payloads.{span}
use Rattle.rpl_lexer.specs.declared.keyword.Keyword.TheVariants as W
use Rattle.rpl_lexer.specs.declared.punct.Punct.{Punct}
use Rattle.rpl_lexer.specs.declared.punct.Punct.TheVariants as P
use Rattle.rpl_lexer.specs.declared.token.Token.{Token as Lexeme}
use Rattle.rpl_lexer.specs.declared.token.TokenKind.{TokenKind}
use Rattle.rpl_lexer.specs.declared.token.TokenKind.TheVariants as K
use Rattle.rpl_syntax.specs.declared.token.Token.{Token}
use Rattle.rpl_syntax.specs.declared.token.Token.TheVariants as T
use Rattle.rpl_parser.specs.Pieces.{is_local, is_local_or_alias, begins_piece, front, closes_later}
use Rattle.rpl_parser.specs.Tokens.{class_token, token_by, tokens_of}
use Rattle.rpl_parser.specs.inside.Roles.{sign_role, role_of, next_role, leads, is_end, begins_by}
use Rattle.rpl_parser.specs.inside.Roles as S
use Rattle.rpl_parser.specs.declared.piece.Role.{Role}
use Rattle.rpl_parser.specs.declared.piece.Role.TheVariants as R

-- whatever a bracket spells
class_role : (r : Result (List Range × Bool) SetFault) → R.Other ≡ role_of (class_token r)
class_role (Ok b) = refl
class_role (Err e) = refl

sign_not_local : (k : Punct) → S.is_local (sign_role k) ≡ false
sign_not_local P.Tilde = refl
sign_not_local P.Equals = refl
sign_not_local _ = refl

sign_leads_not : (k : Punct) → leads (sign_role k) ≡ false
sign_leads_not P.Tilde = refl
sign_leads_not P.Equals = refl
sign_leads_not _ = refl

sign_no_end : (k : Punct) → is_end (sign_role k) ≡ false
sign_no_end P.Tilde = refl
sign_no_end P.Equals = refl
sign_no_end _ = refl

-- what is neither a keyword, nor a name, nor a sign
pub other_role : (k : TokenKind) (s : List ℕ) (t : Lexeme) → (k ≡ K.Qualified)
    ⊎ ((k ≡ K.Text) ⊎ ((k ≡ K.Bracket) ⊎ ((k ≡ K.Bounds) ⊎ (k ≡ K.Number)))) → R.Other ≡ role_of (token_by k s t)
other_role k s t (inl e) = ap (λ j. role_of (token_by j s t)) (sym e)
other_role k s t (inr (inl e)) = ap (λ j. role_of (token_by j s t)) (sym e)
other_role k s t (inr (inr (inl e))) = class_role (bracket_of (chars (span s t)))
    ∙ ap (λ j. role_of (token_by j s t)) (sym e)
other_role k s t (inr (inr (inr (inl e)))) = ap (λ j. role_of (token_by j s t)) (sym e)
other_role k s t (inr (inr (inr (inr e)))) = ap (λ j. role_of (token_by j s t)) (sym e)

local_role : (b : Token) → S.is_local (role_of b) ≡ is_local b
local_role (T.Keyword W.Local) = refl
local_role (T.Sign k) = sign_not_local k
local_role _ = refl

leads_role : (b : Token) → leads (role_of b) ≡ is_local_or_alias b
leads_role (T.Keyword W.Local) = refl
leads_role (T.Keyword W.Alias) = refl
leads_role (T.Sign k) = sign_leads_not k
leads_role _ = refl

-- where a piece begins
pub begins_role : (b t : Token) (r : List Token) → begins_by (role_of b) (role_of t) (next_role r)
    ≡ begins_piece b (t ∷ r)
begins_role b (T.Keyword W.Alias) r = ap not (local_role b)
begins_role b (T.Keyword _) r = refl
begins_role b (T.Name n at) [] = refl
begins_role b (T.Name n at) (T.Sign P.Equals ∷ r) = ap not (leads_role b)
begins_role b (T.Name n at) (_ ∷ r) = refl
begins_role b (T.Sign P.Tilde) [] = refl
begins_role b (T.Sign P.Tilde) (T.Sign P.Equals ∷ r) = ap not (leads_role b)
begins_role b (T.Sign P.Tilde) (_ ∷ r) = refl
begins_role b _ r = refl

-- where a block is closed
pub end_here : (t : Token) (r : List Token) → is_end (role_of t) ≡ true → closes_later (t ∷ r) ≡ true
end_here (T.Keyword W.End) r h = refl
end_here (T.Sign k) r h = let e = sign_no_end k in absurd cc
end_here _ r h = absurd cc

pub end_on : (t : Token) (r : List Token) → is_end (role_of t) ≡ false → closes_later (t ∷ r) ≡ closes_later r
end_on (T.Keyword W.End) r h = absurd cc
end_on _ r h = refl

-- ---- lists of tokens

at_cons : (ts : List Lexeme) (i : ℕ) (d : Lexeme) → i < length ts → drop i ts ≡ get_or ts i d ∷ drop (i + 1) ts
at_cons ts i d lt = let k : suc i ≡ i + 1 = omega arith in drop-cons ts i d lt ∙ ap (λ j. get_or ts i d ∷ drop j ts) k

none : Lexeme
none = record { kind = K.Name; start = 0; end = 0 }

-- the tokens from a number on are one and those after it
cut : (s : List ℕ) (ts : List Lexeme) (i : ℕ) → i < length ts → (t : Token)
    × (tokens_of s (drop i ts) ≡ t ∷ tokens_of s (drop (i + 1) ts))
cut s ts i lt = let t = get_or ts i none in (token_by t.kind s t, ap (tokens_of s) (at_cons ts i none lt))

past_all : (s : List ℕ) (ts : List Lexeme) (i : ℕ) → length ts ≤ i → tokens_of s (drop i ts) ≡ []
past_all s ts i le = ap (tokens_of s) (drop_of_length-le ts le)

-- some token of a role
abbrev pub sample : Role → Token
sample (R.Word w) = T.Keyword w
sample R.Name = T.Name [] 0
sample R.Tilde = T.Sign P.Tilde
sample R.Equals = T.Sign P.Equals
sample R.Other = T.Number 0

sampled : (r : Role) → role_of (sample r) ≡ r
sampled (R.Word w) = refl
sampled R.Name = refl
sampled R.Tilde = refl
sampled R.Equals = refl
sampled R.Other = refl

-- of the token before, its role alone counts
front_same : (a b : Token) (q : List Token) → role_of a ≡ role_of b → front a q ≡ front b q
front_same a b [] e = refl
front_same a b (t ∷ r) e =
    ap (λ x. if x then 0 else suc (front t r)) (sym (begins_role a t r)
    ∙ (ap (λ x. begins_by x (role_of t) (next_role r)) e ∙ begins_role b t r))

pub front_begun : (r : Role) (b : Token) (q : List Token) → r ≡ role_of b → front (sample r) q ≡ front b q
front_begun r b q e = front_same (sample r) b q (sampled r ∙ e)

front_cut : (b : Token) (q : List Token) (t : Token) (r : List Token) → q ≡ t ∷ r
    → front b q ≡ (if begins_by (role_of b) (next_role q) (next_role r) then 0 else suc (front t r))
front_cut b q t r e = ap (front b) e
    ∙ (ap (λ x. if x then 0 else suc (front t r)) (sym (begins_role b t r)
    ∙ ap (λ x. begins_by (role_of b) x (next_role r)) (ap next_role (sym e))))

-- the next token begins a piece, or it doesn't
module _ (s : List ℕ) (ts : List Lexeme) (i : ℕ) (lt : i < length ts) (before next behind : Role) (e :
    next ≡ next_role (tokens_of s (drop i ts))) (f : behind ≡ next_role (tokens_of s (drop (i + 1) ts))) where
  here : front (sample before) (tokens_of s (drop i ts)) ≡ (if begins_by before next behind then 0
      else suc (front (cut s ts i lt).0 (tokens_of s (drop (i + 1) ts))))
  here =
      let c = cut s ts i lt in
      let g = front_cut (sample before) (tokens_of s (drop i ts)) c.0 (tokens_of s (drop (i + 1) ts)) c.1 in
      g ∙ cc_roles c.0
    where
      cc_roles : (t : Token)
          → (if begins_by (role_of (sample before)) (next_role (tokens_of s (drop i ts)))
          (next_role (tokens_of s (drop (i + 1) ts))) then 0 else suc (front t (tokens_of s (drop (i + 1) ts))))
          ≡ (if begins_by before next behind then 0 else suc (front t (tokens_of s (drop (i + 1) ts))))
      cc_roles t = rw (sampled before, ← e, ← f) refl

  pub front_here : begins_by before next behind ≡ true → front (sample before) (tokens_of s (drop i ts)) ≡ 0
  front_here h = here ∙ ap (λ b. if b then 0 else suc (front (cut s ts i lt).0 (tokens_of s (drop (i + 1) ts)))) h

  pub front_on : begins_by before next behind ≡ false → i + 1 + front (sample next) (tokens_of s (drop (i + 1) ts))
      ≡ i + front (sample before) (tokens_of s (drop i ts))
  front_on h =
      let c = cut s ts i lt in
      let a = here ∙ ap (λ b. if b then 0 else suc (front c.0 (tokens_of s (drop (i + 1) ts)))) h in
      let b = front_begun next c.0 (tokens_of s (drop (i + 1) ts)) (e ∙ ap next_role c.1) in
      omega (arith, a, b)

pub front_end : (s : List ℕ) (ts : List Lexeme) (i : ℕ) (b : Token) → length ts ≤ i
    → front b (tokens_of s (drop i ts)) ≡ 0
front_end s ts i b le = ap (front b) (past_all s ts i le)

-- an `end`, or another token
pub closes_here : (s : List ℕ) (ts : List Lexeme) (i : ℕ) (r : Role) → i < length ts
    → r ≡ next_role (tokens_of s (drop i ts)) → is_end r ≡ true → closes_later (tokens_of s (drop i ts)) ≡ true
closes_here s ts i r lt e h =
    let c = cut s ts i lt in
    ap closes_later c.1 ∙ end_here c.0 (tokens_of s (drop (i + 1) ts)) (ap is_end (sym (e ∙ ap next_role c.1)) ∙ h)

pub closes_on : (s : List ℕ) (ts : List Lexeme) (i : ℕ) (r : Role) → i < length ts
    → r ≡ next_role (tokens_of s (drop i ts)) → is_end r ≡ false → closes_later (tokens_of s (drop (i + 1) ts))
    ≡ closes_later (tokens_of s (drop i ts))
closes_on s ts i r lt e h =
    let c = cut s ts i lt in
    sym (ap closes_later c.1 ∙ end_on c.0 (tokens_of s (drop (i + 1) ts)) (ap is_end (sym (e ∙ ap next_role c.1)) ∙ h))

pub closes_end : (s : List ℕ) (ts : List Lexeme) (i : ℕ) → length ts ≤ i
    → closes_later (tokens_of s (drop i ts)) ≡ false
closes_end s ts i le = ap closes_later (past_all s ts i le)
