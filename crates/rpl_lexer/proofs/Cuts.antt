-- How a text is cut, token by token, and that there is one such cut.
use Rattle.std.proofs.Common.{◌≡◌, ℕ, zero, suc, ◌+◌, ◌-◌, ◌<◌, ◌≤◌, List, [], ◌∷◌, ◌++◌, length, drop, refl, sym, ap}
use Rattle.std.proofs.Common.{◌∙◌, subst, append_assoc, arith}
use Rattle.std.specs.Prelude.{false, Some, slice_get}
use Rattle.std.proofs.lemmas.List.{append-nil, length-drop}
use Rattle.rpl_lexer.specs.declared.token.Token.{Token}
use Rattle.rpl_lexer.specs.declared.token.TokenKind.{TokenKind}
use Rattle.rpl_lexer.specs.declared.fault.LexKind.{LexKind}
use Rattle.rpl_lexer.specs.declared.fault.LexKind.TheVariants.{TooManyTokens}
use Rattle.rpl_lexer.specs.declared.front.Stand.{Stand}
use Rattle.rpl_lexer.specs.declared.front.Stand.TheVariants.{Found, Fault}
use Rattle.rpl_lexer.specs.Gaps.{gap}
use Rattle.rpl_lexer.specs.Fronts.{stands}
use Rattle.rpl_lexer.specs.Cut.{End, Done, Fails, start, IsFault, IsToken, Next, Chain, IsCut}

pub start_is : (s bs : List ℕ) (at g : ℕ) (r : List ℕ) → bs ≡ s → r ≡ drop at bs → g ≡ gap false r → at + g ≡ start s at
start_is s bs at g r e f h = ap (λ x. at + x) (h ∙ ap (gap false) (f ∙ ap (drop at) e))

start_inside : (s bs : List ℕ) (at g : ℕ) (r : List ℕ) → bs ≡ s → r ≡ drop at bs → g ≤ length r → at ≤ length s
    → at + g ≤ length s
start_inside s bs at g r e f le k = omega (arith, ap length f, ap length e, length-drop at bs)

-- where the next token starts: the one place, and within the text
pub starts : (s bs : List ℕ) (at g : ℕ) (r : List ℕ) → bs ≡ s → r ≡ drop at bs → g ≡ gap false r → g ≤ length r
    → at ≤ length s → (at + g ≡ start s at) × (at + g ≤ length s)
starts s bs at g r e f h le k = (start_is s bs at g r e f h, start_inside s bs at g r e f le k)

pub stands_is : (s bs : List ℕ) (st : ℕ) (r : List ℕ) (x y : Stand) → bs ≡ s → r ≡ drop st bs → x ≡ stands r → x ≡ y
    → stands (drop st s) ≡ y
stands_is s bs st r x y e f h k = sym (h ∙ ap stands (f ∙ ap (drop st) e)) ∙ k

pub fault_here : (s : List ℕ) (at n st : ℕ) (k : LexKind) (skip : ℕ) → st ≡ start s at → st < length s
    → stands (drop st s) ≡ Fault k skip → Chain s at n [] (Fails (st + skip) k)
fault_here s at n st k skip e lt h = (
  subst (λ x. x < length s) e lt,
  subst (λ q. IsFault n (start s at) q (st + skip) k) (sym (subst (λ x. stands (drop x s) ≡ Fault k skip) e h))
      (ap (λ x. x + skip) e, refl),
)

pub many_here : (s : List ℕ) (at n st : ℕ) (k : TokenKind) (len : ℕ) → st ≡ start s at → st < length s → n ≡ 262144
    → stands (drop st s) ≡ Found k len → Chain s at n [] (Fails st TooManyTokens)
many_here s at n st k len e lt m h = (
  subst (λ x. x < length s) e lt,
  subst (λ q. IsFault n (start s at) q st TooManyTokens) (sym (subst (λ x. stands (drop x s) ≡ Found k len) e h))
      (m, e, refl),
)

pub whole : (s : List ℕ) (ts : List Token) (e : End) → Chain s 0 0 (ts ++ []) e → Chain s 0 0 ts e
whole s ts e h = subst (λ x. Chain s 0 0 x e) (append-nil ts) h

pub one_more : (s : List ℕ) (t : Token) (us ts : List Token) (e : End) → Chain s 0 0 (us ++ t ∷ ts) e
    → Chain s 0 0 ((us ++ t ∷ []) ++ ts) e
one_more s t us ts e h = subst (λ x. Chain s 0 0 x e) (sym (append_assoc us (t ∷ []) ts)) h

-- ---- one cut

token_is : (k l : TokenKind) (m n : ℕ) → Found k m ≡ Found l n → (k ≡ l) × (m ≡ n)
token_is k l m n e = (cc e, cc e)

lexeme : (t u : Token) → t.kind ≡ u.kind → t.start ≡ u.start → t.end ≡ u.end → t ≡ u
lexeme t u e f g = ap (λ k. record t { kind = k }) e
    ∙ (ap (λ x. record u { start = x; end = t.end }) f ∙ ap (λ x. record u { end = x }) g)

next_one : (s : List ℕ) (pos n : ℕ) (t u : Token) → Next s pos n t → Next s pos n u → t ≡ u
next_one s pos n t u h k =
    let b = h.begins ∙ sym k.begins in
    let e = sym h.token.stands ∙ (ap (λ x. stands (drop x s)) b ∙ k.token.stands) in
    let p = token_is _ _ _ _ e in
    lexeme t u p.0 b (omega (arith, p.1, b, h.token.forward, k.token.forward))

no_end : (s : List ℕ) (pos n : ℕ) (t : Token) → Next s pos n t → start s pos ≡ length s → ⊥
no_end s pos n t h e = omega (arith, h.begins, h.token.forward, h.token.inside)

no_fault : (n i : ℕ) (q : Stand) (k : TokenKind) (len at : ℕ) (f : LexKind) → n < 262144 → q ≡ Found k len
    → IsFault n i q at f → ⊥
no_fault n i (Found l m) k len at f lt e h = omega (arith, h.0)
no_fault n i (Fault l m) k len at f lt e h = absurd (cc e)

fault_one : (n i : ℕ) (q : Stand) (a b : ℕ) (f g : LexKind) → IsFault n i q a f → IsFault n i q b g
    → Fails a f ≡ Fails b g
fault_one n i (Found l m) a b f g h k = cc (h.1, k.1, h.2, k.2)
fault_one n i (Fault l m) a b f g h k = cc (h.0, k.0, h.1, k.1)

next_no_fault : (s : List ℕ) (pos n : ℕ) (t : Token) (at : ℕ) (f : LexKind) → Next s pos n t
    → IsFault n (start s pos) (stands (drop (start s pos) s)) at f → ⊥
next_no_fault s pos n t at f h k =
    no_fault n (start s pos) (stands (drop (start s pos) s)) t.kind (t.end - t.start) at f h.few
    (subst (λ x. stands (drop x s) ≡ Found t.kind (t.end - t.start)) h.begins h.token.stands) k

-- from a place on, a text consists of tokens in one way alone, and ends in one way alone
pub one_cut : (s : List ℕ) (pos n : ℕ) (ts us : List Token) (e f : End) → Chain s pos n ts e → Chain s pos n us f
    → (ts ≡ us) × (e ≡ f)
one_cut s pos n [] [] Done Done h k = (refl, refl)
one_cut s pos n [] [] Done (Fails b g) h k = absurd (omega (arith, h, k.0))
one_cut s pos n [] [] (Fails a f) Done h k = absurd (omega (arith, k, h.0))
one_cut s pos n [] [] (Fails a f) (Fails b g) h k =
    (refl, fault_one n (start s pos) (stands (drop (start s pos) s)) a b f g h.1 k.1)
one_cut s pos n [] (u ∷ us) Done f h k = absurd (no_end s pos n u k.0 h)
one_cut s pos n [] (u ∷ us) (Fails a g) f h k = absurd (next_no_fault s pos n u a g k.0 h.1)
one_cut s pos n (t ∷ ts) [] e Done h k = absurd (no_end s pos n t h.0 k)
one_cut s pos n (t ∷ ts) [] e (Fails b g) h k = absurd (next_no_fault s pos n t b g h.0 k.1)
one_cut s pos n (t ∷ ts) (u ∷ us) e f h k =
    let q = next_one s pos n t u h.0 k.0 in
    let r = one_cut s t.end (n + 1) ts us e f h.1 (subst (λ x. Chain s x.end (n + 1) us f) (sym q) k.1) in
    (ap (λ x. x ∷ ts) q ∙ ap (λ xs. u ∷ xs) r.0, r.1)

pub chain_stands : (s : List ℕ) (pos n : ℕ) (ts : List Token) (e : End) (i : ℕ) (t : Token) → Chain s pos n ts e
    → slice_get ts i ≡ Some t → IsToken s t
chain_stands s pos n [] e i t h g = absurd (cc)
chain_stands s pos n (u ∷ us) e zero t h g = let q : u ≡ t = cc in subst (IsToken s) q h.0.token
chain_stands s pos n (u ∷ us) e (suc i) t h g = chain_stands s u.end (n + 1) us e i t h.1 g

-- a token of a cut stands where it says
pub tokens_stand : (s : List ℕ) (ts : List Token) (i : ℕ) (t : Token) → IsCut s ts → slice_get ts i ≡ Some t
    → IsToken s t
tokens_stand s ts i t h g = chain_stands s 0 0 ts Done i t h g
