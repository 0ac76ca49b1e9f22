-- Reading one item or part after the other, as a loop does.
use Rattle.std.proofs.Common.{◌≡◌, ℕ, suc, ◌+◌, ◌-◌, ◌<◌, List, [], ◌∷◌, ◌++◌, Option, Some, None, refl, sym, ap, ◌∙◌}
use Rattle.std.proofs.Common.{arith}
use Rattle.std.specs.Prelude.{Bool, true, false}
use Rattle.rpl_text.specs.Options.{◌>>=◌}
use Rattle.rpl_syntax.specs.Expression as M
use Rattle.rpl_syntax.specs.declared.expr.Expr.{Expr}
use Rattle.rpl_lexer.specs.declared.punct.Punct.TheVariants.{Slash, Ampersand}
use Rattle.rpl_syntax.specs.declared.token.Token.{Token}
use Rattle.rpl_syntax.specs.declared.token.Token.TheVariants as T
use Rattle.rpl_syntax.specs.View.{expr_of, exprs_all}
use Rattle.rpl_syntax.specs.Reading.{begins, joins, items_of, parts_of, read_item, read_exp, seq_of}

abbrev pub ahead : List Expr → M.Exprs → M.Exprs
ahead [] xs = xs
ahead (p ∷ ps) xs = M.Cons (expr_of p) (ahead ps xs)

abbrev pub put : List Expr → M.Exprs × List Token → Option (M.Exprs × List Token)
put front x = Some (ahead front x.0, x.1)

-- what was read before, and what is still read
abbrev pub with_front : List Expr → Option (M.Exprs × List Token) → Option (M.Exprs × List Token)
with_front front o = o >>= put front

ahead_one : (front : List Expr) (p : Expr) (xs : M.Exprs)
    → ahead front (M.Cons (expr_of p) xs) ≡ ahead (front ++ p ∷ []) xs
ahead_one [] p xs = refl
ahead_one (q ∷ front) p xs = ap (M.Cons (expr_of q)) (ahead_one front p xs)

ahead_last : (front : List Expr) (p : Expr) → ahead front (M.one (expr_of p)) ≡ exprs_all (front ++ p ∷ [])
ahead_last [] p = refl
ahead_last (q ∷ front) p = ap (M.Cons (expr_of q)) (ahead_last front p)

abbrev cons : M.Expr → M.Exprs × List Token → Option (M.Exprs × List Token)
cons x ps = Some (M.Cons x ps.0, ps.1)

moved : (front : List Expr) (p : Expr) (o : Option (M.Exprs × List Token))
    → with_front front (o >>= cons (expr_of p)) ≡ with_front (front ++ p ∷ []) o
moved front p None = refl
moved front p (Some x) = ap (λ xs. Some (xs, x.1)) (ahead_one front p x.0)

pub seq_step : (front : List Expr) (item : List Token → Option (M.Expr × List Token)) (n m : ℕ) (s : List Token) (p :
    Expr) (r : List Token) → n ≡ suc m → item s ≡ Some (expr_of p, r) → begins r ≡ true
    → with_front front (items_of n item s) ≡ with_front (front ++ p ∷ []) (items_of m item r)
seq_step front item n m s p r e h b = rw (e, h, b) (moved front p (items_of m item r))

pub seq_last : (front : List Expr) (item : List Token → Option (M.Expr × List Token)) (n m : ℕ) (s : List Token) (p :
    Expr) (r : List Token) → n ≡ suc m → item s ≡ Some (expr_of p, r) → begins r ≡ false
    → with_front front (items_of n item s) ≡ Some (exprs_all (front ++ p ∷ []), r)
seq_last front item n m s p r e h b = rw (e, h, b) (ap (λ xs. Some (xs, r)) (ahead_last front p))

module _ (raw : Bool) (seq exp : List Token → Option (M.Exprs × List Token)) where
  parts_step : (front : List Expr) (n m : ℕ) (xs : M.Exprs) (s : List Token) (p : Expr) (ys : M.Exprs) (r : List Token)
      → n ≡ suc m → expr_of p ≡ M.joined raw xs → seq s ≡ Some (ys, r)
      → with_front front (parts_of n raw seq exp xs (T.Sign Slash ∷ s))
      ≡ with_front (front ++ p ∷ []) (parts_of m raw seq exp ys r)
  parts_step front n m xs s p ys r e k h = rw (e, h, ← k) (moved front p (parts_of m raw seq exp ys r))

  parts_none : (front : List Expr) (n m : ℕ) (xs : M.Exprs) (s : List Token) → n ≡ suc m → seq s ≡ None
      → with_front front (parts_of n raw seq exp xs (T.Sign Slash ∷ s)) ≡ None
  parts_none front n m xs s e h = rw (e, h) refl

  parts_both : (front : List Expr) (n m : ℕ) (xs : M.Exprs) (s : List Token) (p : Expr) (ys : M.Exprs) (r : List Token)
      → n ≡ suc m → expr_of p ≡ M.Both (M.joined raw xs) (M.joined raw ys) → exp s ≡ Some (ys, r)
      → with_front front (parts_of n raw seq exp xs (T.Sign Ampersand ∷ s)) ≡ Some (exprs_all (front ++ p ∷ []), r)
  parts_both front n m xs s p ys r e k h = rw (e, h, ← k) (ap (λ zs. Some (zs, r)) (ahead_last front p))

  last_here : (m : ℕ) (xs : M.Exprs) (s : List Token) → joins s ≡ false
      → parts_of (suc m) raw seq exp xs s ≡ Some (M.one (M.joined raw xs), s)
  last_here m xs (T.Sign Slash ∷ s) e = absurd cc
  last_here m xs (T.Sign Ampersand ∷ s) e = absurd cc
  last_here m xs _ e = refl

  parts_last : (front : List Expr) (n m : ℕ) (xs : M.Exprs) (s : List Token) (p : Expr) → n ≡ suc m
      → expr_of p ≡ M.joined raw xs → joins s ≡ false → with_front front (parts_of n raw seq exp xs s)
      ≡ Some (exprs_all (front ++ p ∷ []), s)
  parts_last front n m xs s p e k j = rw (e, last_here m xs s j, ← k) (ap (λ zs. Some (zs, s)) (ahead_last front p))

pub front_none : (o : Option (M.Exprs × List Token)) → with_front [] o ≡ o
front_none None = refl
front_none (Some x) = refl

-- ---- a choice: the parts in front, and those of what is left, are the whole

abbrev choice_of : ℕ → (raw : Bool) → ℕ → M.Exprs → List Token → Option (M.Exprs × List Token)
choice_of d raw n xs s = parts_of n raw (seq_of (read_item d)) (read_exp d raw) xs s

module _ (d : ℕ) (raw : Bool) (l i : ℕ) (lt : i < l + 1) (front : List Expr) (xs : M.Exprs) (s : List Token) (whole :
    Option (M.Exprs × List Token))
    (here : with_front front (choice_of d raw (l + 1 - i) xs s) ≡ whole) where
  less : l + 1 - i ≡ suc (l + 1 - (i + 1))
  less = omega (arith, lt)

  behind : (t : Token) (r : List Token) → s ≡ t ∷ r → with_front front (choice_of d raw (l + 1 - i) xs (t ∷ r)) ≡ whole
  behind t r e = ap (λ z. with_front front (choice_of d raw (l + 1 - i) xs z)) (sym e) ∙ here

  pub choice_step : (all : List Expr) (p : Expr) (ys : M.Exprs) (r q : List Token) → all ≡ front ++ p ∷ []
      → s ≡ T.Sign Slash ∷ r → expr_of p ≡ M.joined raw xs → seq_of (read_item d) r ≡ Some (ys, q)
      → with_front all (choice_of d raw (l + 1 - (i + 1)) ys q) ≡ whole
  choice_step all p ys r q f e k h =
      rw f (sym (parts_step raw (seq_of (read_item d)) (read_exp d raw) front (l + 1 - i) (l + 1 - (i + 1)) xs r p ys q
      less k h) ∙ behind (T.Sign Slash) r e)

  pub choice_none : (r : List Token) → s ≡ T.Sign Slash ∷ r → seq_of (read_item d) r ≡ None → whole ≡ None
  choice_none r e h =
      sym (behind (T.Sign Slash) r e)
      ∙ parts_none raw (seq_of (read_item d)) (read_exp d raw) front (l + 1 - i) (l + 1 - (i + 1)) xs r less h

  pub choice_both : (all : List Expr) (p : Expr) (ys : M.Exprs) (r q : List Token) → all ≡ front ++ p ∷ []
      → s ≡ T.Sign Ampersand ∷ r → expr_of p ≡ M.Both (M.joined raw xs) (M.joined raw ys)
      → read_exp d raw r ≡ Some (ys, q) → whole ≡ Some (exprs_all all, q)
  choice_both all p ys r q f e k h =
      rw f (sym (behind (T.Sign Ampersand) r e)
      ∙ parts_both raw (seq_of (read_item d)) (read_exp d raw) front (l + 1 - i) (l + 1 - (i + 1)) xs r p ys q less k
      h)

  pub choice_last : (all : List Expr) (p : Expr) → all ≡ front ++ p ∷ [] → expr_of p ≡ M.joined raw xs → joins s ≡ false
      → whole ≡ Some (exprs_all all, s)
  choice_last all p f k j =
      rw f (sym here ∙ parts_last raw (seq_of (read_item d)) (read_exp d raw) front (l + 1 - i) (l + 1 - (i + 1)) xs s p
      less k j)
