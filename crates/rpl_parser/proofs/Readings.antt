-- Steps of the reading, and what a function returned for them.
use Rattle.std.proofs.Common.{◌≡◌, ◌≢◌, ℕ, zero, suc, ◌-◌, List, ◌∷◌, length, Option, Some, None, refl, ap, arith}
use Rattle.std.specs.Prelude.{Bool, true, false}
use Rattle.rpl_syntax.specs.Expression.{Exprs, one, chosen}
use Rattle.rpl_syntax.specs.declared.token.Token.{Token}
use Rattle.rpl_syntax.specs.Reading.{item_of, joins, slash, ampersand, parts_of, seq_of, content_of, read_item}
use Rattle.rpl_syntax.specs.Reading.{read_exp}
use Rattle.rpl_lexer.specs.declared.punct.Punct.TheVariants.{Slash, Ampersand}
use Rattle.rpl_syntax.specs.declared.token.Token.TheVariants as T
use Rattle.rpl_parser.specs.declared.refusal.Refusal.{Refusal}
use Rattle.rpl_parser.specs.declared.refusal.Refusal.TheVariants as errors
use Rattle.rpl_parser.specs.inside.Gives.{Fails}

pub item_is : (d : ℕ) (s : List Token) → d ≢ 0 → read_item d s ≡ item_of (read_item (d - 1)) (read_exp (d - 1)) s
item_is zero s h = absurd (h refl)
item_is (suc d) s h = let e : d ≡ suc d - 1 = omega arith in ap (λ k. item_of (read_item k) (read_exp k) s) e

pub exp_is : (d : ℕ) (raw : Bool) (s : List Token) → d ≢ 0
    → read_exp d raw s ≡ content_of raw (seq_of (read_item (d - 1))) (read_exp (d - 1) raw) s
exp_is zero raw s h = absurd (h refl)
exp_is (suc d) raw s h = let e : d ≡ suc d - 1 = omega arith in
    ap (λ k. content_of raw (seq_of (read_item k)) (read_exp k raw) s) e

pub not_joined : (s : List Token) → slash s ≡ false → ampersand s ≡ false → joins s ≡ false
not_joined (T.Sign Slash ∷ s) e f = absurd cc
not_joined (T.Sign Ampersand ∷ s) e f = absurd cc
not_joined _ e f = refl

module _ (raw : Bool) (seq exp : List Token → Option (Exprs × List Token)) where
  pub content_some : (s : List Token) (xs : Exprs) (r : List Token) (ps : Exprs) (q : List Token) → seq s ≡ Some (xs, r)
      → joins r ≡ true → parts_of (suc (length r)) raw seq exp xs r ≡ Some (ps, q)
      → content_of raw seq exp s ≡ Some (one (chosen ps), q)
  content_some s xs r ps q e j k = rw (e, j, k) refl

  pub content_none : (s : List Token) (xs : Exprs) (r : List Token) → seq s ≡ Some (xs, r) → joins r ≡ true
      → parts_of (suc (length r)) raw seq exp xs r ≡ None → content_of raw seq exp s ≡ None
  content_none s xs r e j k = rw (e, j, k) refl

-- an error that is passed on
pub fails_by : {Y Z : Type 0} (e : Refusal) (o : Option Y) (p : Option Z) → (o ≡ None → p ≡ None) → Fails e o
    → Fails e p
fails_by errors.Memory o p f h = tt
fails_by errors.Syntax o p f h = f h

abbrev some : {A : Type 0} → A → Option A
some x = Some x

pub some_is : {A : Type 0} (x y : A) → some x ≡ some y → x ≡ y
some_is x y e = cc
