-- What is known of what stands for rules, one after the other.
use Rattle.std.proofs.Common.{◌≡◌, ℕ, zero, suc, ◌+◌, ◌<◌, ◌≤◌, List, [], ◌∷◌, ◌++◌, length, take, refl, sym, ap, ◌∙◌}
use Rattle.std.proofs.Common.{subst, arith, inl, inr, length-append}
use Rattle.std.specs.Prelude.{Option, Some, None, slice_get}
use Rattle.std.proofs.lemmas.Bool.{cases_order}
use Rattle.std.proofs.lemmas.List.{take_more, length-map, length-take-le}
use Rattle.std.proofs.lemmas.Option.{slice_get_within, get_or_from_slice_get}
use Rattle.rpl_core.specs.Core.{Core}
use Rattle.rpl_core.specs.View.{core_of}
use Rattle.rpl_core.specs.declared.rules.Rule.{Rule}
use Rattle.rpl_forms.specs.Counting.{CountsOne, beyond, in_block, counted, KnowsInners, KnowsNext}
use Rattle.rpl_forms.specs.Counting as C
use Rattle.rpl_forms.specs.Inlining.{Inners, inner}
use Rattle.rpl_forms.specs.Rows.{Row, row_at, rows_of, inners_from, inners_of}
use Rattle.rpl_forms.specs.declared.size.Inner.{Inner}
use Rattle.rpl_forms.proofs.Standing.{got_inner, length_from, get_last, get_before}

last : (I : Inners) (n : Option Inner) (x : Option Core) → KnowsNext I n x → CountsOne (Some n) (Some x)
last I None None C.nothing = in_block
last I (Some n) (Some p) (C.stands _ _ c le s) = counted n p c
last I None (Some p) c = elim c [ ]
last I (Some n) None c = elim c [ ]

one_more : (J : Inners) (ks : List (Option Inner)) (I : Inners) (n : Option Inner) (x : Option Core) (r : ℕ)
    → length ks ≡ length I → ((k : ℕ) → CountsOne (slice_get ks k) (slice_get I k)) → KnowsNext J n x
    → CountsOne (slice_get (ks ++ n ∷ []) r) (slice_get (I ++ x ∷ []) r)
one_more J [] [] n x zero e h c = last J n x c
one_more J [] [] n x (suc r) e h c = beyond
one_more J [] (i ∷ I) n x r e h c = absurd (omega (arith, e))
one_more J (m ∷ ks) [] n x r e h c = absurd (omega (arith, e))
one_more J (m ∷ ks) (i ∷ I) n x zero e h c = h 0
one_more J (m ∷ ks) (i ∷ I) n x (suc r) e h c = one_more J ks I n x r (omega (arith, e)) (λ k. h (suc k)) c

last_same : (I : Inners) (n : Option Inner) (x : Option Core) (m : Inner) → n ≡ Some m → KnowsNext I n x
    → (m.rule ≤ length I) × (slice_get (I ++ x ∷ []) m.rule ≡ Some x)
last_same I None x m e c = absurd cc
last_same I (Some n) None m e c = elim c [ ]
last_same I (Some n) (Some p) m e (C.stands _ _ c le s) =
    let same : n ≡ m = cc in
    (subst (λ k. k.rule ≤ length I) same le, subst (λ k. slice_get (I ++ Some p ∷ []) k.rule ≡ Some (Some p)) same s)

same_more : (ks : List (Option Inner)) (I : Inners) (n : Option Inner) (x : Option Core) (r : ℕ) (m : Inner)
    → length ks ≡ length I → KnowsInners ks I → KnowsNext I n x → slice_get (ks ++ n ∷ []) r ≡ Some (Some m)
    → (m.rule ≤ r) × (slice_get (I ++ x ∷ []) m.rule ≡ slice_get (I ++ x ∷ []) r)
same_more ks I n x r m long h c e = elim (cases_order r (length ks)) [
  | inl is ↦
      let here : Some n ≡ Some (Some m) = sym (get_last ks n) ∙ ap (slice_get (ks ++ n ∷ [])) (sym is) ∙ e in
      let own : n ≡ Some m = cc in
      let f = last_same I n x m own c in
      let place : r ≡ length I = omega (arith, is, long) in
      (omega (arith, f.0, place), f.1 ∙ sym (get_last I x) ∙ ap (slice_get (I ++ x ∷ [])) (sym place))
  | inr (inl lt) ↦
      let f = h.same r m (sym (get_before ks n r lt) ∙ e) in
      (f.0, get_before I x m.rule (omega (arith, f.0, long)) ∙ f.1 ∙ sym (get_before I x r (omega (arith, long))))
  | inr (inr gt) ↦ absurd (omega (arith, slice_get_within (ks ++ n ∷ []) r (Some m) e, length-append ks (n ∷ [])))
]

-- one more
pub knows_more : (ks : List (Option Inner)) (I : Inners) (n : Option Inner) (x : Option Core) → length ks ≡ length I
    → KnowsInners ks I → KnowsNext I n x → KnowsInners (ks ++ n ∷ []) (I ++ x ∷ [])
knows_more ks I n x e h c =
    record { one = λ r. one_more I ks I n x r e h.one c; same = λ r m g. same_more ks I n x r m e h c g }

-- nothing stands for no rules
pub knows_none : KnowsInners [] []
knows_none = record { one = λ r. beyond; same = λ r n e. absurd cc }

-- what stands for the first rules, and for one more
pub inners_turn : (rs : List Rule) (k : ℕ) (r : Rule) → slice_get rs k ≡ Some r
    → take (k + 1) (inners_of rs) ≡ take k (inners_of rs) ++ inner (take k (inners_of rs)) r.block (core_of r.body) ∷ []
inners_turn rs k r e =
    let I = inners_of rs in
    let x = inner (take k I) r.block (core_of r.body) in
    let inside : k < length I =
    omega (arith, slice_get_within rs k r e, length_from [] (rows_of rs), length-map rs row_at) in
    let got = got_inner rs k r e in
    take_more I k x inside ∙ ap (λ y. take k I ++ y ∷ []) (get_or_from_slice_get I k x x got)

pub first_many : (rs : List Rule) (k : ℕ) → k ≤ length rs → length (take k (inners_of rs)) ≡ k
first_many rs k h =
    length-take-le k (inners_of rs) (omega (arith, h, length_from [] (rows_of rs), length-map rs row_at))

-- the first rules are as many, and what stands for one more
pub as_many_first : (rs : List Rule) (k : ℕ) (r : Rule) → slice_get rs k ≡ Some r → length (take k (inners_of rs)) ≡ k
as_many_first rs k r e = first_many rs k (omega (arith, slice_get_within rs k r e))

pub rule_there : (rs : List Rule) (k : ℕ) → k < length rs → slice_get rs k ≡ None → ⊥
rule_there [] k lt e = omega arith
rule_there (r ∷ rs) zero lt e = cc
rule_there (r ∷ rs) (suc k) lt e = rule_there rs k (omega arith) e

-- a rule more at the end
pub rows_more : (rs : List Rule) (r : Rule) → rows_of (rs ++ r ∷ []) ≡ rows_of rs ++ row_at r ∷ []
rows_more [] r = refl
rows_more (x ∷ rs) r = ap (λ l. row_at x ∷ l) (rows_more rs r)

from_more : (I : Inners) (rows : List Row) (r : Row)
    → inners_from I (rows ++ r ∷ []) ≡ inners_from I rows ++ inner (inners_from I rows) r.block r.body ∷ []
from_more I [] r = refl
from_more I (x ∷ rows) r = from_more (I ++ inner I x.block x.body ∷ []) rows r

-- a rule more at the end of a table puts what stands for it after what stands for the others
pub inners_more : (rs : List Rule) (r : Rule)
    → inners_of (rs ++ r ∷ []) ≡ inners_of rs ++ inner (inners_of rs) r.block (core_of r.body) ∷ []
inners_more rs r = ap (inners_from []) (rows_more rs r) ∙ from_more [] (rows_of rs) (row_at r)

-- what is known of all rules, with one more
pub knows_pushed : (rs : List Rule) (r : Rule) (ks : List (Option Inner))
    → KnowsInners ks (inners_of rs ++ inner (inners_of rs) r.block (core_of r.body) ∷ [])
    → KnowsInners ks (inners_of (rs ++ r ∷ []))
knows_pushed rs r ks h = subst (KnowsInners ks) (sym (inners_more rs r)) h

-- as many stand as there are rules
pub as_many : (rs : List Rule) → length (inners_of rs) ≡ length rs
as_many rs = omega (arith, length_from [] (rows_of rs), length-map rs row_at)
