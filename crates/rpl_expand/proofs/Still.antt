-- What calls nothing, and what one character at least is asked for by each core.
use Rattle.std.proofs.Common.{◌≡◌, ℕ, zero, suc, ◌-◌, ◌≤◌, List, [], ◌∷◌, refl, sym, ap, ap₂, ◌∙◌, arith}
use Rattle.std.specs.Prelude.{Bool, true, false, ◌||◌, ◌&&◌, not, if◌then◌else◌, Option, Some, None, min}
use Rattle.rpl_core.specs.Core.{Core, Set, Seq, Choice, Many, Not, And, Behind, Call, Capture, Note, Start, End, Halt}
use Rattle.rpl_core.specs.Core.{Cores, NoMore, Then}
use Rattle.rpl_core.specs.Lengths.{has_call, any_has_call, has_repetition, least, least_sum, greatest}
use Rattle.rpl_forms.specs.Forms.{empty, pair, or_nothing, copies, seq_of, sets, endless, repeat, repeated}
use Rattle.rpl_forms.specs.Forms.{passed, found, mark_name, any, macro_core, casing_under}
use Rattle.rpl_forms.specs.Inlining.{Inners, inlined, inlined_all}
use Rattle.rpl_forms.specs.Sizes.{nodes, all_nodes}
use Rattle.rpl_macro.specs.Kinds.{kind_of}
use Rattle.rpl_macro.specs.declared.kind.Macro.{Macro}
use Rattle.rpl_macro.specs.Laws.{HasNoLetters}
use Rattle.rpl_macro.specs.Macros.{text_of}
use Rattle.rpl_macro.specs.declared.casing.Casing.{Casing}
use Rattle.rpl_macro.specs.declared.casing.Casing.TheVariants.{Plain, Folded}
use Rattle.rpl_macro.specs.declared.kind.Macro.TheVariants.{Find, FindAll, KeepTo, Ci, Uci, Message, Error}
use Rattle.rpl_syntax.specs.Expression.{Expr, Exprs, Nil, Cons}
use Rattle.rpl_syntax.specs.Expression as X
use Rattle.rpl_syntax.specs.declared.expr.Mark.TheVariants.{Hit, Skip}
use Rattle.rpl_syntax.specs.declared.expr.Sign.{Sign}
use Rattle.rpl_syntax.specs.declared.expr.Sign.TheVariants as S
use Rattle.rpl_expand.specs.Expansion.{Scope, core, cores, is_cooked, signed_by}
use Rattle.rpl_expand.specs.Laws.{is_still, all_still, is_error, HasParts}
use Rattle.rpl_expand.proofs.Parted.{Parted, AllParted, parted}

left : (a b : Bool) → (a && b) ≡ true → a ≡ true
left true b e = refl
left false b e = absurd cc

right : (a b : Bool) → (a && b) ≡ true → b ≡ true
right true b e = e
right false b e = absurd cc

isnt : (a : Bool) → not a ≡ true → a ≡ false
isnt true e = absurd cc
isnt false e = refl

then_none : (p : Core) (ps : Cores) → has_call p ≡ false → any_has_call ps ≡ false → any_has_call (Then p ps) ≡ false
then_none p ps f g = ap₂ ◌||◌ f g

pair_none : (p q : Core) → has_call p ≡ false → has_call q ≡ false → has_call (pair p q) ≡ false
pair_none p q f g = then_none p (Then q NoMore) f (then_none q NoMore g refl)

copies_none : (n : ℕ) (p : Core) (ps : Cores) → has_call p ≡ false → any_has_call ps ≡ false
    → any_has_call (copies n p ps) ≡ false
copies_none zero p ps f g = g
copies_none (suc n) p ps f g = then_none p (copies n p ps) f (copies_none n p ps f g)

or_false : (b : Bool) → (b || false) ≡ b
or_false true = refl
or_false false = refl

group_none : (ps : Cores) → any_has_call ps ≡ false → has_call (seq_of ps) ≡ false
group_none NoMore f = refl
group_none (Then p NoMore) f = sym (or_false (has_call p)) ∙ f
group_none (Then p (Then q ps)) f = f

sets_none : (c : Casing) (t : List ℕ) → any_has_call (sets c t) ≡ false
sets_none c [] = refl
sets_none c (x ∷ t) = sets_none c t

endless_none : (p : Core) (n : ℕ) → has_call p ≡ false → has_call (endless p n) ≡ false
endless_none p zero f = f
endless_none p (suc n) f =
    then_none p (copies n p (Then (Many p) NoMore)) f
    (copies_none n p (Then (Many p) NoMore) f (then_none (Many p) NoMore f refl))

repeat_none : (p : Core) (n : ℕ) (m : Option ℕ) → has_call p ≡ false → has_call (repeat p n m) ≡ false
repeat_none p n None f = endless_none p n f
repeat_none p n (Some m) f =
    copies_none n p (copies (m - n) (or_nothing p) NoMore) f
    (copies_none (m - n) (or_nothing p) NoMore (then_none p (Then empty NoMore) f refl) refl)

either_none : (x : Bool) (l m : ℕ) (p : Core) → has_call p ≡ false
    → has_call (if x then Behind 0 0 p else Behind l m p) ≡ false
either_none true l m p f = f
either_none false l m p f = f

mutual
  inlined_none : (I : Inners) (p : Core) → has_call p ≡ false → has_call (inlined I p) ≡ false
  inlined_none I (Set s) f = refl
  inlined_none I (Seq ps) f = inlined_all_none I ps f
  inlined_none I (Choice ps) f = inlined_all_none I ps f
  inlined_none I (Many p) f = inlined_none I p f
  inlined_none I (Not p) f = inlined_none I p f
  inlined_none I (And p) f = inlined_none I p f
  inlined_none I (Behind l m p) f = f
  inlined_none I (Call r) f = absurd cc
  inlined_none I (Capture c p) f = inlined_none I p f
  inlined_none I (Note x) f = refl
  inlined_none I Start f = refl
  inlined_none I End f = refl
  inlined_none I Halt f = refl

  inlined_all_none : (I : Inners) (ps : Cores) → any_has_call ps ≡ false → any_has_call (inlined_all I ps) ≡ false
  inlined_all_none I NoMore f = refl
  inlined_all_none I (Then p ps) f =
      then_none (inlined I p) (inlined_all I ps) (inlined_none I p (first (has_call p) (any_has_call ps) f))
      (inlined_all_none I ps (second (has_call p) (any_has_call ps) f)) where
        first : (a b : Bool) → (a || b) ≡ false → a ≡ false
        first true b e = absurd cc
        first false b e = refl

        second : (a b : Bool) → (a || b) ≡ false → b ≡ false
        second true b e = absurd cc
        second false b e = e

signed_none : (I : Inners) (s : Sign) (p : Core) → has_call p ≡ false → has_call (signed_by I s p) ≡ false
signed_none I S.Not p f = f
signed_none I S.Ahead p f = f
signed_none I S.Behind p f =
    either_none (has_call (inlined I p) || has_repetition (inlined I p)) (min 65536 (least (inlined I p)))
    (min 256 (greatest (inlined I p))) (inlined I p) (inlined_none I p f)

found_none : (p : Core) → has_call p ≡ false → has_call (found p) ≡ false
found_none p f = pair_none (passed p) (Capture (mark_name Hit) p) (pair_none (Not p) (Set any) f refl) f

macro_none : (k : Option Macro) (t : List ℕ) (p : Core) → is_error k ≡ false → has_call p ≡ false
    → has_call (macro_core k t p) ≡ false
macro_none None t p e f = f
macro_none (Some Find) t p e f = found_none p f
macro_none (Some FindAll) t p e f = endless_none (found p) 1 (found_none p f)
macro_none (Some KeepTo) t p e f =
    pair_none (Capture (mark_name Skip) (passed p)) (Capture (mark_name Hit) p) (pair_none (Not p) (Set any) f refl) f
macro_none (Some Ci) t p e f = f
macro_none (Some Uci) t p e f = f
macro_none (Some Message) t p e f = refl
macro_none (Some Error) t p e f = absurd cc

repeated_none : (cooked : Bool) (b p : Core) (l : ℕ) (m : Option ℕ) → cooked ≡ false → has_call p ≡ false
    → has_call (repeated cooked b p l m) ≡ false
repeated_none true b p l m e f = absurd cc
repeated_none false b p l m e f = repeat_none p l m f

-- a still expression calls nothing
mutual
  pub still : (c : Casing) (s : Scope) (p : Expr) → is_still p ≡ true → has_call (core c s p) ≡ false
  still c s (X.Text t) h = group_none (sets c t) (sets_none c t)
  still c s (X.Class r n) h = refl
  still c s X.Any h = refl
  still c s X.Start h = refl
  still c s X.End h = refl
  still c s X.Boundary h = absurd cc
  still c s (X.Name q) h = absurd cc
  still c s (X.Cooked Nil) h = refl
  still c s (X.Cooked (Cons p Nil)) h = still c s p h
  still c s (X.Cooked (Cons p (Cons q ps))) h = absurd cc
  still c s (X.Raw ps) h = group_none (cores c s ps) (still_all c s ps h)
  still c s (X.Choice ps) h = still_all c s ps h
  still c s (X.Both p q) h =
      pair_none (And (core c s p)) (core c s q) (still c s p (left (is_still p) (is_still q) h))
      (still c s q (right (is_still p) (is_still q) h))
  still c s (X.Prefix sign p) h = signed_none s.inners sign (core c s p) (still c s p h)
  still c s (X.Repeat p l m) h =
      repeated_none (is_cooked p) (Call s.boundary) (core c s p) l m
      (isnt (is_cooked p) (left (not (is_cooked p)) (is_still p) h))
      (still c s p (right (not (is_cooked p)) (is_still p) h))
  still c s (X.Macro q p) h =
      macro_none (kind_of q.name) (text_of p) (core (casing_under (kind_of q.name) c) s p)
      (isnt (is_error (kind_of q.name)) (left (not (is_error (kind_of q.name))) (is_still p) h))
      (still (casing_under (kind_of q.name) c) s p (right (not (is_error (kind_of q.name))) (is_still p) h))
  still c s (X.Marked m p) h = still c s p h
  still c s (X.Note t) h = refl

  pub still_all : (c : Casing) (s : Scope) (ps : Exprs) → all_still ps ≡ true → any_has_call (cores c s ps) ≡ false
  still_all c s Nil h = refl
  still_all c s (Cons p ps) h =
      then_none (core c s p) (cores c s ps) (still c s p (left (is_still p) (all_still ps) h))
      (still_all c s ps (right (is_still p) (all_still ps) h))

-- n turns
pub turns : (cooked : Bool) (b p : Core) (n : ℕ) → cooked ≡ false
    → repeated cooked b p n (Some n) ≡ Seq (copies n p NoMore)
turns true b p n e = absurd cc
turns false b p n e =
    let none : n - n ≡ 0 = omega arith in ap (λ k. Seq (copies n p (copies k (or_nothing p) NoMore))) none

-- `uci` of a text without letters
others : (t : List ℕ) → HasNoLetters t → sets Folded t ≡ sets Plain t
others [] h = refl
others (x ∷ t) h = ap₂ (λ r ps. Then (Set r) ps) h.0 (others t h.1)

pub kept_core : (t : List ℕ) → HasNoLetters t → seq_of (sets Folded t) ≡ seq_of (sets Plain t)
kept_core t h = ap seq_of (others t h)

-- a core takes no fewer characters than it may and has no fewer nodes
mutual
  least_parted : (p : Core) → Parted p → least p ≤ nodes p
  least_parted (Set s) h = omega arith
  least_parted (Seq ps) h = let f = sum_nodes ps h in omega (arith, f)
  least_parted (Choice NoMore) h = absurd h
  least_parted (Choice (Then p ps)) h = let f = least_parted p h.0 in omega (arith, f)
  least_parted (Many p) h = omega arith
  least_parted (Not p) h = omega arith
  least_parted (And p) h = omega arith
  least_parted (Behind l m p) h = omega arith
  least_parted (Call r) h = omega arith
  least_parted (Capture c p) h = let f = least_parted p h in omega (arith, f)
  least_parted (Note x) h = omega arith
  least_parted Start h = omega arith
  least_parted End h = omega arith
  least_parted Halt h = omega arith

  sum_nodes : (ps : Cores) → AllParted ps → least_sum ps ≤ all_nodes ps
  sum_nodes NoMore h = omega arith
  sum_nodes (Then p ps) h = let f = least_parted p h.0 in let g = sum_nodes ps h.1 in omega (arith, f, g)

pub least_nodes : (p : Core) → HasParts p → least p ≤ nodes p
least_nodes p h = least_parted p (parted p h)
