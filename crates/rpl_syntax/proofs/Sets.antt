-- What a bracket is read as is a set.
use Rattle.std.proofs.Common.{◌≡◌, ℕ, zero, suc, List, ◌++◌, Option, Some, None, ap, subst}
use Rattle.std.specs.Prelude.{Bool, true, false, ◌&&◌, Result, Ok, Err, if◌then◌else◌, option_map}
use Rattle.regex_class.specs.Ranges.{Range}
use Rattle.rpl_classes.specs.Sets.{IsNormal}
use Rattle.rpl_classes.specs.Norm.{norm}
use Rattle.rpl_classes.specs.Algebra.{both, others, without, set_of}
use Rattle.rpl_classes.specs.Classes.{test_named, set_named}
use Rattle.rpl_classes.specs.Symbols.{Placed, symbols_from, size, place, rest, begins, past_blanks}
use Rattle.rpl_classes.specs.Lists.{Reading, and_then, changed, list, is_range, range_list, each}
use Rattle.rpl_classes.specs.Brackets.{is_class, named, name, class, more, union, joined, compound, body, bracket}
use Rattle.rpl_classes.specs.Brackets.{marked, outermost, bracket_of, word, past_word}
use Rattle.rpl_classes.specs.declared.fault.SetFault.{SetFault}
use Rattle.rpl_classes.specs.declared.fault.SetFault.TheVariants.{BadSet}
use Rattle.rpl_classes.proofs.Normal.{norm_normal}
use Rattle.rpl_classes.proofs.Operations.{others_normal, both_normal, without_normal}

-- what was read is a set
abbrev Sound : Reading → Type 0
Sound (Ok p) = IsNormal p.0
Sound (Err e) = Unit {0}

if_sound : (b : Bool) (x y : Reading) → Sound x → Sound y → Sound (if b then x else y)
if_sound true x y h k = h
if_sound false x y h k = k

then_sound : (r : Reading) (f : List Range → List Placed → Reading)
    → ((a : List Range) (s : List Placed) → Sound (f a s)) → Sound (and_then r f)
then_sound (Ok p) f h = h p.0 p.1
then_sound (Err e) f h = tt

-- where the second rests on the first
after_sound : (r : Reading) (f : List Range → List Placed → Reading) → Sound r
    → ((a : List Range) (s : List Placed) → IsNormal a → Sound (f a s)) → Sound (and_then r f)
after_sound (Ok p) f h k = k p.0 p.1 h
after_sound (Err e) f h k = tt

changed_sound : (f : List Range → List Range) (r : Reading) → ((a : List Range) → IsNormal (f a)) → Sound (changed f r)
changed_sound f (Ok p) h = h p.0
changed_sound f (Err e) h = tt

-- ---- classes

abbrev Some_normal : Option (List Range) → Type 0
Some_normal None = Unit {0}
Some_normal (Some a) = IsNormal a

set_normal : (o : _) → Some_normal (option_map set_of o)
unfolding set_of
set_normal None = tt
set_normal (Some k) = norm_normal _

named_sound : (p : ℕ) (o : Option (List Range)) (s : List Placed) → Some_normal o → Sound (named p o s)
named_sound p None s h = tt
named_sound p (Some a) s h = h

class_sound : (p : ℕ) (s : List Placed) → Sound (class p s)
class_sound p s =
    if_sound (begins 94 (rest s)) (changed others (name p (rest (rest s)))) (name p (rest s))
    (changed_sound others (name p (rest (rest s))) others_normal)
    (named_sound p (set_named (word (rest s))) (rest (rest (past_word (rest s))))
    (set_normal (test_named (word (rest s)))))

-- ---- compounds

module _ (b : List Placed → Reading) where
  more_sound : (n : ℕ) (a : List Range) (s : List Placed) → Sound (more b n a s)
  unfolding more
  more_sound zero a s = norm_normal a
  more_sound (suc n) a s =
      if_sound (begins 91 (past_blanks s)) (and_then (b (past_blanks s)) (λ c r. more b n (a ++ c) r)) (Ok (norm a, s))
      (then_sound (b (past_blanks s)) (λ c r. more b n (a ++ c) r) (λ c r. more_sound n (a ++ c) r)) (norm_normal a)

  union_sound : (n : ℕ) (s : List Placed) → Sound (union b n s)
  union_sound n s = then_sound (b (past_blanks s)) (more b n) (more_sound n)

  joined_sound : (n : ℕ) (a : List Range) (s : List Placed) → IsNormal a → Sound (joined b n a s)
  unfolding joined
  joined_sound zero a s h = tt
  joined_sound (suc n) a s h =
      let r = past_blanks s in
      let keep = and_then (union b n (rest (rest r))) (λ c q. joined b n (both a c) q) in
      let take = and_then (union b n (rest (rest r))) (λ c q. joined b n (without a c) q) in
      let no : Reading = Err (BadSet (place r)) in
      if_sound (begins 93 r) (Ok (a, rest r)) (if begins 38 r && begins 38 (rest r) then keep
      else (if begins 45 r && begins 45 (rest r) then take else no)) h
      (if_sound (begins 38 r && begins 38 (rest r)) keep (if begins 45 r && begins 45 (rest r) then take else no)
      (then_sound (union b n (rest (rest r))) (λ c q. joined b n (both a c) q)
      (λ c q. joined_sound n (both a c) q (both_normal a c)))
      (if_sound (begins 45 r && begins 45 (rest r)) take no
      (then_sound (union b n (rest (rest r))) (λ c q. joined b n (without a c) q)
      (λ c q. joined_sound n (without a c) q (without_normal a c))) tt))

  body_sound : (n : ℕ) (s : List Placed) → Sound (body b n s)
  body_sound n s =
      if_sound (begins 91 (past_blanks s)) (compound b n s) (list s)
      (after_sound (union b n s) (joined b n) (union_sound n s) (joined_sound n))
      (changed_sound norm (if is_range s then range_list s else each true s) norm_normal)

-- ---- the whole text

pub same_pair : (x y : List Range × Bool) → ◌≡◌ {A = Result (List Range × Bool) SetFault} (Ok x) (Ok y)
    → (x.0 ≡ y.0) × (x.1 ≡ y.1)
same_pair x y e = let k : x ≡ y = cc in (ap (λ (p : List Range × Bool). p.0) k, ap (λ (p : List Range × Bool). p.1) k)

marked_sound : (m : Bool) (r : Reading) → Sound r → (a : List Range) (n : Bool) → marked m r ≡ Ok (a, n) → IsNormal a
marked_sound m (Ok p) h a n e = subst IsNormal (same_pair (p.0, m) (a, n) e).0 h
marked_sound m (Err f) h a n e = absurd (cc)

outermost_sound : (n p : ℕ) (s : List Placed) (a : List Range) (m : Bool) → outermost n p s ≡ Ok (a, m) → IsNormal a
outermost_sound n p s a m e = by (is_class s) (begins 94 s) e
  where
    by : (c d : Bool) → (if c then marked false (class p s)
        else (if d then marked true (body (bracket n) n (rest s)) else marked false (body (bracket n) n s))) ≡ Ok (a, m)
        → IsNormal a
    by true d f = marked_sound false (class p s) (class_sound p s) a m f
    by false true f = marked_sound true (body (bracket n) n (rest s)) (body_sound (bracket n) n (rest s)) a m f
    by false false f = marked_sound false (body (bracket n) n s) (body_sound (bracket n) n s) a m f

pub bracket_normal : (t : List ℕ) (a : List Range) (m : Bool) → bracket_of t ≡ Ok (a, m) → IsNormal a
bracket_normal t a m e = by (begins 91 (symbols_from t 0)) e
  where
    by : (c : Bool) → (if c then outermost (suc (size t)) (place (symbols_from t 0)) (rest (symbols_from t 0))
        else Err (BadSet (place (symbols_from t 0)))) ≡ Ok (a, m) → IsNormal a
    by true f = outermost_sound (suc (size t)) (place (symbols_from t 0)) (rest (symbols_from t 0)) a m f
    by false f = absurd (cc)
