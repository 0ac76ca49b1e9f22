-- A number that is large enough is as good as any other: what a bracket is read as depends on no bound.
use Rattle.std.proofs.Common.{◌≡◌, ℕ, zero, suc, ◌<◌, ◌≤◌, List, [], ◌∷◌, ◌++◌, length, inl, inr, refl, ap, ◌∙◌, arith}
use Rattle.std.specs.Prelude.{Bool, true, false, ◌&&◌, not, Option, Some, None, Result, Ok, Err, if◌then◌else◌}
use Rattle.std.proofs.lemmas.Bool.{cases_Bool, and_parts}
use Rattle.regex_class.specs.Ranges.{Range}
use Rattle.std.specs.Prelude.{◌+◌, nat_eq}
use Rattle.std.specs.Char.{len_utf8}
use Rattle.rpl_text.specs.Escapes.{escape}
use Rattle.std.proofs.Common.{drop, length-drop}
use Rattle.std.proofs.lemmas.Str.{len_utf8_bounds}
use Rattle.rpl_text.specs.Places.{at, index}
use Rattle.rpl_classes.specs.declared.symbols.Symbol.TheVariants.{Plain}
use Rattle.rpl_classes.specs.Norm.{norm}
use Rattle.rpl_classes.specs.Algebra.{both, others, without}
use Rattle.rpl_classes.specs.Classes.{set_named}
use Rattle.rpl_classes.specs.Symbols.{Placed, escaped, symbols, symbols_from, size, first, place, rest, begins}
use Rattle.rpl_classes.specs.Symbols.{is_blank, past_blanks, is_plain}
use Rattle.rpl_classes.specs.Lists.{Reading, and_then, changed, is_member, char_of, is_range, range_list, each, list}
use Rattle.rpl_classes.specs.Brackets.{is_word, word, past_word, is_class, named, name, class, more, union, joined}
use Rattle.rpl_classes.specs.Brackets.{compound, body, inside, bracket, marked, outermost, bracket_of}
use Rattle.rpl_classes.specs.Laws.{reading, further, side, joins, content}
use Rattle.rpl_classes.specs.declared.fault.SetFault.{SetFault}
use Rattle.rpl_classes.specs.declared.fault.SetFault.TheVariants.{BadSet, BadRange}

-- ---- what is left is no longer than what was there

-- at most so many symbols are left, or fewer
abbrev pub Most : ℕ → Reading → Type 0
Most n (Ok p) = length p.1 ≤ n
Most n (Err e) = Unit {0}

abbrev pub Fewer : ℕ → Reading → Type 0
Fewer n (Ok p) = length p.1 < n
Fewer n (Err e) = Unit {0}

fewer_most : (n m : ℕ) (r : Reading) → Fewer n r → n ≤ m → Most m r
fewer_most n m (Ok p) h le = omega arith
fewer_most n m (Err e) h le = tt

most_fewer : (n m : ℕ) (r : Reading) → Most n r → n < m → Fewer m r
most_fewer n m (Ok p) h lt = omega arith
most_fewer n m (Err e) h lt = tt

most_more : (n m : ℕ) (r : Reading) → Most n r → n ≤ m → Most m r
most_more n m (Ok p) h le = omega arith
most_more n m (Err e) h le = tt

most_if : (n : ℕ) (b : Bool) (x y : Reading) → Most n x → Most n y → Most n (if b then x else y)
most_if n true x y h k = h
most_if n false x y h k = k

most_changed : (n : ℕ) (f : List Range → List Range) (r : Reading) → Most n r → Most n (changed f r)
most_changed n f (Ok p) h = h
most_changed n f (Err e) h = tt

most_then : (m n : ℕ) (r : Reading) (f : List Range → List Placed → Reading) → Most m r
    → ((a : List Range) (q : List Placed) → length q ≤ m → Most n (f a q)) → Most n (and_then r f)
most_then m n (Ok p) f h k = k p.0 p.1 h
most_then m n (Err e) f h k = tt

pub rest_le : (s : List Placed) → length (rest s) ≤ length s
rest_le [] = omega arith
rest_le (x ∷ s) = omega arith

pub rest_lt : (c : ℕ) (s : List Placed) → begins c s ≡ true → length (rest s) < length s
rest_lt c [] e = absurd (cc)
rest_lt c (x ∷ s) e = omega arith

len_if : (b : Bool) (s q : List Placed) (n : ℕ) → length s ≤ n → length q ≤ n → length (if b then s else q) ≤ n
len_if true s q n h k = h
len_if false s q n h k = k

pub blanks_le : (s : List Placed) → length (past_blanks s) ≤ length s
unfolding past_blanks
blanks_le [] = omega arith
blanks_le (x ∷ s) = let h = blanks_le s in
    len_if (is_blank x.1) (past_blanks s) (x ∷ s) (suc (length s)) (omega arith) (omega arith)

word_le : (s : List Placed) → length (past_word s) ≤ length s
unfolding past_word
word_le [] = omega arith
word_le (x ∷ s) = let h = word_le s in
    len_if (is_word x.1) (past_word s) (x ∷ s) (suc (length s)) (omega arith) (omega arith)

named_most : (n p : ℕ) (o : Option (List Range)) (s : List Placed) → length s ≤ n → Most n (named p o s)
named_most n p None s h = tt
named_most n p (Some a) s h = h

name_most : (p : ℕ) (s : List Placed) → Most (length s) (name p s)
name_most p s =
    let a = word_le s in let b = rest_le (past_word s) in let c = rest_le (rest (past_word s)) in
    named_most (length s) p (set_named (word s)) (rest (rest (past_word s))) (omega arith)

class_most : (p : ℕ) (s : List Placed) → Most (length s) (class p s)
class_most p s =
    let a = rest_le s in let b = rest_le (rest s) in
    most_if (length s) (begins 94 (rest s)) (changed others (name p (rest (rest s)))) (name p (rest s))
    (most_changed (length s) others (name p (rest (rest s)))
    (most_more (length (rest (rest s))) (length s) (name p (rest (rest s))) (name_most p (rest (rest s)))
    (omega arith)))
    (most_more (length (rest s)) (length s) (name p (rest s)) (name_most p (rest s)) (omega arith))

range_most : (s : List Placed) → Most (length s) (range_list s)
range_most s =
    let a = rest_le s in let b = rest_le (rest s) in let c = rest_le (rest (rest s)) in
    let d = rest_le (rest (rest (rest s))) in
    let left : length (rest (rest (rest (rest s)))) ≤ length s = omega arith in
    most_if (length s) _ (Ok ((char_of (first s), char_of (first (rest (rest s)))) ∷ [], rest (rest (rest (rest s)))))
    (Err (BadRange (place (rest s)))) left tt

each_most : (f : Bool) (s : List Placed) → Most (length s) (each f s)
unfolding each
each_most f [] = tt
each_most f (x ∷ s) =
    let n = suc (length s) in
    let some : Reading = changed (λ a. (char_of x.1, char_of x.1) ∷ a) (each false s) in
    let end : Reading = Ok ([], s) in
    let left : length s ≤ n = omega arith in
    most_if n (is_plain 93 x.1) (if f then Err (BadSet x.0) else end) _ (most_if n f (Err (BadSet x.0)) end tt left)
    (most_if n (not (is_member x.1)) (Err (BadSet x.0)) _ tt
    (most_if n (is_plain 45 x.1 && (not f && not (begins 93 s))) (Err (BadRange x.0)) some tt
    (most_changed n (λ a. (char_of x.1, char_of x.1) ∷ a) (each false s)
    (most_more (length s) n (each false s) (each_most false s) (omega arith)))))

list_most : (s : List Placed) → Most (length s) (list s)
list_most s = most_changed (length s) norm _ (most_if (length s) (is_range s) (range_list s) (each true s)
    (range_most s) (each_most true s))

-- the reader leaves fewer symbols
abbrev Shrinks : (List Placed → Reading) → Type 0
Shrinks b = (s : List Placed) → Fewer (length s) (b s)

module _ (b : List Placed → Reading) (h : Shrinks b) where
  first_most : (s : List Placed) → Most (length s) (b (past_blanks s))
  first_most s = fewer_most (length (past_blanks s)) (length s) (b (past_blanks s)) (h (past_blanks s)) (blanks_le s)

  more_most : (n : ℕ) (a : List Range) (s : List Placed) → Most (length s) (more b n a s)
  unfolding more
  more_most zero a s = omega arith
  more_most (suc n) a s =
      let end : length s ≤ length s = omega arith in
      most_if (length s) (begins 91 (past_blanks s)) (and_then (b (past_blanks s)) (λ c r. more b n (a ++ c) r))
      (Ok (norm a, s))
      (most_then (length s) (length s) (b (past_blanks s)) (λ c r. more b n (a ++ c) r) (first_most s)
      (λ c q le. most_more (length q) (length s) (more b n (a ++ c) q) (more_most n (a ++ c) q) le)) end

  union_most : (n : ℕ) (s : List Placed) → Most (length s) (union b n s)
  union_most n s = most_then (length s) (length s) (b (past_blanks s)) (more b n) (first_most s)
      (λ c q le. most_more (length q) (length s) (more b n c q) (more_most n c q) le)

  joined_most : (n : ℕ) (a : List Range) (s : List Placed) → Most (length s) (joined b n a s)
  unfolding joined
  joined_most zero a s = tt
  joined_most (suc n) a s =
      let r = past_blanks s in
      let m = length s in
      let go : (List Range → List Range) → Reading =
      λ f. and_then (union b n (rest (rest r))) (λ c q. joined b n (f c) q) in
      let u = blanks_le s in let v = rest_le r in let w = rest_le (rest r) in
      let left : length (rest r) ≤ m = omega arith in
      let far : (f : List Range → List Range) → Most m (go f) = λ f.
      most_then m m (union b n (rest (rest r))) (λ c q. joined b n (f c) q)
      (most_more (length (rest (rest r))) m (union b n (rest (rest r))) (union_most n (rest (rest r))) (omega arith))
      (λ c q le. most_more (length q) m (joined b n (f c) q) (joined_most n (f c) q) le) in
      most_if m (begins 93 r) (Ok (a, rest r)) _ left
      (most_if m (begins 38 r && begins 38 (rest r)) (go (both a)) _ (far (both a))
      (most_if m (begins 45 r && begins 45 (rest r)) (go (without a)) (Err (BadSet (place r))) (far (without a)) tt))

  body_most : (n : ℕ) (s : List Placed) → Most (length s) (body b n s)
  body_most n s =
      most_if (length s) (begins 91 (past_blanks s)) (compound b n s) (list s)
      (most_then (length s) (length s) (union b n s) (joined b n) (union_most n s)
      (λ c q le. most_more (length q) (length s) (joined b n c q) (joined_most n c q) le))
      (list_most s)

  inside_most : (n p : ℕ) (s : List Placed) → Most (length s) (inside b n p s)
  inside_most n p s =
      let a = rest_le s in
      most_if (length s) (is_class s) (class p s) (if begins 94 s then changed others (body b n (rest s))
      else body b n s) (class_most p s)
      (most_if (length s) (begins 94 s) (changed others (body b n (rest s))) (body b n s)
      (most_changed (length s) others (body b n (rest s)) (most_more (length (rest s)) (length s) (body b n (rest s))
      (body_most n (rest s)) (omega arith)))
      (body_most n s))

pub bracket_fewer : (n : ℕ) → Shrinks (bracket n)
unfolding bracket
bracket_fewer zero s = tt
bracket_fewer (suc n) s = elim (cases_Bool (begins 91 s)) [
  | inl e ↦ let shorter = rest_lt 91 s e in
      rw e (most_fewer (length (rest s)) (length s) (inside (bracket n) n (place s) (rest s))
      (inside_most (bracket n) (bracket_fewer n) n (place s) (rest s)) shorter)
  | inr e ↦ rw e tt
]

-- ---- readers that agree on what is left

if_same : (t : Bool) (x y z : Reading) → (t ≡ true → x ≡ y) → (if t then x else z) ≡ (if t then y else z)
if_same true x y z h = h refl
if_same false x y z h = refl

else_same : (t : Bool) (x y z : Reading) → y ≡ z → (if t then x else y) ≡ (if t then x else z)
else_same true x y z h = refl
else_same false x y z h = h

-- the three ways on after a set: its end, and the two operators, each where it reads alike
operators_same : (e b w : Bool) (d n x y u v : Reading) → (b ≡ true → x ≡ y) → (w ≡ true → u ≡ v)
    → (if e then d else if b then x else if w then u else n) ≡ (if e then d else if b then y else if w then v else n)
operators_same e b w d n x y u v h k =
    else_same e d (if b then x else if w then u else n) (if b then y else if w then v else n)
    (if_same b x y (if w then u else n) h ∙ else_same b y (if w then u else n) (if w then v else n) (if_same w u v n k))

then_same : (n : ℕ) (r q : Reading) (f g : List Range → List Placed → Reading) → r ≡ q → Most n r
    → ((a : List Range) (s : List Placed) → length s ≤ n → f a s ≡ g a s) → and_then r f ≡ and_then q g
then_same n (Ok p) q f g e m h = h p.0 p.1 m ∙ ap (λ (x : Reading). and_then x g) e
then_same n (Err k) q f g e m h = ap (λ (x : Reading). and_then x g) e

-- where the first reader leaves fewer than there were
then_fewer : (n : ℕ) (r q : Reading) (f g : List Range → List Placed → Reading) → r ≡ q → Fewer n r
    → ((a : List Range) (s : List Placed) → length s < n → f a s ≡ g a s) → and_then r f ≡ and_then q g
then_fewer n (Ok p) q f g e m h = h p.0 p.1 m ∙ ap (λ (x : Reading). and_then x g) e
then_fewer n (Err k) q f g e m h = ap (λ (x : Reading). and_then x g) e

abbrev Agree : ℕ → (List Placed → Reading) → (List Placed → Reading) → Type 0
Agree n b d = (s : List Placed) → length s ≤ n → b s ≡ d s

agree_below : (n m : ℕ) (b d : List Placed → Reading) → Agree n b d → m ≤ n → Agree m b d
agree_below n m b d h le = λ s k. h s (omega arith)

module _ (b d : List Placed → Reading) (h : Shrinks b) where
  -- after the blanks one is read, and then the others
  first_same : (s : List Placed) (f e : List Range → List Placed → Reading) → Agree (length s) b d
      → ((c : List Range) (q : List Placed) → length q < length s → f c q ≡ e c q)
      → and_then (b (past_blanks s)) f ≡ and_then (d (past_blanks s)) e
  first_same s f e g next =
      let r = past_blanks s in
      let le = blanks_le s in
      then_fewer (length r) (b r) (d r) f e (g r le) (h r) (λ c q less. next c q (omega arith))

  more_same : (n k : ℕ) (a : List Range) (s : List Placed) → Agree (length s) b d → length s < n → length s < k
      → more b n a s ≡ more d k a s
  unfolding more
  more_same zero k a s g lt gt = absurd (omega arith)
  more_same (suc n) zero a s g lt gt = absurd (omega arith)
  more_same (suc n) (suc k) a s g lt gt =
      if_same (begins 91 (past_blanks s)) _ _ (Ok (norm a, s))
      (λ _. first_same s (λ c q. more b n (a ++ c) q) (λ c q. more d k (a ++ c) q) g
      (λ c q less. more_same n k (a ++ c) q (agree_below (length s) (length q) b d g (omega arith)) (omega arith)
      (omega arith)))

  union_same : (n k : ℕ) (s : List Placed) → Agree (length s) b d → length s < n → length s < k
      → union b n s ≡ union d k s
  union_same n k s g lt gt =
      first_same s (more b n) (more d k) g
      (λ c q less. more_same n k c q (agree_below (length s) (length q) b d g (omega arith)) (omega arith)
      (omega arith))

  joined_same : (n k : ℕ) (a : List Range) (s : List Placed) → Agree (length s) b d → length s < n → length s < k
      → joined b n a s ≡ joined d k a s
  unfolding joined
  joined_same zero k a s g lt gt = absurd (omega arith)
  joined_same (suc n) zero a s g lt gt = absurd (omega arith)
  joined_same (suc n) (suc k) a s g lt gt =
      let r = past_blanks s in
      let far = rest (rest r) in
      let le = blanks_le s in let le1 = rest_le r in let le2 = rest_le (rest r) in
      let go : (List Range → List Range) → Reading = λ f. and_then (union b n far) (λ c q. joined b n (f c) q) in
      let own : (List Range → List Range) → Reading = λ f. and_then (union d k far) (λ c q. joined d k (f c) q) in
      let by : (c : ℕ) (f : List Range → List Range) → (begins c r && begins c (rest r)) ≡ true → go f ≡ own f =
      λ c f e.
      let less = rest_lt c r (and_parts (begins c r) (begins c (rest r)) e).0 in
      then_same (length far) (union b n far) (union d k far) (λ c q. joined b n (f c) q) (λ c q. joined d k (f c) q)
      (union_same n k far (agree_below (length s) (length far) b d g (omega arith)) (omega arith) (omega arith))
      (union_most b h n far)
      (λ c q most. joined_same n k (f c) q (agree_below (length s) (length q) b d g (omega arith)) (omega arith)
      (omega arith)) in
      operators_same (begins 93 r) (begins 38 r && begins 38 (rest r)) (begins 45 r && begins 45 (rest r))
      (Ok (a, rest r)) (Err (BadSet (place r)))
      (go (both a)) (own (both a)) (go (without a)) (own (without a)) (by 38 (both a)) (by 45 (without a))

  body_same : (n k : ℕ) (s : List Placed) → Agree (length s) b d → length s < n → length s < k → body b n s ≡ body d k s
  body_same n k s g lt gt =
      if_same (begins 91 (past_blanks s)) (compound b n s) (compound d k s) (list s) (λ _.
      then_same (length s) (union b n s) (union d k s) (joined b n) (joined d k) (union_same n k s g lt gt)
      (union_most b h n s)
      (λ c q le. joined_same n k c q (agree_below (length s) (length q) b d g le) (omega arith) (omega arith)))

  inside_same : (n k p : ℕ) (s : List Placed) → Agree (length s) b d → length s < n → length s < k
      → inside b n p s ≡ inside d k p s
  inside_same n k p s g lt gt =
      let le = rest_le s in
      let e = body_same n k (rest s) (agree_below (length s) (length (rest s)) b d g le) (omega arith) (omega arith) in
      else_same (is_class s) (class p s) (if begins 94 s then changed others (body b n (rest s))
      else body b n s) (if begins 94 s then changed others (body d k (rest s)) else body d k s)
      (if_same (begins 94 s) (changed others (body b n (rest s))) (changed others (body d k (rest s))) (body b n s)
      (λ _. ap (changed others) e)
      ∙ else_same (begins 94 s) (changed others (body d k (rest s))) (body b n s) (body d k s)
      (body_same n k s g lt gt))

-- ---- a bracket is read alike with any number that is large enough

pub bracket_same : (n k : ℕ) (s : List Placed) → length s < n → length s < k → bracket n s ≡ bracket k s
unfolding bracket
bracket_same zero k s lt gt = absurd (omega arith)
bracket_same (suc n) zero s lt gt = absurd (omega arith)
bracket_same (suc n) (suc k) s lt gt =
    if_same (begins 91 s) (inside (bracket n) n (place s) (rest s)) (inside (bracket k) k (place s) (rest s))
    (Err (BadSet (place s))) (λ e.
    let less = rest_lt 91 s e in
    inside_same (bracket n) (bracket k) (bracket_fewer n) n k (place s) (rest s)
    (λ r le. bracket_same n k r (omega arith) (omega arith)) (omega arith) (omega arith))

pub reading_fewer : Shrinks reading
reading_fewer s = bracket_fewer (suc (length s)) s

reading_agree : (n m : ℕ) → m < n → Agree m (bracket n) reading
reading_agree n m lt s le = bracket_same n (suc (length s)) s (omega arith) (omega arith)

-- the parts, with the readers that need no bound
content_same : (n k : ℕ) (s : List Placed) → length s < n → length s < k → body (bracket n) k s ≡ content s
content_same n k s lt gt =
    let m = suc (length s) in
    body_same (bracket n) reading (bracket_fewer n) k m s (reading_agree n (length s) lt) gt (omega arith)
    ∙ if_same (begins 91 (past_blanks s)) (compound reading m s) (and_then (side s) joins) (list s) (λ _.
    then_same (length s) (union reading m s) (side s) (joined reading m) joins
    (then_fewer (length (past_blanks s)) (reading (past_blanks s)) (reading (past_blanks s)) (more reading m) further
    refl (reading_fewer (past_blanks s))
    (λ c q less. let le = blanks_le s in
    more_same reading reading reading_fewer m (suc (length q)) c q (λ _ _. refl) (omega arith) (omega arith)))
    (union_most reading reading_fewer m s)
    (λ c q le. joined_same reading reading reading_fewer m (suc (length q)) c q (λ _ _. refl) (omega arith)
    (omega arith)))

side_same : (n : ℕ) (s : List Placed) → length s < n → union reading n s ≡ side s
side_same n s lt =
    then_fewer (length (past_blanks s)) (reading (past_blanks s)) (reading (past_blanks s)) (more reading n) further
    refl (reading_fewer (past_blanks s))
    (λ c q less. let le = blanks_le s in
    more_same reading reading reading_fewer n (suc (length q)) c q (λ _ _. refl) (omega arith) (omega arith))

-- ---- the readings without a bound

escaped_len : (p : ℕ) (o : Option (ℕ × ℕ)) (f : ℕ → List Placed) (n : ℕ) → ((k : ℕ) → length (f k) ≤ n) → 1 ≤ n
    → length (escaped p o f) ≤ suc n
escaped_len p None f n h le = omega arith
escaped_len p (Some x) f n h le = let g = h x.1 in omega arith

symbols_len : (k p : ℕ) (cs : List ℕ) → length (symbols k p cs) ≤ suc (length cs)
unfolding symbols
symbols_len k p [] = omega arith
symbols_len (suc k) p (c ∷ cs) = let h = symbols_len k (p + len_utf8 c) cs in omega arith
symbols_len zero p (c ∷ cs) =
    let plain = symbols_len 0 (p + len_utf8 c) cs in
    len_if (nat_eq c 92) (escaped p (escape cs) (λ k. symbols k (p + 1) cs))
    ((p, Plain c) ∷ symbols 0 (p + len_utf8 c) cs) (suc (suc (length cs)))
    (escaped_len p (escape cs) (λ k. symbols k (p + 1) cs) (suc (length cs)) (λ k. symbols_len k (p + 1) cs)
    (omega arith)) (omega arith)

size_least : (t : List ℕ) → length t ≤ at t (length t)
size_least [] = omega arith
size_least (c ∷ cs) = let h = size_least cs in let k = len_utf8_bounds c in omega arith

text_len : (t : List ℕ) → length (symbols_from t 0) ≤ suc (size t)
text_len t = let h = symbols_len 0 0 (drop (index t 0) t) in let k = size_least t in
    omega (arith, length-drop (index t 0) t)

pub brackets_law : (s : List Placed) → reading s ≡ (if begins 91 s
    then (if is_class (rest s) then class (place s) (rest s)
    else (if begins 94 (rest s) then changed others (content (rest (rest s))) else content (rest s)))
    else Err (BadSet (place s)))
unfolding bracket
brackets_law s =
    let n = length s in
    if_same (begins 91 s) (inside (bracket n) n (place s) (rest s)) _ (Err (BadSet (place s))) (λ e.
    let less = rest_lt 91 s e in let le = rest_le (rest s) in
    else_same (is_class (rest s)) (class (place s) (rest s)) (if begins 94 (rest s)
    then changed others (body (bracket n) n (rest (rest s))) else body (bracket n) n (rest s)) _
    (if_same (begins 94 (rest s)) (changed others (body (bracket n) n (rest (rest s))))
    (changed others (content (rest (rest s)))) (body (bracket n) n (rest s))
    (λ _. ap (changed others) (content_same n n (rest (rest s)) (omega arith) (omega arith)))
    ∙ else_same (begins 94 (rest s)) (changed others (content (rest (rest s)))) (body (bracket n) n (rest s))
    (content (rest s)) (content_same n n (rest s) (omega arith) (omega arith))))

pub union_law : (a : List Range) (s : List Placed) → further a s ≡ (if begins 91 (past_blanks s)
    then and_then (reading (past_blanks s)) (λ c r. further (a ++ c) r)
    else Ok (norm a, s))
unfolding more
union_law a s =
    let r = past_blanks s in
    let n = length s in
    let le = blanks_le s in
    if_same (begins 91 r) (and_then (reading r) (λ c q. more reading n (a ++ c) q))
    (and_then (reading r) (λ c q. further (a ++ c) q)) (Ok (norm a, s)) (λ _.
    then_fewer (length r) (reading r) (reading r) (λ c q. more reading n (a ++ c) q) (λ c q. further (a ++ c) q) refl
    (reading_fewer r)
    (λ c q less. more_same reading reading reading_fewer n (suc (length q)) (a ++ c) q (λ _ _. refl) (omega arith)
    (omega arith)))

pub operators_law : (a : List Range) (s : List Placed) → joins a s ≡ (let r = past_blanks s in if begins 93 r
    then Ok (a, rest r)
    else (if begins 38 r && begins 38 (rest r) then and_then (side (rest (rest r))) (λ c q. joins (both a c) q)
    else (if begins 45 r && begins 45 (rest r) then and_then (side (rest (rest r))) (λ c q. joins (without a c) q)
    else Err (BadSet (place r)))))
unfolding joined
operators_law a s =
    let n = length s in
    let r = past_blanks s in
    let far = rest (rest r) in
    let le = blanks_le s in let le1 = rest_le r in let le2 = rest_le (rest r) in
    let go : (List Range → List Range) → Reading =
    λ f. and_then (union reading n far) (λ c q. joined reading n (f c) q) in
    let own : (List Range → List Range) → Reading = λ f. and_then (side far) (λ c q. joins (f c) q) in
    let by : (c : ℕ) (f : List Range → List Range) → (begins c r && begins c (rest r)) ≡ true → go f ≡ own f = λ c f e.
    let less = rest_lt c r (and_parts (begins c r) (begins c (rest r)) e).0 in
    then_same (length far) (union reading n far) (side far) (λ c q. joined reading n (f c) q) (λ c q. joins (f c) q)
    (side_same n far (omega arith)) (union_most reading reading_fewer n far)
    (λ c q most. joined_same reading reading reading_fewer n (suc (length q)) (f c) q (λ _ _. refl) (omega arith)
    (omega arith)) in
    operators_same (begins 93 r) (begins 38 r && begins 38 (rest r)) (begins 45 r && begins 45 (rest r))
    (Ok (a, rest r)) (Err (BadSet (place r)))
    (go (both a)) (own (both a)) (go (without a)) (own (without a)) (by 38 (both a)) (by 45 (without a))

abbrev Read : Type 0
Read = Result (List Range × Bool) SetFault

read_if : (t : Bool) (x y z w : Read) → (t ≡ true → x ≡ y) → z ≡ w → (if t then x else z) ≡ (if t then y else w)
read_if true x y z w h k = h refl
read_if false x y z w h k = k

pub text_law : (t : List ℕ) → bracket_of t ≡ (let s = symbols_from t 0 in if begins 91 s
    then (if is_class (rest s) then marked false (class (place s) (rest s))
    else (if begins 94 (rest s) then marked true (content (rest (rest s))) else marked false (content (rest s))))
    else Err (BadSet (place s)))
text_law t =
    let s = symbols_from t 0 in
    let n = suc (size t) in
    let len = text_len t in
    read_if (begins 91 s) (outermost n (place s) (rest s)) _ (Err (BadSet (place s))) (Err (BadSet (place s))) (λ e.
    let less = rest_lt 91 s e in let le = rest_le (rest s) in
    read_if (is_class (rest s)) (marked false (class (place s) (rest s))) (marked false (class (place s) (rest s))) _ _
    (λ _. refl)
    (read_if (begins 94 (rest s)) (marked true (body (bracket n) n (rest (rest s))))
    (marked true (content (rest (rest s)))) (marked false (body (bracket n) n (rest s)))
    (marked false (content (rest s)))
    (λ _. ap (marked true) (content_same n n (rest (rest s)) (omega arith) (omega arith)))
    (ap (marked false) (content_same n n (rest s) (omega arith) (omega arith))))) refl
