-- The stack of open compounds, step by step.
use Rattle.std.proofs.Common.{◌≡◌, ℕ, zero, suc, ◌≤◌, List, [], ◌∷◌, ◌++◌, length, Option, Some, None, refl, sym, ap}
use Rattle.std.proofs.Common.{ap₂, ◌∙◌, arith}
use Rattle.std.specs.Prelude.{Bool, true, false, not, ◌&&◌, ◌||◌, ◌≢◌, if◌then◌else◌, is_some, Result, Ok, Err, IfOk}
use Rattle.std.proofs.lemmas.Bool.{cond-true, cond-false}
use Rattle.regex_class.specs.Ranges.{Range, in_ranges}
use Rattle.regex_class.proofs.RangesLemmas.{in_ranges-nil, in_ranges-append, same_members-same}
use Rattle.rpl_classes.specs.Sets.{is_char}
use Rattle.rpl_classes.specs.Norm.{norm}
use Rattle.rpl_classes.specs.Algebra.{both, others, without}
use Rattle.rpl_classes.specs.Symbols.{Placed, symbols_from, place, rest, begins, past_blanks}
use Rattle.rpl_classes.specs.Lists.{Reading, and_then}
use Rattle.rpl_classes.specs.Brackets.{more}
use Rattle.rpl_classes.specs.Laws.{reading, further, side, joins}
use Rattle.rpl_classes.specs.inside.Operators.{applied, OperatorAt}
use Rattle.rpl_classes.specs.inside.Stack.{signed, left_set, joined_by, framed, resume, opened, Begins, GoesBehind}
use Rattle.rpl_classes.specs.inside.Stack.{GivesSet}
use Rattle.rpl_classes.specs.declared.compounds.Operator.{Operator}
use Rattle.rpl_classes.specs.declared.compounds.Operator.TheVariants.{Both, Without}
use Rattle.rpl_classes.specs.inside.Scanned.{Accepts}
use Rattle.rpl_classes.specs.declared.compounds.Left.{Left}
use Rattle.rpl_classes.specs.declared.compounds.Before.{Before}
use Rattle.rpl_classes.specs.declared.compounds.Open.{Open}
use Rattle.rpl_classes.specs.declared.compounds.Next.{Next}
use Rattle.rpl_classes.specs.declared.compounds.Next.TheVariants.{Bracket, End}
use Rattle.rpl_classes.specs.declared.fault.SetFault.{SetFault}
use Rattle.rpl_classes.specs.declared.fault.SetFault.TheVariants.{NoMemory, BadSet}
use Rattle.std.specs.Result.{IsErrAnd}
use Rattle.rpl_classes.specs.declared.brackets.Begun.{Begun}
use Rattle.rpl_classes.specs.declared.brackets.Begun.TheVariants.{Whole, Compound}
use Rattle.rpl_classes.proofs.Gathering.{norm_front}
use Rattle.rpl_classes.proofs.Normal.{norm_normal, norm_members}
use Rattle.rpl_classes.proofs.Operations.{without_members, both_members, others_members, without_normal, both_normal}
use Rattle.rpl_classes.proofs.Fuel.{union_law, operators_law}
use Rattle.rpl_classes.proofs.ListSteps.{place_from}

-- ---- what is left of some ranges

none_taken : (k a : Bool) → (k && (a && not false)) ≡ (k && a)
none_taken true true = refl
none_taken true false = refl
none_taken false a = refl

pub without_none : (a : List Range) → without a [] ≡ norm a
without_none a = same_members-same (without a []) (norm a) (without_normal a []).rises (norm_normal a).rises
    (λ c le. without_members a [] c ∙ (ap (λ x. is_char c && (in_ranges a c && not x)) (in_ranges-nil c)
    ∙ (none_taken (is_char c) (in_ranges a c) ∙ sym (norm_members a c))))

less_twice : (k a t u : Bool) → (k && (a && not (t || u))) ≡ (k && ((k && (a && not t)) && not (k && u)))
less_twice true true true u = refl
less_twice true true false u = refl
less_twice true false t u = refl
less_twice false a t u = refl

-- taking more away is taking it from what is left
pub without_more : (a t u : List Range) → without a (t ++ u) ≡ without (without a t) (norm u)
without_more a t u =
    same_members-same (without a (t ++ u)) (without (without a t) (norm u)) (without_normal a (t ++ u)).rises
    (without_normal (without a t) (norm u)).rises
    (λ c le. without_members a (t ++ u) c ∙ (ap (λ x. is_char c && (in_ranges a c && not x)) (in_ranges-append t u c)
    ∙ (less_twice (is_char c) (in_ranges a c) (in_ranges t c) (in_ranges u c)
    ∙ (ap₂ (λ x y. is_char c && (x && not y)) (sym (without_members a t c)) (sym (norm_members u c))
    ∙ sym (without_members (without a t) (norm u) c)))))

keep_twice : (k a t u : Bool) → (k && (a && not (t || (k && not u)))) ≡ (k && ((k && (a && not t)) && u))
keep_twice true true true u = refl
keep_twice true true false true = refl
keep_twice true true false false = refl
keep_twice true false t u = refl
keep_twice false a t u = refl

-- taking the others away is keeping what is in both
pub without_others : (a t u : List Range) → without a (t ++ others u) ≡ both (without a t) u
without_others a t u =
    same_members-same (without a (t ++ others u)) (both (without a t) u) (without_normal a (t ++ others u)).rises
    (both_normal (without a t) u).rises
    (λ c le. without_members a (t ++ others u) c
    ∙ (ap (λ x. is_char c && (in_ranges a c && not x)) (in_ranges-append t (others u) c
    ∙ ap (λ y. in_ranges t c || y) (others_members u c))
    ∙ (keep_twice (is_char c) (in_ranges a c) (in_ranges t c) (in_ranges u c)
    ∙ (ap (λ x. is_char c && (x && in_ranges u c)) (sym (without_members a t c))
    ∙ sym (both_members (without a t) u c)))))

norm_less : (k a t : Bool) → (k && ((k && a) && not (k && t))) ≡ (k && (a && not t))
norm_less true a t = refl
norm_less false a t = refl

pub without_norms : (a t : List Range) → without (norm a) (norm t) ≡ without a t
without_norms a t =
    same_members-same (without (norm a) (norm t)) (without a t) (without_normal (norm a) (norm t)).rises
    (without_normal a t).rises
    (λ c le. without_members (norm a) (norm t) c
    ∙ (ap₂ (λ x y. is_char c && (x && not y)) (norm_members a c) (norm_members t c)
    ∙ (norm_less (is_char c) (in_ranges a c) (in_ranges t c) ∙ sym (without_members a t c))))

-- what is taken counts by its normal form alone
without_alike : (a t u : List Range) → norm t ≡ norm u → without a t ≡ without a u
without_alike a t u e = sym (without_norms a t) ∙ (ap (without (norm a)) e ∙ without_norms a u)

-- ---- unions with one normal form

next_alike : (r : Reading) (f g : List Range → List Placed → Reading)
    → ((c : List Range) (s : List Placed) → f c s ≡ g c s) → and_then r f ≡ and_then r g
next_alike (Ok (c, s)) f g h = h c s
next_alike (Err e) f g h = refl

more_alike : (n : ℕ) (a b : List Range) (s : List Placed) → norm a ≡ norm b → more reading n a s ≡ more reading n b s
unfolding more
more_alike zero a b s e = ap (λ x. Ok (x, s)) e
more_alike (suc n) a b s e =
    ap₂ (λ x y. if begins 91 (past_blanks s) then x else Ok (y, s))
    (next_alike (reading (past_blanks s)) (λ c r. more reading n (a ++ c) r) (λ c r. more reading n (b ++ c) r)
    (λ c r. more_alike n (a ++ c) (b ++ c) r (norm_front a b c e))) e

further_alike : (a b : List Range) (s : List Placed) → norm a ≡ norm b → further a s ≡ further b s
further_alike a b s e = more_alike (suc (length s)) a b s e

-- ---- frames

pub framed_err : (o : Open) (e : SetFault) → framed o (Err e) ≡ Err e
framed_err o e = by o.negated
  where
    by : (n : Bool) → ◌≡◌ {A = Reading} (if n then Err e else Err e) (Err e)
    by true = refl
    by false = refl

pub resume_err : (os : List Open) (e : SetFault) → resume os (Err e) ≡ Err e
resume_err [] e = refl
resume_err (o ∷ os) e = ap (framed o) (resume_err os e) ∙ framed_err o e

pub resume_push : (os : List Open) (o : Open) (r : Reading) → resume (os ++ o ∷ []) r ≡ resume os (framed o r)
resume_push [] o r = refl
resume_push (p ∷ os) o r = ap (framed p) (resume_push os o r)

-- a compound that has just begun
pub frame_begins : (t : List ℕ) (q : ℕ) (o : Open) (negated : Bool) → o.negated ≡ negated → o.before ≡ None
    → o.union ≡ [] → signed negated (opened t q) ≡ framed o (reading (symbols_from t q))
frame_begins t q o negated n b u =
    ap (λ x. signed x (opened t q)) (sym n)
    ∙ (ap (λ x. signed o.negated (and_then (and_then (reading (symbols_from t q)) (λ c s. further (x ++ c) s)) joins))
    (sym u)
    ∙ ap (λ x. signed o.negated (and_then (and_then (reading (symbols_from t q)) (λ c s. further (o.union ++ c) s))
    (λ a s. joins (joined_by x a) s))) (sym b))

-- the rest of a compound, after the ranges u of its union at the symbols s
abbrev tail : Bool → (List Range → List Range) → List Range → List Placed → Reading
tail negated f u s = signed negated (and_then (further u s) (λ a q. joins (f a) q))

-- another bracket beside it
pub tail_member : (t : List ℕ) (p h : ℕ) (negated : Bool) (f : List Range → List Range) (u : List Range)
    → past_blanks (symbols_from t p) ≡ symbols_from t h → begins 91 (symbols_from t h) ≡ true
    → tail negated f u (symbols_from t p)
    ≡ signed negated (and_then (and_then (reading (symbols_from t h)) (λ c s. further (u ++ c) s))
    (λ a s. joins (f a) s))
tail_member t p h negated f u e b =
    let s = symbols_from t p in
    ap (λ (x : Reading). signed negated (and_then x (λ a q. joins (f a) q)))
    (union_law u s ∙ (cond-true (begins 91 (past_blanks s))
    (and_then (reading (past_blanks s)) (λ c r. further (u ++ c) r)) (Ok (norm u, s)) (ap (begins 91) e ∙ b)
    ∙ ap (λ x. and_then (reading x) (λ c r. further (u ++ c) r)) e))

-- no further bracket: the union's set is joined
tail_joins : (t : List ℕ) (p h : ℕ) (negated : Bool) (f : List Range → List Range) (u : List Range)
    → past_blanks (symbols_from t p) ≡ symbols_from t h → begins 91 (symbols_from t h) ≡ false
    → tail negated f u (symbols_from t p) ≡ signed negated (joins (f (norm u)) (symbols_from t p))
tail_joins t p h negated f u e b =
    let s = symbols_from t p in
    ap (λ (x : Reading). signed negated (and_then x (λ a q. joins (f a) q)))
    (union_law u s ∙ cond-false (begins 91 (past_blanks s))
    (and_then (reading (past_blanks s)) (λ c r. further (u ++ c) r)) (Ok (norm u, s)) (ap (begins 91) e ∙ b))

-- what follows a union, by the symbol after the blanks
abbrev taking : List Range → List Placed → Reading
taking a r = if begins 45 r && begins 45 (rest r) then and_then (side (rest (rest r))) (λ c q. joins (without a c) q)
    else Err (BadSet (place r))

abbrev keeping : List Range → List Placed → Reading
keeping a r = if begins 38 r && begins 38 (rest r) then and_then (side (rest (rest r))) (λ c q. joins (both a c) q)
    else taking a r

abbrev closing : List Range → List Placed → Reading
closing a r = if begins 93 r then Ok (a, rest r) else keeping a r

joins_at : (t : List ℕ) (p h : ℕ) (a : List Range) → past_blanks (symbols_from t p) ≡ symbols_from t h
    → joins a (symbols_from t p) ≡ closing a (symbols_from t h)
joins_at t p h a e = operators_law a (symbols_from t p) ∙ ap (closing a) e

signed_set : (negated : Bool) (a b : List Range) (s : List Placed) → b ≡ (if negated then others a else a)
    → signed negated (Ok (a, s)) ≡ Ok (b, s)
signed_set true a b s e = ap (λ x. Ok (x, s)) (sym e)
signed_set false a b s e = ap (λ x. Ok (x, s)) (sym e)

pub tail_closes : (t : List ℕ) (p h q : ℕ) (negated : Bool) (f : List Range → List Range) (u b : List Range)
    → past_blanks (symbols_from t p) ≡ symbols_from t h → begins 91 (symbols_from t h) ≡ false
    → begins 93 (symbols_from t h) ≡ true → rest (symbols_from t h) ≡ symbols_from t q
    → b ≡ (if negated then others (f (norm u)) else f (norm u))
    → tail negated f u (symbols_from t p) ≡ Ok (b, symbols_from t q)
tail_closes t p h q negated f u b e n c r g =
    let s = symbols_from t h in
    let a = f (norm u) in
    tail_joins t p h negated f u e n
    ∙ (ap (signed negated) (joins_at t p h a e ∙ (cond-true (begins 93 s) (Ok (a, rest s)) (keeping a s) c
    ∙ ap (λ (x : List Placed). Ok (a, x)) r))
    ∙ signed_set negated a b (symbols_from t q) g)

signed_err : (negated : Bool) (e : SetFault) → signed negated (Err e) ≡ Err e
signed_err true e = refl
signed_err false e = refl

pub tail_bad : (t : List ℕ) (p h : ℕ) (negated : Bool) (f : List Range → List Range) (u : List Range)
    → past_blanks (symbols_from t p) ≡ symbols_from t h → begins 91 (symbols_from t h) ≡ false
    → begins 93 (symbols_from t h) ≡ false → (begins 38 (symbols_from t h) && begins 38 (rest (symbols_from t h)))
    ≡ false → (begins 45 (symbols_from t h) && begins 45 (rest (symbols_from t h))) ≡ false
    → tail negated f u (symbols_from t p) ≡ Err (BadSet h)
tail_bad t p h negated f u e n c x y =
    let s = symbols_from t h in
    let a = f (norm u) in
    tail_joins t p h negated f u e n
    ∙ (ap (signed negated) (joins_at t p h a e ∙ (cond-false (begins 93 s) (Ok (a, rest s)) (keeping a s) c
    ∙ (cond-false (begins 38 s && begins 38 (rest s)) (and_then (side (rest (rest s))) (λ d q. joins (both a d) q))
    (taking a s) x
    ∙ (cond-false (begins 45 s && begins 45 (rest s)) (and_then (side (rest (rest s))) (λ d q. joins (without a d) q))
    (Err (BadSet (place s))) y ∙ ap (λ k. Err (BadSet k)) (place_from t h)))))
    ∙ signed_err negated (BadSet h))

-- an operator, and the union after it
joins_goes : (t : List ℕ) (p h q : ℕ) (o : Operator) (a : List Range)
    → past_blanks (symbols_from t p) ≡ symbols_from t h → begins 93 (symbols_from t h) ≡ false
    → OperatorAt t h (Some (o, q))
    → joins a (symbols_from t p) ≡ and_then (side (symbols_from t q)) (λ c s. joins (applied o a c) s)
joins_goes t p h q Both a e f g =
    let s = symbols_from t h in
    joins_at t p h a e ∙ (cond-false (begins 93 s) (Ok (a, rest s)) (keeping a s) f
    ∙ (cond-true (begins 38 s && begins 38 (rest s)) (and_then (side (rest (rest s))) (λ c r. joins (both a c) r))
    (taking a s) g.0
    ∙ ap (λ x. and_then (side x) (λ c r. joins (both a c) r)) g.1.left))
joins_goes t p h q Without a e f g =
    let s = symbols_from t h in
    joins_at t p h a e ∙ (cond-false (begins 93 s) (Ok (a, rest s)) (keeping a s) f
    ∙ (cond-false (begins 38 s && begins 38 (rest s)) (and_then (side (rest (rest s))) (λ c r. joins (both a c) r))
    (taking a s) g.0
    ∙ (cond-true (begins 45 s && begins 45 (rest s)) (and_then (side (rest (rest s))) (λ c r. joins (without a c) r))
    (Err (BadSet (place s))) g.1
    ∙ ap (λ x. and_then (side x) (λ c r. joins (without a c) r)) g.2.left)))

pub tail_operator : (t : List ℕ) (p h q n : ℕ) (o : Operator) (negated : Bool) (f : List Range → List Range) (u a :
    List Range) → past_blanks (symbols_from t p) ≡ symbols_from t h
    → begins 91 (symbols_from t h) ≡ false → begins 93 (symbols_from t h) ≡ false → OperatorAt t h (Some (o, q))
    → past_blanks (symbols_from t q) ≡ symbols_from t n → a ≡ f (norm u)
    → tail negated f u (symbols_from t p)
    ≡ signed negated (and_then (and_then (reading (symbols_from t n)) further) (λ c s. joins (applied o a c) s))
tail_operator t p h q n o negated f u a e b c g k j =
    tail_joins t p h negated f u e b
    ∙ (ap (signed negated) (joins_goes t p h q o (f (norm u)) e c g)
    ∙ (ap (λ x. signed negated (and_then (and_then (reading x) further) (λ d s. joins (applied o (f (norm u)) d) s))) k
    ∙ ap (λ x. signed negated (and_then (and_then (reading (symbols_from t n)) further)
    (λ d s. joins (applied o x d) s))) (sym j)))

-- ---- steps, where w is the compound o with one more bracket

pub record Grown (o w : Open) (a : List Range) : Type 0 where
  pub negated : w.negated ≡ o.negated
  pub before : w.before ≡ o.before
  pub union : norm w.union ≡ norm (o.union ++ a)

pub grown : (o w : Open) (a : List Range) → w.negated ≡ o.negated → w.before ≡ o.before
    → norm w.union ≡ norm (o.union ++ a) → Grown o w a
grown o w a n b u = record { negated = n; before = b; union = u }

grown_tail : (o w : Open) (a : List Range) (s : List Placed) → Grown o w a
    → framed o (Ok (a, s)) ≡ tail w.negated (joined_by w.before) w.union s
grown_tail o w a s g =
    ap (λ (x : Reading). signed o.negated (and_then x (λ c q. joins (joined_by o.before c) q)))
    (further_alike (o.union ++ a) w.union s (sym g.union))
    ∙ (ap (λ x. tail o.negated (joined_by x) w.union s) (sym g.before)
    ∙ ap (λ x. tail x (joined_by w.before) w.union s) (sym g.negated))

pub step_member : (t : List ℕ) (p h : ℕ) (o w : Open) (a : List Range) → Grown o w a
    → past_blanks (symbols_from t p) ≡ symbols_from t h → begins 91 (symbols_from t h) ≡ true
    → framed o (Ok (a, symbols_from t p)) ≡ framed w (reading (symbols_from t h))
step_member t p h o w a g e b = grown_tail o w a (symbols_from t p) g
    ∙ tail_member t p h w.negated (joined_by w.before) w.union e b

pub step_closes : (t : List ℕ) (p h q : ℕ) (o w : Open) (a b s l : List Range) → Grown o w a
    → past_blanks (symbols_from t p) ≡ symbols_from t h → begins 91 (symbols_from t h) ≡ false
    → begins 93 (symbols_from t h) ≡ true → rest (symbols_from t h) ≡ symbols_from t q
    → l ≡ joined_by w.before (norm w.union) → s ≡ l → b ≡ (if w.negated then others s else s)
    → framed o (Ok (a, symbols_from t p)) ≡ Ok (b, symbols_from t q)
step_closes t p h q o w a b s l g e n c r j k m =
    grown_tail o w a (symbols_from t p) g
    ∙ tail_closes t p h q w.negated (joined_by w.before) w.union b e n c r (m
    ∙ ap (λ x. if w.negated then others x else x) (k ∙ j))

pub step_bad : (t : List ℕ) (p h : ℕ) (o w : Open) (a : List Range) → Grown o w a
    → past_blanks (symbols_from t p) ≡ symbols_from t h → begins 91 (symbols_from t h) ≡ false
    → begins 93 (symbols_from t h) ≡ false → OperatorAt t h None → framed o (Ok (a, symbols_from t p)) ≡ Err (BadSet h)
step_bad t p h o w a g e n c x = grown_tail o w a (symbols_from t p) g
    ∙ tail_bad t p h w.negated (joined_by w.before) w.union e n c x.0 x.1

pub step_operator : (t : List ℕ) (p h q n : ℕ) (k : Operator) (o w v : Open) (a l : List Range) → Grown o w a
    → past_blanks (symbols_from t p) ≡ symbols_from t h → begins 91 (symbols_from t h) ≡ false
    → begins 93 (symbols_from t h) ≡ false → OperatorAt t h (Some (k, q))
    → past_blanks (symbols_from t q) ≡ symbols_from t n → l ≡ joined_by w.before (norm w.union)
    → v.negated ≡ w.negated → joined_by v.before ≡ applied k l → v.union ≡ []
    → framed o (Ok (a, symbols_from t p)) ≡ framed v (reading (symbols_from t n))
step_operator t p h q n k o w v a l g e b c x y j m i u =
    grown_tail o w a (symbols_from t p) g
    ∙ (tail_operator t p h q n k w.negated (joined_by w.before) w.union l e b c x y j
    ∙ (ap (λ z. signed z (and_then (and_then (reading (symbols_from t n)) further) (λ d s. joins (applied k l d) s)))
    (sym m)
    ∙ (ap (λ z. signed v.negated (and_then (and_then (reading (symbols_from t n)) (λ d s. further (z ++ d) s))
    (λ d s. joins (applied k l d) s))) (sym u)
    ∙ ap (λ (f : List Range → List Range). signed v.negated
    (and_then (and_then (reading (symbols_from t n)) (λ d s. further (v.union ++ d) s)) (λ d s. joins (f d) s)))
    (sym i))))

pub accept_some : (t : List ℕ) (p c : ℕ) (o : Option ℕ) → Accepts t p c o → is_some o ≡ true
    → begins c (symbols_from t p) ≡ true
accept_some t p c (Some q) h e = h.0
accept_some t p c None h e = absurd (cc)

pub accept_none : (t : List ℕ) (p c : ℕ) (o : Option ℕ) → Accepts t p c o → is_some o ≡ false
    → begins c (symbols_from t p) ≡ false
accept_none t p c (Some q) h e = absurd (cc)
accept_none t p c None h e = h

-- ---- joining

pub joined_none : (b : Option Before) (u t : List Range) → b ≡ None → t ≡ [] → without u t ≡ joined_by b (norm u)
joined_none b u t e n = ap (without u) n ∙ (without_none u ∙ sym (ap (λ x. joined_by x (norm u)) e))

pub joined_without : {E : Type 0} (r : Result Left E) (l : Left) (u us : List Range) → us ≡ u
    → IfOk r (λ m. m.kept ≡ l.kept) → IfOk r (λ m. norm m.taken ≡ norm (l.taken ++ us))
    → IfOk r (λ m. left_set m ≡ without (left_set l) (norm u))
joined_without (Ok m) l u us e k t =
    ap (λ x. without x m.taken) k ∙ without_alike l.kept m.taken (l.taken ++ u) (t ∙ ap (λ x. norm (l.taken ++ x)) e)
    ∙ without_more l.kept l.taken u
joined_without (Err _) l u us e k t = tt

pub joined_both : {E : Type 0} (r : Result Left E) (l : Left) (u : List Range) → IfOk r (λ m. m.kept ≡ l.kept)
    → IfOk r (λ m. norm m.taken ≡ norm (l.taken ++ others u))
    → IfOk r (λ m. left_set m ≡ both (left_set l) u)
joined_both (Ok m) l u k t = ap (λ x. without x m.taken) k ∙ without_alike l.kept m.taken (l.taken ++ others u) t
    ∙ without_others l.kept l.taken u
joined_both (Err _) l u k t = tt

-- what is left, as a set
pub left_whole : (l : Left) (s : List Range) → s ≡ norm l.kept → l.taken ≡ [] → s ≡ left_set l
left_whole l s e n = e ∙ (sym (without_none l.kept) ∙ ap (without l.kept) (sym n))

pub left_less : {E : Type 0} (l : Left) (k t : List Range) (r : Result (List Range) E) → k ≡ norm l.kept
    → t ≡ norm l.taken → IfOk r (λ s. s ≡ without k t) → IfOk r (λ s. s ≡ left_set l)
left_less l k t (Ok s) e f h = h ∙ (ap₂ without e f ∙ without_norms l.kept l.taken)
left_less l k t (Err _) e f h = tt

-- ---- what begins, as another reading and from another place

pub begins_as : (t : List ℕ) (p k : ℕ) (r q : Reading) (b : Result Begun SetFault) → q ≡ r → k ≤ p → Begins t p r b
    → Begins t k q b
begins_as t p k r q (Ok (Whole a n)) e le h = (e ∙ h.0, h.1, omega (arith, h.2))
begins_as t p k r q (Ok (Compound m n)) e le h = (e ∙ h.0, h.1, omega (arith, h.2))
begins_as t p k r q (Err f) e le h = λ n. e ∙ h n

pub begins_err : (t : List ℕ) (p : ℕ) (r : Reading) (b : Result Begun SetFault) (e : SetFault) → IsErrAnd b (λ f. f ≡ e)
    → (e ≢ NoMemory → r ≡ Err e) → Begins t p r b
begins_err t p r (Ok (Whole a n)) e h g = absurd h
begins_err t p r (Ok (Compound m n)) e h g = absurd h
begins_err t p r (Err f) e h g = λ n. g (λ k. n (h ∙ k)) ∙ ap Err (sym h)

pub joined_op : {E : Type 0} (r : Result Left E) (b : Option Before) (f : Before) (u : List Range) (k : Operator)
    → b ≡ Some f → f.operator ≡ k → IfOk r (λ m. left_set m ≡ applied k (left_set f.left) u)
    → IfOk r (λ m. left_set m ≡ joined_by b u)
joined_op (Ok m) b f u k e o h = h ∙ (ap (λ x. applied x (left_set f.left) u) (sym o) ∙ sym (ap (λ x. joined_by x u) e))
joined_op (Err _) b f u k e o h = tt

-- ---- the stack

pub popped_push : (os : List Open) (o : Open) (ps : List Open) (r : Reading) → os ≡ ps ++ o ∷ []
    → resume os r ≡ resume ps (framed o r)
popped_push os o ps r e = ap (λ x. resume x r) e ∙ resume_push ps o r

pub behind_err : (t : List ℕ) (p : ℕ) (r : Reading) (os : List Open) (b : Result Next SetFault) (e : SetFault)
    → IsErrAnd b (λ f. f ≡ e) → (e ≢ NoMemory → r ≡ Err e) → GoesBehind t p r os b
behind_err t p r os (Ok (Bracket q)) e h g = absurd h
behind_err t p r os (Ok (End a)) e h g = absurd h
behind_err t p r os (Err f) e h g = λ n. g (λ k. n (h ∙ k)) ∙ ap Err (sym h)

pub gives_set_err : (t : List ℕ) (r : Reading) (b : Result (List Range) SetFault) (e : SetFault)
    → IsErrAnd b (λ f. f ≡ e) → (e ≢ NoMemory → r ≡ Err e) → GivesSet t r b
gives_set_err t r (Ok a) e h g = absurd h
gives_set_err t r (Err f) e h g = λ n. g (λ k. n (h ∙ k)) ∙ ap Err (sym h)
