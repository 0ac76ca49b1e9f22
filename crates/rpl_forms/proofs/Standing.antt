-- What stands for the rules of a table in a look-behind.
use Rattle.std.proofs.Common.{◌≡◌, ℕ, zero, suc, ◌+◌, ◌<◌, ◌≤◌, List, [], ◌∷◌, ◌++◌, length, take, refl, sym, ap, ◌∙◌}
use Rattle.std.proofs.Common.{subst, arith, length-append}
use Rattle.std.specs.Prelude.{Option, Some, None, slice_get, option_map}
use Rattle.std.proofs.Math.Seq.{take-length}
use Rattle.std.proofs.lemmas.List.{length-map, take_all}
use Rattle.std.proofs.lemmas.Option.{slice_get_within, slice_get-map}
use Rattle.rpl_core.specs.Core.{Core, Call}
use Rattle.rpl_core.specs.View.{core_of}
use Rattle.rpl_core.specs.declared.rules.Rule.{Rule}
use Rattle.rpl_forms.specs.Counting.{Counts, CountsOne, beyond, in_block, counted, KnowsInners, known_of, IsFirst}
use Rattle.rpl_forms.specs.Inlining.{Inners, inner, inlined, called}
use Rattle.rpl_forms.specs.declared.size.Inner.{Inner}
use Rattle.rpl_forms.specs.Rows.{Row, row_at, rows_of, inners_from, inners_of}

pub get_take : {A : Type 0} (n k : ℕ) (xs : List A) → k < n → slice_get (take n xs) k ≡ slice_get xs k
get_take zero k [] lt = refl
get_take (suc n) k [] lt = refl
get_take zero k (x ∷ xs) lt = absurd (omega arith)
get_take (suc n) zero (x ∷ xs) lt = refl
get_take (suc n) (suc k) (x ∷ xs) lt = get_take n k xs (omega arith)

-- a list with one more at its end has it at the number that was its length
pub get_last : {A : Type 0} (xs : List A) (x : A) → slice_get (xs ++ x ∷ []) (length xs) ≡ Some x
get_last [] x = refl
get_last (y ∷ xs) x = get_last xs x

take_front : {A : Type 0} (xs ys l : List A) → take (length (xs ++ ys)) l ≡ xs ++ ys → take (length xs) l ≡ xs
take_front [] ys l e = refl
take_front (x ∷ xs) ys [] e = absurd cc
take_front (x ∷ xs) ys (z ∷ l) e =
    let head : z ≡ x = cc in
    let tail : take (length (xs ++ ys)) l ≡ xs ++ ys = cc in
    ap (λ w. w ∷ take (length xs) l) head ∙ ap (λ w. x ∷ w) (take_front xs ys l tail)

-- what was there stays
pub take_from : (I : Inners) (rows : List Row) → take (length I) (inners_from I rows) ≡ I
take_from I [] = take-length I
take_from I (r ∷ rows) =
    let x = inner I r.block r.body in
    take_front I (x ∷ []) (inners_from (I ++ x ∷ []) rows) (take_from (I ++ x ∷ []) rows)

pub length_from : (I : Inners) (rows : List Row) → length (inners_from I rows) ≡ length I + length rows
length_from I [] = omega arith
length_from I (r ∷ rows) =
    let h = length_from (I ++ inner I r.block r.body ∷ []) rows in
    omega (arith, h, length-append I (inner I r.block r.body ∷ []))

-- the one for each row, of those before it
pub get_from : (I : Inners) (rows : List Row) (k : ℕ) (r : Row) → slice_get rows k ≡ Some r
    → slice_get (inners_from I rows) (length I + k)
    ≡ Some (inner (take (length I + k) (inners_from I rows)) r.block r.body)
get_from I [] k r e = absurd cc
get_from I (q ∷ rows) zero r e =
    let x = inner I q.block q.body in
    let J = I ++ x ∷ [] in
    let all = inners_from J rows in
    let same : q ≡ r = cc in
    let n : length I + 0 ≡ length I = omega arith in
    let m : length J ≡ length I + 1 = length-append I (x ∷ []) in
    let lt : length I < length J = omega arith in
    let got : slice_get all (length I) ≡ Some x =
    sym (get_take (length J) (length I) all lt) ∙ ap (λ l. slice_get l (length I)) (take_from J rows)
    ∙ get_last I x in
    let front : take (length I) all ≡ I = take_front I (x ∷ []) all (take_from J rows) in
    rw n (got ∙ ap (λ y. Some (inner I y.block y.body)) same ∙ ap (λ l. Some (inner l r.block r.body)) (sym front))
get_from I (q ∷ rows) (suc k) r e =
    let x = inner I q.block q.body in
    let J = I ++ x ∷ [] in
    let n : length J + k ≡ length I + suc k = omega (arith, length-append I (x ∷ [])) in
    subst (λ i. slice_get (inners_from J rows) i ≡ Some (inner (take i (inners_from J rows)) r.block r.body)) n
    (get_from J rows k r e)

-- what stands for a rule
pub got_inner : (rs : List Rule) (k : ℕ) (r : Rule) → slice_get rs k ≡ Some r
    → slice_get (inners_of rs) k ≡ Some (inner (take k (inners_of rs)) r.block (core_of r.body))
got_inner rs k r e =
    let row = slice_get-map row_at rs k ∙ ap (option_map row_at) e in
    let zero_on : 0 + k ≡ k = omega arith in
    subst (λ i. slice_get (inners_of rs) i ≡ Some (inner (take i (inners_of rs)) r.block (core_of r.body))) zero_on
    (get_from [] (rows_of rs) k (row_at r) row)

-- what stands for an earlier rule
pub stands_for : (rs : List Rule) (limit k : ℕ) (r : Rule) → slice_get rs k ≡ Some r → k < limit
    → slice_get (take limit (inners_of rs)) k ≡ Some (inner (take k (inners_of rs)) r.block (core_of r.body))
stands_for rs limit k r e lt = get_take limit k (inners_of rs) lt ∙ got_inner rs k r e

-- no call is within no rules
pub called_late : (rs : List Rule) (limit k : ℕ) → limit ≤ k
    → called k (slice_get (take limit (inners_of rs)) k) ≡ Call k
called_late rs limit k h = ap (called k) (late limit k (inners_of rs) h) where
  late : {A : Type 0} (n k : ℕ) (xs : List A) → n ≤ k → slice_get (take n xs) k ≡ None
  late zero k [] h = refl
  late (suc n) k [] h = refl
  late zero k (x ∷ xs) h = refl
  late (suc n) zero (x ∷ xs) h = absurd (omega arith)
  late (suc n) (suc k) (x ∷ xs) h = late n k xs (omega arith)

-- all rules are the first of as many
pub whole_inners : (rs : List Rule) (n : ℕ) → n ≡ length rs → take n (inners_of rs) ≡ inners_of rs
whole_inners rs n e = take_all n (inners_of rs) (omega (arith, e, length_from [] (rows_of rs), length-map rs row_at))

-- what stands for a rule of which anything is known
pub stands_at : (o : Option Inner) (x : Option (Option Core)) (n : Inner) → o ≡ Some n → CountsOne (Some o) x
    → (p : Core) × (x ≡ Some (Some p)) × Counts n.count p
stands_at None x n e c = absurd cc
stands_at (Some m) (Some (Some p)) n e (counted _ _ h) =
    let same : m ≡ n = cc in (p, refl, subst (λ k. Counts k.count p) same h)
stands_at (Some m) None n e c = elim c [ ]
stands_at (Some m) (Some None) n e c = elim c [ ]

known_there : (o : Option (Option Inner)) (n : Inner) → known_of o ≡ Some n → o ≡ Some (Some n)
known_there None n e = absurd cc
known_there (Some m) n e = ap Some e

pub stands : (ks : List (Option Inner)) (I : Inners) (r : ℕ) (n : Inner) → KnowsInners ks I
    → known_of (slice_get ks r) ≡ Some n → (p : Core) × (slice_get I r ≡ Some (Some p)) × Counts n.count p
stands ks I r n h e =
    let there = known_there (slice_get ks r) n e in
    stands_at (Some n) (slice_get I r) n refl (subst (λ o. CountsOne o (slice_get I r)) there (h.one r))

stands_not : (o : Option (Option Inner)) (x : Option (Option Core)) (r : ℕ) → known_of o ≡ None → CountsOne o x
    → called r x ≡ Call r
stands_not None None r e beyond = refl
stands_not (Some None) (Some None) r e in_block = refl
stands_not None (Some x) r e c = elim c [ ]
stands_not (Some None) None r e c = elim c [ ]
stands_not (Some None) (Some (Some p)) r e c = elim c [ ]
stands_not (Some (Some n)) x r e c = absurd cc

-- a call of a rule for which nothing stands stays
pub stays : (ks : List (Option Inner)) (I : Inners) (r : ℕ) → KnowsInners ks I → known_of (slice_get ks r) ≡ None
    → called r (slice_get I r) ≡ Call r
stays ks I r h e = stands_not (slice_get ks r) (slice_get I r) r e (h.one r)

-- the same stands for the first rule of a chain
pub first_stands : (ks : List (Option Inner)) (I : Inners) (r : ℕ) (n : Inner) → KnowsInners ks I
    → known_of (slice_get ks r) ≡ Some n → (n.rule ≤ r) × (slice_get I n.rule ≡ slice_get I r)
first_stands ks I r n h e = h.same r n (known_there (slice_get ks r) n e)

inner_some : (I : Inners) (b : Option ℕ) (p q : Core) → inner I b p ≡ Some q → inlined I p ≡ q
inner_some I None p q e = cc
inner_some I (Some k) p q e = absurd cc

-- what stands for a call is the body of the first rule of its chain
pub body_stands : (rs : List Rule) (ks : List (Option Inner)) (number : ℕ) (n : Inner) (r : Rule)
    → KnowsInners ks (inners_of rs) → known_of (slice_get ks number) ≡ Some n → slice_get rs n.rule ≡ Some r
    → called number (slice_get (inners_of rs) number) ≡ inlined (take n.rule (inners_of rs)) (core_of r.body)
body_stands rs ks number n r h e there =
    let I = inners_of rs in
    let s = stands ks I number n h e in
    let f = first_stands ks I number n h e in
    let got = sym (got_inner rs n.rule r there) ∙ f.1 ∙ s.1 in
    let one : inner (take n.rule I) r.block (core_of r.body) ≡ Some s.0 = cc in
    ap (called number) s.1 ∙ sym (inner_some (take n.rule I) r.block (core_of r.body) s.0 one)

-- the first rule of a chain is there
pub first_there : (rs : List Rule) (ks : List (Option Inner)) (number : ℕ) (n : Inner) → KnowsInners ks (inners_of rs)
    → known_of (slice_get ks number) ≡ Some n → n.rule < length rs
first_there rs ks number n h e =
    let I = inners_of rs in
    let s = stands ks I number n h e in
    let f = first_stands ks I number n h e in
    let within = slice_get_within I n.rule (Some s.0) (f.1 ∙ s.1) in
    omega (arith, within, length_from [] (rows_of rs), length-map rs row_at)

pub own_first : (I : Inners) (p : Core) (n : ℕ) → n ≡ length I → IsFirst n I p
own_first I p n e =
    (omega (arith, e), ap (slice_get (I ++ Some (inlined I p) ∷ [])) e ∙ get_last I (Some (inlined I p)))

-- a list with one more at its end has at each earlier number what it had there
pub get_before : {A : Type 0} (xs : List A) (x : A) (k : ℕ) → k < length xs
    → slice_get (xs ++ x ∷ []) k ≡ slice_get xs k
get_before [] x k lt = absurd (omega arith)
get_before (y ∷ xs) x zero lt = refl
get_before (y ∷ xs) x (suc k) lt = get_before xs x k (omega arith)

pub chain_first : (ks : List (Option Inner)) (I : Inners) (p : Core) (r : ℕ) (n : Inner) → KnowsInners ks I
    → known_of (slice_get ks r) ≡ Some n → inlined I p ≡ inlined I (Call r) → IsFirst n.rule I p
chain_first ks I p r n h e same =
    let s = stands ks I r n h e in
    let f = first_stands ks I r n h e in
    let got = f.1 ∙ s.1 in
    let within = slice_get_within I n.rule (Some s.0) got in
    let is : s.0 ≡ inlined I p = sym (same ∙ ap (called r) s.1) in
    (omega arith, get_before I (Some (inlined I p)) n.rule within ∙ got ∙ ap (λ q. Some (Some q)) is)
