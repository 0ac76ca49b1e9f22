-- A list has one order in which it is sorted, and its ties stand as before.
use Rattle.std.proofs.Common.{◌≡◌, ℕ, suc, ◌+◌, ◌<◌, List, [], ◌∷◌, length, get_or, refl, sym, ap, subst}
use Rattle.std.proofs.Common.{◌∙◌, arith}
use Rattle.std.specs.Prelude.{Bool, true, false, not, ◌&&◌, cond}
use Rattle.std.specs.Cmp.{IsStrictWeakOrder}
use Rattle.std.specs.List.{filter}
use Rattle.std.specs.List.Sorted.{IsSortedBy, ties}
use Rattle.std.proofs.lemmas.List.Sorted.{sorted_far}

first_of_tie : {X : Type 0} (lt : X → X → Bool) (a y : X) → ties lt a y ≡ true → lt a y ≡ false
first_of_tie lt a y h = by_case (lt a y) refl
  where
    by_case : (b : Bool) → lt a y ≡ b → lt a y ≡ false
    by_case true e =
        let z : (not true && not (lt y a)) ≡ true = ap (λ x. not x && not (lt y a)) (sym e) ∙ h in absurd (cc)
    by_case false e = e

make_tie : {X : Type 0} (lt : X → X → Bool) (a b : X) → lt a b ≡ false → lt b a ≡ false → ties lt a b ≡ true
make_tie lt a b e f = ap (λ x. not x && not (lt b a)) e ∙ ap (λ x. not x) f

ties_itself : {X : Type 0} (lt : X → X → Bool) → IsStrictWeakOrder lt → (a : X) → ties lt a a ≡ true
ties_itself lt o a = make_tie lt a a (never (lt a a) refl) (never (lt a a) refl)
  where
    never : (b : Bool) → lt a a ≡ b → lt a a ≡ false
    never true e = o.one_way a a e
    never false e = e

-- where some element ties with a, and none is less than b, a isn't less than b
not_above : {X : Type 0} (lt : X → X → Bool) → IsStrictWeakOrder lt → (a b : X) (ys : List X) →
    ((j : ℕ) (d : X) → j < length ys → lt (get_or ys j d) b ≡ false) → (z : X) (zs : List X) →
    filter (ties lt a) ys ≡ z ∷ zs → lt a b ≡ false
not_above lt o a b [] all z zs e = absurd (cc)
not_above {X} lt o a b (y ∷ ys) all z zs e =
    by_case (not_above lt o a b ys (λ j d l. all (suc j) d (omega arith)) z zs) (ties lt a y) refl
  where
    by_case : (filter (ties lt a) ys ≡ z ∷ zs → lt a b ≡ false) → (t : Bool) → ties lt a y ≡ t → lt a b ≡ false
    by_case others true h = o.chain a y b (first_of_tie lt a y h) (all 0 b (omega arith))
    by_case others false h =
        others (sym (ap (λ t. cond t (y ∷ filter (ties lt a) ys) (filter (ties lt a) ys)) h) ∙ e)

pub kept : {X : Type 0} (p : X → Bool) (x : X) (xs : List X) → p x ≡ true → filter p (x ∷ xs) ≡ x ∷ filter p xs
kept p x xs h = ap (λ t. cond t (x ∷ filter p xs) (filter p xs)) h

tail_sorted : {X : Type 0} (lt : X → X → Bool) (a : X) (xs : List X) → IsSortedBy lt (a ∷ xs) → IsSortedBy lt xs
tail_sorted {X} lt a xs up = λ k d l h.
    let e : suc k + 1 ≡ suc (k + 1) = omega arith in
    let P : ℕ → Type 0 = λ j. lt (get_or (a ∷ xs) j d) (get_or xs k d) ≡ false in
    subst P e (up (suc k) d (omega arith) (omega arith))

tail_same : {X : Type 0} (p : X → Bool) (a : X) (xs bs : List X) → filter p (a ∷ xs) ≡ filter p (a ∷ bs) →
    filter p xs ≡ filter p bs
tail_same p a xs bs e = by_case (p a) refl
  where
    by_case : (t : Bool) → p a ≡ t → filter p xs ≡ filter p bs
    by_case true h = let z : a ∷ filter p xs ≡ a ∷ filter p bs = sym (kept p a xs h) ∙ e ∙ kept p a bs h in cc
    by_case false h =
        sym (ap (λ t. cond t (a ∷ filter p xs) (filter p xs)) h) ∙ e
        ∙ ap (λ t. cond t (a ∷ filter p bs) (filter p bs)) h

heads : {X : Type 0} (a b : X) (xs bs : List X) → a ∷ xs ≡ b ∷ bs → a ≡ b
heads a b xs bs e = cc

pub one_order : {X : Type 0} (lt : X → X → Bool) → IsStrictWeakOrder lt → (xs ys : List X) → IsSortedBy lt xs →
    IsSortedBy lt ys → ((x : X) → filter (ties lt x) xs ≡ filter (ties lt x) ys) → xs ≡ ys
one_order lt o [] [] up up' same = refl
one_order lt o [] (b ∷ bs) up up' same =
    let z : [] ≡ b ∷ filter (ties lt b) bs = same b ∙ kept (ties lt b) b bs (ties_itself lt o b) in absurd (cc)
one_order lt o (a ∷ xs) [] up up' same =
    let z : a ∷ filter (ties lt a) xs ≡ [] = sym (kept (ties lt a) a xs (ties_itself lt o a)) ∙ same a in absurd (cc)
one_order {X} lt o (a ∷ xs) (b ∷ bs) up up' same =
    let of_a = kept (ties lt a) a xs (ties_itself lt o a) in
    let of_b = kept (ties lt b) b bs (ties_itself lt o b) in
    let low : lt a b ≡ false =
    not_above lt o a b (b ∷ bs) (λ j d l. sorted_far lt o (b ∷ bs) up' 0 j d (omega arith) l) a
    (filter (ties lt a) xs) (sym (same a) ∙ of_a) in
    let high : lt b a ≡ false =
    not_above lt o b a (a ∷ xs) (λ j d l. sorted_far lt o (a ∷ xs) up 0 j d (omega arith) l) b
    (filter (ties lt b) bs) (same b ∙ of_b) in
    let first : a ≡ b =
    heads a b (filter (ties lt a) xs) (filter (ties lt a) bs)
    (sym of_a ∙ same a ∙ kept (ties lt a) b bs (make_tie lt a b low high)) in
    let P : X → Type 0 = λ c. (x : X) → filter (ties lt x) (a ∷ xs) ≡ filter (ties lt x) (c ∷ bs) in
    let same' = subst P (sym first) same in
    let others : xs ≡ bs =
    one_order lt o xs bs (tail_sorted lt a xs up) (tail_sorted lt b bs up')
    (λ x. tail_same (ties lt x) a xs bs (same' x)) in
    ap (λ c. c ∷ xs) first ∙ ap (λ cs. b ∷ cs) others
