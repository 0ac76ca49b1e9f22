-- Lines in the order of their bytes.
use Rattle.std.proofs.Common.{◌≡◌, ℕ, suc, ◌+◌, ◌<◌, List, [], ◌∷◌, length, get_or, replicate, refl, sym, ap}
use Rattle.std.proofs.Common.{subst}
use Rattle.std.proofs.Common.{◌∙◌, arith}
use Rattle.std.specs.Prelude.{Bool, true, false, not, ◌&&◌, cond, map, Result, Ok, Err, IfOk}
use Rattle.std.specs.Cmp.{IsStrictWeakOrder}
use Rattle.std.specs.Cmp.Lexicographic.{slice_cmp}
use Rattle.std.specs.List.{concat, filter, sum_by}
use Rattle.std.specs.List.Sorted.{IsPermutation, IsSortedBy, ties}
use Rattle.std.specs.Ordering.{is_eq, is_lt, nat_cmp, ordering_reverse}
use Rattle.std.specs.declared.cmp.Ordering.{Ordering}
use Rattle.std.specs.declared.cmp.Ordering.TheVariants.{Less, Equal, Greater}
use Rattle.std.specs.Str.{bytes_eq}
use Rattle.std.proofs.lemmas.Cmp.{nat_list_cmp_total}
use Rattle.std.proofs.lemmas.List.{get_or-map, length-map}
use Rattle.std.proofs.lemmas.List.Sorted.{ranks_by, sum_by-IsPermutation, IsPermutation-map, IsPermutation-trans}
use Rattle.std.proofs.lemmas.List.Sums.{sum_by-cons}
use Rattle.std.proofs.lemmas.Map.Text.{is_eq-slice_cmp}
use Rattle.std.proofs.lemmas.Slice.Eq.{bytes_eq-Decides}
use Rattle.rpl_names.specs.declared.names.Listed.{Listed}
use Rattle.rosie_inspect.specs.Laws.{OneNamesText}
use Rattle.rosie_inspect.specs.Names.{name_line, IsNamesText}
use Rattle.rosie_inspect.proofs.Sorting.{kept, one_order}

abbrev lt : List ℕ → List ℕ → Bool
lt x y = is_lt (slice_cmp nat_cmp x y)

ranks : IsStrictWeakOrder lt
ranks = ranks_by nat_list_cmp_total (λ (x : List ℕ). x)

equal_bytes : (x y : List ℕ) → bytes_eq x y ≡ true → x ≡ y
equal_bytes x y e = grind (arith, bytes_eq-Decides x y)

-- lines that tie are the same
tie_is : (x y : List ℕ) → ties lt x y ≡ true → y ≡ x
tie_is x y h = by_case (slice_cmp nat_cmp x y) refl
  where
    by_case : (r : Ordering) → slice_cmp nat_cmp x y ≡ r → y ≡ x
    by_case Less e =
        let z : (not true && not (lt y x)) ≡ true = ap (λ r. not (is_lt r) && not (lt y x)) (sym e) ∙ h in absurd (cc)
    by_case Equal e = sym (equal_bytes x y (sym (is_eq-slice_cmp x y) ∙ ap (λ r. is_eq r) e))
    by_case Greater e =
        let back : slice_cmp nat_cmp y x ≡ Less = nat_list_cmp_total.antisymm y x ∙ ap ordering_reverse e in
        let z : (not false && not true) ≡ true =
        ap (λ r. not (is_lt r) && not true) (sym e) ∙ ap (λ r. not (lt x y) && not (is_lt r)) (sym back) ∙ h in
        absurd (cc)

-- what passes a test that passes one value alone is that value, as often as it stands there
abbrev passing : {X : Type 0} → (X → Bool) → X → ℕ
passing p y = cond (p y) 1 0

filter_is : {X : Type 0} (p : X → Bool) (x : X) → ((y : X) → p y ≡ true → y ≡ x) → (ys : List X) →
    filter p ys ≡ replicate (sum_by (passing p) ys) x
filter_is p x only [] = refl
filter_is {X} p x only (y ∷ ys) = by_case (filter_is p x only ys) (p y) refl
  where
    by_case : filter p ys ≡ replicate (sum_by (passing p) ys) x → (b : Bool) → p y ≡ b →
        filter p (y ∷ ys) ≡ replicate (sum_by (passing p) (y ∷ ys)) x
    by_case others true h =
        let one : passing p y ≡ 1 = ap (λ b. cond b 1 0) h in
        let whole = sum_by-cons (passing p) y ys in
        let more : suc (sum_by (passing p) ys) ≡ sum_by (passing p) (y ∷ ys) = omega (arith, one, whole) in
        kept p y ys h ∙ ap (λ z. z ∷ filter p ys) (only y h) ∙ ap (λ zs. x ∷ zs) others ∙ ap (λ k. replicate k x) more
    by_case others false h =
        let none : passing p y ≡ 0 = ap (λ b. cond b 1 0) h in
        let whole = sum_by-cons (passing p) y ys in
        let same : sum_by (passing p) ys ≡ sum_by (passing p) (y ∷ ys) = omega (arith, none, whole) in
        ap (λ b. cond b (y ∷ filter p ys) (filter p ys)) h ∙ others ∙ ap (λ k. replicate k x) same

ties_once : (base xs ys : List (List ℕ)) → IsPermutation base xs → IsPermutation base ys → (x : List ℕ) →
    filter (ties lt x) xs ≡ filter (ties lt x) ys
ties_once base xs ys h k x =
    let p = ties lt x in
    let same : sum_by (passing p) xs ≡ sum_by (passing p) ys =
    sum_by-IsPermutation (passing p) base xs h ∙ sym (sum_by-IsPermutation (passing p) base ys k) in
    filter_is p x (tie_is x) xs ∙ ap (λ n. replicate n x) same ∙ sym (filter_is p x (tie_is x) ys)

-- the text of the names of a set is unique
pub one_text : OneNamesText
one_text names a b s t =
    s.same
    ∙ ap concat (one_order lt ranks s.lines t.lines s.order t.order
    (ties_once (map name_line names) s.lines t.lines s.members t.members))
    ∙ sym t.same

-- what is in order by its bytes has its bytes in order
sorted_map : {A : Type 0} (f : A → List ℕ) (xs : List A) → IsSortedBy (λ x y. lt (f x) (f y)) xs →
    IsSortedBy lt (map f xs)
sorted_map f [] up = λ k d l h. absurd (omega arith)
sorted_map f (x ∷ xs) up = λ k d l h.
    let long : k + 1 < length (x ∷ xs) = omega (arith, length-map (x ∷ xs) f) in
    let at : k < length (x ∷ xs) = omega arith in
    ap (λ u. lt u (get_or (map f (x ∷ xs)) k d)) (get_or-map f (x ∷ xs) (k + 1) x d long)
    ∙ ap (λ v. lt (f (get_or (x ∷ xs) (k + 1) x)) v) (get_or-map f (x ∷ xs) k x d at) ∙ up k x l long

lines_text : {A : Type 0} (f : A → List ℕ) (all names : List Listed) (lines sorted : List A) (text : List ℕ) →
    IsPermutation all names → map f lines ≡ map name_line names → IsPermutation lines sorted →
    IsSortedBy (λ x y. lt (f x) (f y)) sorted → text ≡ concat (map f sorted) → IsNamesText all text
lines_text f all names lines sorted text members made moved order same =
    let of_lines = subst (λ xs. IsPermutation xs (map f sorted)) made (IsPermutation-map f lines sorted moved) in
    record {
      lines = map f sorted;
      members =
          IsPermutation-trans (map name_line all) (map name_line names) (map f sorted)
          (IsPermutation-map name_line all names members) of_lines;
      order = sorted_map f sorted order;
      same = same;
    }

-- the lines of some names, sorted
pub sorted_lines : {A T E : Type 0} (all names : List Listed) (lines sorted written : List A) (r : Result T E)
    (f : A → List ℕ) (bytes : T → List ℕ) → IsPermutation all names → map f lines ≡ map name_line names →
    IsPermutation lines sorted → IsSortedBy (λ x y. lt (f x) (f y)) sorted → written ≡ sorted →
    IfOk r (λ text. bytes text ≡ concat (map f written)) → IfOk r (λ text. IsNamesText all (bytes text))
sorted_lines all names lines sorted written (Ok text) f bytes members made moved order same is =
    lines_text f all names lines sorted (bytes text) members made moved order (is ∙ ap (λ xs. concat (map f xs)) same)
sorted_lines all names lines sorted written (Err e) f bytes members made moved order same is = tt
