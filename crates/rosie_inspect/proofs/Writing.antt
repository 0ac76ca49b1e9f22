-- Lines that are written one after the other, each of them at least the one before it.
use Rattle.std.proofs.Common.{arith, ◌≡◌, ◌≤◌, ◌-◌, ℕ, suc, List, [], ◌∷◌, ◌++◌, length, drop, get_or}
use Rattle.std.proofs.Common.{append_assoc, refl, sym, ap, ap₂, subst, ◌∙◌}
use Rattle.std.specs.Prelude.{Bool, true, false, not, slice_range, take}
use Rattle.std.specs.Cmp.Lexicographic.{slice_cmp}
use Rattle.std.specs.List.Sorted.{IsPermutation}
use Rattle.std.specs.Ordering.{is_lt, nat_cmp}
use Rattle.std.specs.declared.cmp.Ordering.{Ordering}
use Rattle.std.specs.declared.cmp.Ordering.TheVariants.{Less, Equal, Greater}
use Rattle.std.proofs.Math.Seq.{drop-append_seam, take-append_seam}
use Rattle.std.proofs.lemmas.List.{append-nil, drop-append-le, length-append, length-drop, take_all}
use Rattle.std.proofs.lemmas.List.Folds.{concat-append}
use Rattle.std.proofs.lemmas.List.Kept.{IsSortedBy-push}
use Rattle.std.proofs.lemmas.List.Sorted.{IsPermutation-append_left}
use Rattle.std.proofs.lemmas.List.Sorted.{IsPermutation-trans}
use Rattle.rosie_inspect.specs.Ascending.{AreWritten}

abbrev lt : List ℕ → List ℕ → Bool
lt x y = is_lt (slice_cmp nat_cmp x y)

last_of : (xs : List (List ℕ)) (x d : List ℕ) → get_or (xs ++ x ∷ []) (length (xs ++ x ∷ []) - 1) d ≡ x
last_of [] x d = refl
last_of (y ∷ ys) x d =
    let long = length-append ys (x ∷ []) in
    let e : length ((y ∷ ys) ++ x ∷ []) - 1 ≡ suc (length (ys ++ x ∷ []) - 1) = omega (arith, long) in
    ap (λ k. get_or ((y ∷ ys) ++ x ∷ []) k d) e ∙ last_of ys x d

-- one line more
pub one_written : (done : List (List ℕ)) (text : List ℕ) (last : ℕ) (line : List ℕ) → lt line (drop last text) ≡ false
    → AreWritten done text last → AreWritten (done ++ line ∷ []) (text ++ line) (length text)
one_written done text last line next w = record {
  lines = w.lines ++ line ∷ [];
  members = IsPermutation-append_left (line ∷ []) done w.lines w.members;
  order = IsSortedBy-push lt w.lines line w.order (λ d h. ap (λ l. lt line l) (w.end d h) ∙ next);
  same = ap₂ (λ xs ys. xs ++ ys) w.same (sym (append-nil line)) ∙ sym (concat-append w.lines (line ∷ []));
  end = λ d h. last_of w.lines line d ∙ sym (drop-append_seam text line);
}

lt_false : (r : Ordering) → not (is_lt r) ≡ true → is_lt r ≡ false
lt_false Less h = absurd (cc)
lt_false Equal h = refl
lt_false Greater h = refl

-- a line is appended in two pieces, and compared with the one before it
pub next_written : (done : List (List ℕ)) (old front end new : List ℕ) (last start : ℕ) (r : Ordering)
    → start ≡ length old → last ≤ length old → new ≡ (old ++ front) ++ end
    → r ≡ slice_cmp nat_cmp (slice_range new start (length new)) (slice_range new last start)
    → not (is_lt r) ≡ true
    → AreWritten done old last → AreWritten (done ++ (front ++ end) ∷ []) new start
next_written done old front end new last start r at within is compared next w =
    let line = front ++ end in
    let whole : new ≡ old ++ line = is ∙ append_assoc old front end in
    let left = length-drop start new in
    let all : length (drop start new) ≤ length new - start = omega (arith, left) in
    let here : slice_range new start (length new) ≡ line =
    take_all (length new - start) (drop start new) all ∙ ap₂ (λ k l. drop k l) at whole ∙ drop-append_seam old line in
    let long : length (drop last old) ≡ start - last = length-drop last old ∙ ap (λ k. k - last) (sym at) in
    let before : slice_range new last start ≡ drop last old =
    ap (λ l. take (start - last) (drop last l)) whole
    ∙ ap (λ l. take (start - last) l) (drop-append-le last old line within)
    ∙ ap (λ k. take k (drop last old ++ line)) (sym long) ∙ take-append_seam (drop last old) line in
    let less : lt line (drop last old) ≡ false =
    ap₂ (λ x y. lt x y) (sym here) (sym before) ∙ ap (λ o. is_lt o) (sym compared) ∙ lt_false r next in
    let P : List ℕ → Type 0 = λ t. AreWritten (done ++ line ∷ []) t start in
    let Q : ℕ → Type 0 = λ k. AreWritten (done ++ line ∷ []) (old ++ line) k in
    subst P (sym whole) (subst Q (sym at) (one_written done old last line less w))

-- the same lines, asked for in another order
pub asked_otherwise : (asked done : List (List ℕ)) (text : List ℕ) (last : ℕ) → IsPermutation asked done
    → AreWritten done text last → AreWritten asked text last
asked_otherwise asked done text last moved w = record {
  lines = w.lines;
  members = IsPermutation-trans asked done w.lines moved w.members;
  order = w.order;
  same = w.same;
  end = w.end;
}
