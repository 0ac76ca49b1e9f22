-- The lines of names that stand after a prefix, and the text that has all of them.
use Rattle.std.proofs.Common.{arith, ◌≡◌, ◌+◌, ℕ, zero, suc, List, [], ◌∷◌, ◌++◌, map, take, refl, sym, ap, ap₂, subst}
use Rattle.std.proofs.Common.{append_assoc, ◌∙◌, Bool, true, Some, None, String, string_bytes}
use Rattle.std.specs.Prelude.{IfOk, IfSome, IsTrue, IsUtf8, Option, Result, Ok, Err, Vec, chars, codes}
use Rattle.std.specs.Prelude.{encode_utf8_all, is_some, slice_get}
use Rattle.std.specs.BTreeMap.{BTreeMap, get}
use Rattle.std.specs.List.{flat_map}
use Rattle.std.specs.List.Sorted.{IsPermutation}
use Rattle.std.specs.Ordering.{nat_cmp}
use Rattle.std.proofs.lemmas.List.{append-nil, map-append}
use Rattle.std.proofs.lemmas.List.Concat.{flat_map-append}
use Rattle.std.proofs.lemmas.List.Sorted.{IsPermutation-map, IsPermutation-trans}
use Rattle.std.proofs.lemmas.Str.{encodes-append, encodes-chars}
use Rattle.rpl_names.specs.Names.{StandsUnder, after, all_listed, listed_under, offers, own_listed, prefixes}
use Rattle.rpl_names.specs.Roots.{Packages}
use Rattle.rpl_names.specs.declared.names.Listed.{Listed}
use Rattle.rpl_names.proofs.Offering.{all_in_parts}
use Rattle.rpl_syntax.proofs.Encoded.{low}
use Rattle.rosie_inspect.specs.Ascending.{HasLines}
use Rattle.rosie_inspect.specs.Groups.{HoldsOffers, group_lines, lines_after, offered_lines}
use Rattle.rosie_inspect.specs.Names.{IsNamesText, label_text, name_line}
use Rattle.rosie_inspect.specs.declared.groups.Group.{Group}
use Rattle.rosie_inspect.proofs.Moving.{flat_moved}

line_after : (pre bytes : List ℕ) → encode_utf8_all pre ≡ bytes → (l : Listed)
    → name_line (after pre l) ≡ (bytes ++ 46 ∷ []) ++ name_line l
line_after pre bytes is l =
    let name = encode_utf8_all l.name in
    let kind = label_text l.label in
    let spelled : encode_utf8_all (pre ++ 46 ∷ l.name) ≡ (bytes ++ 46 ∷ []) ++ name =
    encodes-append pre (46 ∷ l.name) ∙ ap₂ (λ x y. x ++ y) is (low 46 l.name (omega arith))
    ∙ sym (append_assoc bytes (46 ∷ []) name) in
    ap (λ n. (n ++ kind) ++ codes "\n") spelled
    ∙ ap (λ n. n ++ codes "\n") (append_assoc (bytes ++ 46 ∷ []) name kind)
    ∙ append_assoc (bytes ++ 46 ∷ []) (name ++ kind) (codes "\n")

pub lines_after_prefix : (pre bytes : List ℕ) → encode_utf8_all pre ≡ bytes → (xs : List Listed)
    → map name_line (map (after pre) xs) ≡ map (λ l. (bytes ++ 46 ∷ []) ++ l) (map name_line xs)
lines_after_prefix pre bytes is [] = refl
lines_after_prefix pre bytes is (x ∷ xs) =
    ap₂ (λ y ys. y ∷ ys) (line_after pre bytes is x) (lines_after_prefix pre bytes is xs)

-- ---- all lines

pub all_grouped : (p : Packages) (own all : List Group) → flat_map (group_lines p) own ≡ map name_line (own_listed p)
    → flat_map (group_lines p) all
    ≡ flat_map (group_lines p) own ++ map name_line (flat_map (listed_under p) (prefixes p))
    → flat_map (group_lines p) all ≡ map name_line (all_listed p)
all_grouped p own all first more =
    let under = flat_map (listed_under p) (prefixes p) in
    more ∙ ap (λ l. l ++ map name_line under) first ∙ sym (map-append name_line (own_listed p) under)
    ∙ ap (λ l. map name_line l) (sym (all_in_parts p))

pub grouped_text : (p : Packages) (all sorted : List Group) (text : List ℕ)
    → flat_map (group_lines p) all ≡ map name_line (all_listed p) → IsPermutation all sorted
    → HasLines (flat_map (group_lines p) sorted) text → IsNamesText (all_listed p) text
grouped_text p all sorted text are moved written =
    let w = written.1 in
    let f = group_lines p in
    let P : List (List ℕ) → Type 0 = λ l. IsPermutation l w.lines in
    record {
      lines = w.lines;
      members = subst P are (IsPermutation-trans (flat_map f all) (flat_map f sorted) w.lines
          (flat_moved f all sorted moved) w.members);
      order = w.order;
      same = w.same;
    }

-- ---- a group is written

pub passed_on : {E : Type 0} (r : Result Bool E) (P Q : Type 0) → (P → Q) → IfOk r (λ b. IsTrue b → P)
    → IfOk r (λ b. IsTrue b → Q)
passed_on (Ok b) P Q f h = λ t. f (h t)
passed_on (Err e) P Q f h = tt

front_of_all : {Z : Type 0} (front : List ℕ) (ends : List (String Z))
    → map (λ l. front ++ l) (map (λ l. string_bytes l) ends) ≡ map (λ l. front ++ string_bytes l) ends
front_of_all front [] = refl
front_of_all front (e ∷ es) = ap (λ l. (front ++ string_bytes e) ∷ l) (front_of_all front es)

pub group_moved : {Y Z : Type 0} (p : Packages) (g : Group) (i : ℕ) (front : List ℕ)
    (held : BTreeMap ℕ (Vec (String Z) Y)) (v : Vec (String Z) Y) (ends : List (String Z)) → ends ≡ v.items
    → g.under ≡ Some i → front ≡ string_bytes g.text → get nat_cmp held i ≡ Some v → HoldsOffers p held
    → IsPermutation (group_lines p g) (map (λ l. front ++ string_bytes l) ends)
group_moved {Y} {Z} p g i front held v ends all is same found holds =
    let P : Option (Vec (String Z) Y) → Type 0 =
    λ o. IfSome o (λ w. IsPermutation (offered_lines p i) (map (λ l. string_bytes l) w.items)) in
    let lines : IsPermutation (offered_lines p i) (map (λ l. string_bytes l) v.items) = subst P found (holds i) in
    let moved = IsPermutation-map (λ l. front ++ l) (offered_lines p i) (map (λ l. string_bytes l) v.items) lines in
    let Q : List (List ℕ) → Type 0 = λ l. IsPermutation (map (λ l. front ++ l) (offered_lines p i)) l in
    let R : List (List ℕ) → Type 0 = λ l. IsPermutation l (map (λ l. front ++ string_bytes l) v.items) in
    let S : List (String Z) → Type 0 = λ es. IsPermutation (group_lines p g) (map (λ l. front ++ string_bytes l) es) in
    subst S (sym all) (subst R (ap (λ t. map (λ l. t ++ l) (offered_lines p i)) same
    ∙ ap (λ u. lines_after p (string_bytes g.text) u) (sym is)) (subst Q (front_of_all front v.items) moved))

-- ---- a prefix more

pub spelled : (a : List ℕ) → IsUtf8 a → encode_utf8_all (chars a) ≡ a
spelled a u = encodes-chars a u

take_one : {A : Type 0} (xs : List A) (k : ℕ) (x : A) → slice_get xs k ≡ Some x → take (k + 1) xs ≡ take k xs ++ x ∷ []
take_one [] k x h = absurd (cc)
take_one (y ∷ ys) zero x h = let e : y ≡ x = cc in ap (λ z. z ∷ []) e
take_one (y ∷ ys) (suc k) x h = let e : suc k + 1 ≡ suc (k + 1) = omega arith in rw e
    (ap (λ l. y ∷ l) (take_one ys k x h))

one_more_prefix : (p : Packages) (now : List Group) (start : List (List ℕ)) (k : ℕ) (pre : List ℕ) (i : ℕ) (g : Group)
    → StandsUnder p k pre (Some i) → string_bytes g.text ≡ encode_utf8_all pre ++ 46 ∷ [] → g.under ≡ Some i
    → flat_map (group_lines p) now ≡ start ++ map name_line (flat_map (listed_under p) (take k (prefixes p)))
    → flat_map (group_lines p) (now ++ g ∷ [])
    ≡ start ++ map name_line (flat_map (listed_under p) (take (k + 1) (prefixes p)))
one_more_prefix p now start k pre i g s text under inv =
    let f = group_lines p in
    let lu = listed_under p in
    let before = take k (prefixes p) in
    let own : f g ≡ map name_line (lu s.entry) =
    ap₂ (λ t u. lines_after p t u) text under ∙ sym (lines_after_prefix pre (encode_utf8_all pre) refl (offers p i))
    ∙ ap (λ l. map name_line l) (sym s.offered) in
    let listed : flat_map lu (take (k + 1) (prefixes p)) ≡ flat_map lu before ++ lu s.entry =
    ap (λ l. flat_map lu l) (take_one (prefixes p) k s.entry s.is) ∙ flat_map-append lu before (s.entry ∷ [])
    ∙ ap (λ l. flat_map lu before ++ l) (append-nil (lu s.entry)) in
    flat_map-append f now (g ∷ []) ∙ ap₂ (λ x y. x ++ y) inv (append-nil (f g) ∙ own)
    ∙ append_assoc start (map name_line (flat_map lu before)) (map name_line (lu s.entry))
    ∙ ap (λ l. start ++ l) (sym (map-append name_line (flat_map lu before) (lu s.entry))
    ∙ ap (λ l. map name_line l) (sym listed))

pub prefix_more : (p : Packages) (now new : List Group) (start : List (List ℕ)) (k : ℕ) (pre : List ℕ)
    (number : Option ℕ) (g : Group) → StandsUnder p k pre number → is_some number ≡ true
    → string_bytes g.text ≡ encode_utf8_all pre ++ 46 ∷ [] → g.under ≡ number → new ≡ now ++ g ∷ []
    → flat_map (group_lines p) now ≡ start ++ map name_line (flat_map (listed_under p) (take k (prefixes p)))
    → flat_map (group_lines p) new ≡ start ++ map name_line (flat_map (listed_under p) (take (k + 1) (prefixes p)))
prefix_more p now new start k pre None g s some text under is inv = absurd (cc)
prefix_more p now new start k pre (Some i) g s some text under is inv =
    ap (λ l. flat_map (group_lines p) l) is ∙ one_more_prefix p now start k pre i g s text under inv

-- ---- the text

pub joined : {E Y Z : Type 0} (p : Packages) (all sorted : List Group) (held : BTreeMap ℕ (Vec (String Z) Y))
    (r : Result (Option (String Z)) E) → flat_map (group_lines p) all ≡ map name_line (all_listed p)
    → IsPermutation all sorted → HoldsOffers p held
    → IfOk r (λ found. IfSome found (λ text. (p : Packages) → HoldsOffers p held
    → HasLines (flat_map (group_lines p) sorted) (string_bytes text)))
    → IfOk r (λ found. IfSome found (λ text. IsNamesText (all_listed p) (string_bytes text)))
joined p all sorted held (Ok None) are moved holds lines = tt
joined p all sorted held (Ok (Some text)) are moved holds lines =
    grouped_text p all sorted (string_bytes text) are moved (lines p holds)
joined p all sorted held (Err e) are moved holds lines = tt
