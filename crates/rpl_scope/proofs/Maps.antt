-- What is found under names by their numbers is what is found in the list of their pairs.
use Rattle.std.proofs.Common.{◌≡◌, ℕ, zero, suc, Bool, true, false, List, [], ◌∷◌, ◌++◌, length, Some, None, refl, sym}
use Rattle.std.proofs.Common.{ap, ◌∙◌, subst, inl, inr, arith, String}
use Rattle.std.specs.Prelude.{Option, Result, Ok, Err, OnOk, OnErr, cond, ◌⊎◌, ◌||◌, if◌then◌else◌, chars, IsUtf8}
use Rattle.std.specs.Prelude.{slice_get}
use Rattle.std.specs.BTreeMap.{BTreeMap, get, get_by_text, is_at, UpdatesBy}
use Rattle.std.specs.Cmp.{Equal-is}
use Rattle.std.specs.Cmp.Lexicographic.{slice_cmp, nat_list_eq_equiv}
use Rattle.std.specs.List.{AllByRecursion, IsDistinct, list_any}
use Rattle.std.specs.Map.{keys_of, lookup}
use Rattle.std.specs.Ordering.{nat_cmp}
use Rattle.std.specs.Str.{bytes_eq}
use Rattle.std.specs.String.{string_bytes, string_cmp}
use Rattle.std.proofs.lemmas.Bool.{false_from_ne_true}
use Rattle.std.proofs.lemmas.List.{map-append}
use Rattle.std.proofs.lemmas.Map.Entries.{lookup_from_place, place_from_lookup}
use Rattle.std.proofs.lemmas.Map.Keys.{IsDistinct-push}
use Rattle.std.proofs.lemmas.Map.Lookups.{exact_unsigned}
use Rattle.std.proofs.lemmas.Map.Text.{btree_map_updates_text}
use Rattle.std.proofs.lemmas.Option.{none-some, slice_get_within}
use Rattle.std.proofs.lemmas.Slice.Eq.{bytes_eq-Decides}
use Rattle.rpl_scope.specs.Packages.{first_of}
use Rattle.rpl_scope.specs.inside.Numbers.{Finds, FindsName, IsNumbered, hash, value_at, value_if}
use Rattle.rpl_scope.proofs.Characters.{chars_one, same_chars}

-- what stands at a number
pub nth_is : {X : Type 0} (xs : List X) (i : ℕ) → slice_get xs i ≡ slice_get xs i
nth_is [] i = refl
nth_is (x ∷ xs) zero = refl
nth_is (x ∷ xs) (suc i) = nth_is xs i

pub finds : {A : Type 0} (n : List ℕ) (ps : List (List ℕ × A)) → lookup (bytes_eq n) ps ≡ first_of n ps
finds n [] = refl
finds n (p ∷ ps) = ap (λ o. if bytes_eq n p.0 then Some p.1 else o) (finds n ps)

-- what stands under the name at a place
pub at_place : {A : Type 0} (ps : List (List ℕ × A)) (i : ℕ) (p : List ℕ × A) → IsDistinct bytes_eq (keys_of ps)
    → slice_get ps i ≡ Some p → first_of p.0 ps ≡ Some p.1
at_place ps i p d at = sym (finds p.0 ps) ∙ lookup_from_place nat_list_eq_equiv ps i p.0 p.1 d at

-- ---- what a look-up comes to

-- a value at a number that has the name is what stands under it
pub right : {A : Type 0} (n : List ℕ) (o : Option ℕ) (ps : List (List ℕ × A)) (v : A) → IsDistinct bytes_eq (keys_of ps)
    → value_at n o ps ≡ Some v → first_of n ps ≡ Some v
right n None ps v d e = absurd (none-some v e)
right {A} n (Some i) ps v d e = by (slice_get ps i) refl e
  where
    same : (p : List ℕ × A) → slice_get ps i ≡ Some p → (b : Bool) → bytes_eq n p.0 ≡ b
        → (if b then Some p.1 else None) ≡ Some v → first_of n ps ≡ Some v
    same p at true f h = ap (λ x. first_of x ps) ((bytes_eq-Decides n p.0).0 f) ∙ at_place ps i p d at ∙ h
    same p at false f h = absurd (none-some v h)

    by : (o : Option (List ℕ × A)) → slice_get ps i ≡ o → value_if n o ≡ Some v → first_of n ps ≡ Some v
    by None at h = absurd (none-some v h)
    by (Some p) at h = same p at (bytes_eq n p.0) refl h

-- the value at a number, by whether the name there is this one
pub value_of : {A : Type 0} (n : List ℕ) (o : Option ℕ) (i : ℕ) (p : List ℕ × A) (ps : List (List ℕ × A)) → o ≡ Some i
    → slice_get ps i ≡ Some p → (b : Bool) → bytes_eq n p.0 ≡ b → value_at n o ps ≡ (if b then Some p.1 else None)
value_of n o i p ps is at b e = ap (λ x. value_at n x ps) is ∙ ap (value_if n) at
    ∙ ap (λ c. if c then Some p.1 else None) e

-- two names are the same where their bytes are
pub compared : (a b n : List ℕ) (r t : Bool) → IsUtf8 a → IsUtf8 b → chars b ≡ n → r ≡ bytes_eq a b → r ≡ t
    → bytes_eq (chars a) n ≡ t
compared a b n r t u v is e h = ap (bytes_eq (chars a)) (sym is) ∙ sym (same_chars a b u v) ∙ sym e ∙ h

-- where no value is found by a hash and none by a name, nothing stands under it
pub absent : {Z A : Type 0} (bs : List ℕ) → IsUtf8 bs
    → (ps : List (List ℕ × A)) (hashes : BTreeMap ℕ ℕ) (others : BTreeMap (String Z) ℕ) → IsNumbered ps hashes others
    → value_at (chars bs) (get nat_cmp hashes (hash bs)) ps ≡ None → value_at (chars bs) (get_by_text others bs) ps
    ≡ None
    → first_of (chars bs) ps ≡ None
absent {Z} {A} bs u ps hashes others n a b = by (first_of (chars bs) ps) refl
  where
    here : (i : ℕ) (p : List ℕ × A) (o : Option ℕ) → o ≡ Some i → slice_get ps i ≡ Some p
        → bytes_eq (chars bs) p.0 ≡ true → value_at (chars bs) o ps ≡ None → ⊥
    here i p o e at f none =
        none-some p.1 (sym none ∙ ap (λ x. value_at (chars bs) x ps) e ∙ ap (value_if (chars bs)) at
        ∙ ap (λ c. if c then Some p.1 else None) f)

    by : (o : Option A) → first_of (chars bs) ps ≡ o → first_of (chars bs) ps ≡ None
    by None e = e
    by (Some v) e =
        let p = place_from_lookup (bytes_eq (chars bs)) ps v (finds (chars bs) ps ∙ e) in
        let f = n.finds p.0 (p.1, v) p.2 in
        let is : f.0 ≡ bs = chars_one f.0 bs f.1 u (f.2 ∙ sym ((bytes_eq-Decides (chars bs) p.1).0 p.3)) in
        absurd (
        elim (subst (λ x. Finds hashes others x p.0) is f.3) [
          | inl h ↦ here p.0 (p.1, v) (get nat_cmp hashes (hash bs)) h p.2 p.3 a
          | inr h ↦ here p.0 (p.1, v) (get_by_text others bs) h p.2 p.3 b
        ])

-- where no value is found by a hash, what is found by a name is what stands under it
pub found : {Z A : Type 0} (bs : List ℕ) → IsUtf8 bs
    → (ps : List (List ℕ × A)) (hashes : BTreeMap ℕ ℕ) (others : BTreeMap (String Z) ℕ) → IsNumbered ps hashes others
    → (o p : Option ℕ) → o ≡ get nat_cmp hashes (hash bs) → p ≡ get_by_text others bs → value_at (chars bs) o ps ≡ None
    → (r : Option A) → r ≡ value_at (chars bs) p ps → r ≡ first_of (chars bs) ps
found bs u ps hashes others n o p by_hash by_name none None e =
    sym (absent bs u ps hashes others n (ap (λ x. value_at (chars bs) x ps) (sym by_hash)
    ∙ none) (ap (λ x. value_at (chars bs) x ps) (sym by_name) ∙ sym e))
found bs u ps hashes others n o p by_hash by_name none (Some v) e = sym (right (chars bs) p ps v n.apart (sym e))

-- ---- no pairs

pub none_numbered : {Z A : Type 0} (ps : List (List ℕ × A)) (hashes : BTreeMap ℕ ℕ) (others : BTreeMap (String Z) ℕ)
    → ps ≡ [] → IsNumbered ps hashes others
unfolding IsDistinct
none_numbered ps hashes others none =
    record {
      finds = λ i p at. absurd (none-some p (ap (λ l. slice_get l i) (sym none) ∙ at));
      apart = rw none tt;
    }

-- ---- one pair more at the end

keys_end : {A : Type 0} (ps : List (List ℕ × A)) (p : List ℕ × A) → keys_of (ps ++ p ∷ []) ≡ keys_of ps ++ p.0 ∷ []
keys_end ps p = map-append (λ q. q.0) ps (p ∷ [])

-- a name under which nothing stands is none of the names
apart_from : {A : Type 0} (l : List ℕ) (ps : List (List ℕ × A)) → first_of l ps ≡ None
    → list_any (bytes_eq l) (keys_of ps) ≡ false
apart_from l [] h = refl
apart_from l (p ∷ ps) h = by (bytes_eq l p.0) refl (apart_from l ps)
  where
    by : (b : Bool) → bytes_eq l p.0 ≡ b → (first_of l ps ≡ None → list_any (bytes_eq l) (keys_of ps) ≡ false)
        → list_any (bytes_eq l) (keys_of (p ∷ ps)) ≡ false
    by true e rest = absurd (none-some p.1 (sym h ∙ ap (λ b. if b then Some p.1 else first_of l ps) e))
    by false e rest =
        ap (λ b. b || list_any (bytes_eq l) (keys_of ps)) e
        ∙ rest (ap (λ b. if b then Some p.1 else first_of l ps) (sym e) ∙ h)

-- an item of a list with one more is an item of the list, or that one
item_end : {X : Type 0} (xs : List X) (x : X) (i : ℕ) (y : X) → slice_get (xs ++ x ∷ []) i ≡ Some y
    → (slice_get xs i ≡ Some y) ⊎ ((i ≡ length xs) × (x ≡ y))
item_end [] x zero y e = inr (refl, grind (arith, e))
item_end [] x (suc i) y e = absurd (none-some y e)
item_end (z ∷ xs) x zero y e = inl e
item_end (z ∷ xs) x (suc i) y e = elim (item_end xs x i y e) [ inl h ↦ inl h | inr h ↦ inr (omega (arith, h.0), h.1) ]

item_before : {X : Type 0} (xs : List X) (x : X) (i : ℕ) (y : X) → slice_get xs i ≡ Some y
    → slice_get (xs ++ x ∷ []) i ≡ Some y
item_before [] x i y e = absurd (none-some y e)
item_before (z ∷ xs) x zero y e = e
item_before (z ∷ xs) x (suc i) y e = item_before xs x i y e

-- names that are apart stay so with a new one at the end
pub apart_end : {A : Type 0} (ps : List (List ℕ × A)) (l : List ℕ) (v : A) → IsDistinct bytes_eq (keys_of ps)
    → first_of l ps ≡ None → IsDistinct bytes_eq (keys_of (ps ++ (l, v) ∷ []))
apart_end ps l v d none =
    subst (IsDistinct bytes_eq) (sym (keys_end ps (l, v)))
    (IsDistinct-push nat_list_eq_equiv (keys_of ps) l d (apart_from l ps none))

-- names without the new one keep their numbers where those of other bytes are kept
pub kept_numbered : {Z A : Type 0} (ps : List (List ℕ × A)) (h0 h1 : BTreeMap ℕ ℕ) (o0 o1 : BTreeMap (String Z) ℕ) (bs :
    List ℕ) → first_of (chars bs) ps ≡ None → IsNumbered ps h0 o0
    → ((cs : List ℕ) (i : ℕ) → ¬ (cs ≡ bs) → Finds h0 o0 cs i → Finds h1 o1 cs i) → IsNumbered ps h1 o1
kept_numbered {Z} {A} ps h0 h1 o0 o1 bs none n keeps =
    record {
      finds = λ i p at. let f = n.finds i p at in
          (f.0, f.1, f.2, keeps f.0 i (λ e. other i p at (sym f.2 ∙ ap chars e)) f.3);
      apart = n.apart;
    }
  where
    other : (i : ℕ) (p : List ℕ × A) → slice_get ps i ≡ Some p → ¬ (p.0 ≡ chars bs)
    other i p at same = none-some p.1 (sym none ∙ ap (λ x. first_of x ps) (sym same) ∙ at_place ps i p n.apart at)

pub with_last : {Z A : Type 0} (ps : List (List ℕ × A)) (hashes : BTreeMap ℕ ℕ) (others : BTreeMap (String Z) ℕ) (l :
    List ℕ) (v : A) → first_of l ps ≡ None → IsNumbered ps hashes others → FindsName hashes others l (length ps)
    → IsNumbered (ps ++ (l, v) ∷ []) hashes others
with_last {Z} {A} ps hashes others l v none n new =
    record {
      finds = λ i p at. elim (item_end ps (l, v) i p at) [
        | inl h ↦ n.finds i p h
        | inr h ↦ subst (λ j. FindsName hashes others p.0 j) (sym h.0)
            (subst (λ (q : List ℕ × A). FindsName hashes others q.0 (length ps)) h.1 new)
      ];
      apart = apart_end ps l v n.apart none;
    }

-- ---- without the last pair

distinct_before : {A : Type 0} (ps : List (List ℕ × A)) (p : List ℕ × A) → IsDistinct bytes_eq (keys_of (ps ++ p ∷ []))
    → IsDistinct bytes_eq (keys_of ps)
unfolding IsDistinct
distinct_before [] p d = tt
distinct_before (x ∷ ps) p d = (before ps d.0, distinct_before ps p d.1)
  where
    before : (qs : List _) → AllByRecursion (λ y. bytes_eq x.0 y ≡ false) (keys_of (qs ++ p ∷ []))
        → AllByRecursion (λ y. bytes_eq x.0 y ≡ false) (keys_of qs)
    before [] a = tt
    before (q ∷ qs) a = (a.0, before qs a.1)

-- the names before the last keep their numbers where all but the last number are kept
pub without_last : {Z A : Type 0} (ps : List (List ℕ × A)) (p : List ℕ × A) (h0 h1 : BTreeMap ℕ ℕ) (o0 o1 :
    BTreeMap (String Z) ℕ) → IsNumbered (ps ++ p ∷ []) h0 o0
    → ((bs : List ℕ) (i : ℕ) → ¬ (i ≡ length ps) → Finds h0 o0 bs i → Finds h1 o1 bs i) → IsNumbered ps h1 o1
without_last ps p h0 h1 o0 o1 n keeps =
    record {
      finds = λ i q at.
          let f = n.finds i q (item_before ps p i q at) in
          (f.0, f.1, f.2, keeps f.0 i (λ e. let h = slice_get_within ps i q at in omega (arith, h, e)) f.3);
      apart = distinct_before ps p n.apart;
    }

-- ---- a change in a map of texts

-- what stands under other bytes stays
pub other_text : {Z X : Type 0} (bs cs : List ℕ) (m n : BTreeMap (String Z) X) (w : Option X)
    → UpdatesBy string_cmp (λ k. slice_cmp nat_cmp bs (string_bytes k)) m n w → ¬ (cs ≡ bs)
    → get_by_text n cs ≡ get_by_text m cs
other_text bs cs m n w updates other =
    let apart : bytes_eq bs cs ≡ false =
    false_from_ne_true (bytes_eq bs cs) (λ e. other (sym ((bytes_eq-Decides bs cs).0 e))) in
    btree_map_updates_text bs m n w updates cs ∙ ap (λ b. cond b w (get_by_text m cs)) apart

-- ---- a change in a map of hashes

-- what stands under another hash stays
pub other_number : (k q : ℕ) (m n : BTreeMap ℕ ℕ) (w : Option ℕ) → UpdatesBy nat_cmp (nat_cmp k) m n w → ¬ (q ≡ k)
    → get nat_cmp n q ≡ get nat_cmp m q
other_number k q m n w updates other =
    updates.2 q (false_from_ne_true (is_at (nat_cmp k) q)
    (λ e. other (sym (exact_unsigned k q ((Equal-is (nat_cmp k q)).0 e)))))

-- a number that is put in the place of another, and the other again, leaves the map as it was
pub put_back : {E : Type 0} (h0 h1 h2 : BTreeMap ℕ ℕ) (k v old : ℕ) (r : Result (Option ℕ) E)
    → UpdatesBy nat_cmp (nat_cmp k) h0 h1 (Some v) → get nat_cmp h0 k ≡ Some old
    → OnOk r (UpdatesBy nat_cmp (nat_cmp k) h1 h2 (Some old)) → OnErr r (get nat_cmp h1 k ≡ None) → (q : ℕ)
    → get nat_cmp h2 q ≡ get nat_cmp h0 q
put_back h0 h1 h2 k v old (Err e) put was again none q = absurd (none-some v (sym none ∙ put.1))
put_back h0 h1 h2 k v old (Ok x) put was again none q = by (is_at (nat_cmp k) q) refl
  where
    by : (b : Bool) → is_at (nat_cmp k) q ≡ b → get nat_cmp h2 q ≡ get nat_cmp h0 q
    by true e =
        let same : k ≡ q = exact_unsigned k q ((Equal-is (nat_cmp k q)).0 e) in
        again.0 q ∙ ap (λ b. cond b (Some old) (get nat_cmp h1 q)) e ∙ sym (ap (get nat_cmp h0) (sym same) ∙ was)
    by false e =
        again.0 q ∙ ap (λ b. cond b (Some old) (get nat_cmp h1 q)) e
        ∙ put.0 q ∙ ap (λ b. cond b (Some v) (get nat_cmp h0 q)) e
