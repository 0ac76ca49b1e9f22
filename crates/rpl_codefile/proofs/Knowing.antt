-- A set of keys that knows what stood in a list so far.
use Rattle.std.proofs.Common.{◌≡◌, ℕ, ◌+◌, ◌<◌, List, [], ◌∷◌, ◌++◌, length, take, Some, refl, sym, ap, ◌∙◌, subst}
use Rattle.std.proofs.Common.{arith, inl, inr, ⊎_elim, length-append, Ordering, Less, Equal, Greater}
use Rattle.std.proofs.lemmas.Bool.{cases_lt, false≢true}
use Rattle.std.proofs.lemmas.Cmp.{lists_total, nat_cmp_total, nat_list_cmp_total, on_total, then_total, tied_itself}
use Rattle.std.proofs.lemmas.List.{get_or-take, length-take-le, take_more}
use Rattle.std.proofs.lemmas.Option.{get_or_from_slice_get, slice_get-get_or, slice_get_within}
use Rattle.std.proofs.lemmas.List.{get_or_append_left}
use Rattle.std.proofs.lemmas.Str.{encodes-chars, IsUtf8-string_bytes}
use Rattle.std.specs.Prelude.{Bool, true, false, not, slice_get, slice_index_or, cond, ◌⊎◌, Vec, String, chars}
use Rattle.std.specs.Prelude.{encode_utf8_all, string_bytes}
use Rattle.std.specs.BTreeSet.{BTreeSet, contains, Updates}
use Rattle.std.specs.List.{Contains, list_any}
use Rattle.std.proofs.lemmas.Map.Lookups.{CmpEqualImpliesEq, exact_bytes, exact_pairs, exact_unsigned}
use Rattle.std.specs.Cmp.{IsTotalOrder}
use Rattle.std.specs.Cmp.Lexicographic.{slice_cmp}
use Rattle.std.specs.Ordering.{is_eq, nat_cmp, ordering_then}
use Rattle.regex_class.specs.Ranges.{Range}
use Rattle.rpl_codefile.specs.inside.Tables.{Apart}
use Rattle.rpl_codefile.proofs.Once.{apart_more, none_apart, there}
use Rattle.rpl_codefile.proofs.Numbered.{last_of}

then_equal : (a b : Ordering) → ordering_then a b ≡ Equal → (a ≡ Equal) × (b ≡ Equal)
then_equal Less b e = absurd (cc)
then_equal Equal b e = (refl, e)
then_equal Greater b e = absurd (cc)

-- lists are compared as equal only where they are
pub exact_lists : {A : Type 0} (P : A → A → Ordering) → CmpEqualImpliesEq P → CmpEqualImpliesEq (slice_cmp P)
exact_lists P exact [] [] e = refl
exact_lists P exact [] (y ∷ ys) e = absurd (cc)
exact_lists P exact (x ∷ xs) [] e = absurd (cc)
exact_lists P exact (x ∷ xs) (y ∷ ys) e =
    let both = then_equal (P x y) (slice_cmp P xs ys) e in
    cc (exact x y both.0, exact_lists P exact xs ys both.1)

-- ranges by their low ends, and then by their high ones
abbrev pub range_cmp : Range → Range → Ordering
range_cmp x y = ordering_then (nat_cmp x.0 y.0) (nat_cmp x.1 y.1)

pub range_total : IsTotalOrder range_cmp
range_total = then_total (on_total (λ (x : Range). x.0) nat_cmp_total) (on_total (λ (x : Range). x.1) nat_cmp_total)

pub range_exact : CmpEqualImpliesEq range_cmp
range_exact = exact_pairs nat_cmp nat_cmp exact_unsigned exact_unsigned

-- lists of ranges, as keys
abbrev pub ranges_cmp : {Z : Type 0} → Vec Range Z → Vec Range Z → Ordering
ranges_cmp x y = slice_cmp range_cmp x.items y.items

pub same_ranges : {Z : Type 0} (x y : Vec Range Z) → ranges_cmp x y ≡ Equal → x.items ≡ y.items
same_ranges x y e = exact_lists range_cmp range_exact x.items y.items e

pub tied_ranges : {Z : Type 0} (x y : Vec Range Z) → x.items ≡ y.items → ranges_cmp x y ≡ Equal
tied_ranges x y e = ap (slice_cmp range_cmp x.items) (sym e) ∙ tied_itself (lists_total range_total) x.items

-- texts, as keys
abbrev pub strings_cmp : {Z : Type 0} → String Z → String Z → Ordering
strings_cmp x y = slice_cmp nat_cmp (string_bytes x) (string_bytes y)

pub same_strings : {Z : Type 0} (x y : String Z) → strings_cmp x y ≡ Equal
    → chars (string_bytes x) ≡ chars (string_bytes y)
same_strings x y e = ap chars (exact_bytes (string_bytes x) (string_bytes y) e)

bytes_again : {Z : Type 0} (x : String Z) → encode_utf8_all (chars (string_bytes x)) ≡ string_bytes x
bytes_again x = encodes-chars (string_bytes x) (IsUtf8-string_bytes x)

pub tied_strings : {Z : Type 0} (x y : String Z) → chars (string_bytes x) ≡ chars (string_bytes y)
    → strings_cmp x y ≡ Equal
tied_strings x y e =
    let same : string_bytes y ≡ string_bytes x = sym (bytes_again y) ∙ ap encode_utf8_all (sym e) ∙ bytes_again x in
    ap (slice_cmp nat_cmp (string_bytes x)) same ∙ tied_itself nat_list_cmp_total (string_bytes x)

-- what stands in a list with one more at its end
among_more : {A : Type 0} (xs : List A) (y x : A) → Contains xs x → Contains (xs ++ y ∷ []) x
among_more xs y x c = (
  c.0,
  omega (arith, c.1, length-append xs (y ∷ [])),
  get_or_append_left xs (y ∷ []) x c.0 c.1
      ∙ c.2,
)

module _ {K A : Type 0} (R : K → K → Ordering) (f : K → A) where
  -- the first so many differ, and the set has the keys of just these
  pub record Knows (seen : BTreeSet K) (xs : List A) : Type 0 where
    pub apart : Apart xs
    pub had : (q : K) → contains R seen q ≡ true → Contains xs (f q)
    pub known : (q : K) → Contains xs (f q) → contains R seen q ≡ true

  pub knows_none : (seen : BTreeSet K) → seen.keys ≡ [] → Knows seen []
  knows_none seen none = record {
    apart = none_apart;
    had = λ q h. absurd (false≢true (sym (ap (list_any (λ k. is_eq (R q k))) none) ∙ h));
    known = λ q c. absurd (omega (arith, c.1));
  }

  -- one key more
  module _ (tied : (a b : K) → R a b ≡ Equal → f a ≡ f b) (ties : (a b : K) → f a ≡ f b → R a b ≡ Equal) (old new :
      BTreeSet K) (key : K) (xs : List A) (updates : Updates R old new key true) where
    equal_by : (o : Ordering) → is_eq o ≡ true → o ≡ Equal
    equal_by Less e = absurd (false≢true e)
    equal_by Equal e = refl
    equal_by Greater e = absurd (false≢true e)

    either : (b had : Bool) (P : Type 0) → (b ≡ true → P) → (had ≡ true → P) → cond b true had ≡ true → P
    either true had P x y e = x refl
    either false had P x y e = y e

    by_old : (b had : Bool) → had ≡ true → cond b true had ≡ true
    by_old true had e = refl
    by_old false had e = e

    at_end : (x : A) → f key ≡ x → Contains (xs ++ f key ∷ []) x
    at_end x e = there (xs ++ f key ∷ []) (length xs) x (last_of xs (f key) ∙ ap Some e)

    -- what stands in the longer list
    whose : (x : A) → Contains (xs ++ f key ∷ []) x → Contains xs x ⊎ (f key ≡ x)
    whose x c = ⊎_elim
        (λ lt. inl (c.0, lt, sym (get_or_append_left xs (f key ∷ []) x c.0 lt) ∙ c.2))
        (λ le. inr (sym (ends (c.0) (omega (arith, c.1, le, length-append xs (f key ∷ [])))) ∙ c.2))
        (cases_lt c.0 (length xs))
      where
        ends : (k : ℕ) → k ≡ length xs → slice_index_or (xs ++ f key ∷ []) k x ≡ f key
        ends k e = ap (λ j. slice_index_or (xs ++ f key ∷ []) j x) e
            ∙ get_or_from_slice_get (xs ++ f key ∷ []) (length xs) (f key) x (last_of xs (f key))

    pub knows_more : contains R old key ≡ false → Knows old xs → Knows new (xs ++ f key ∷ [])
    knows_more absent h = record {
      apart = apart_more xs (f key) (λ c. false≢true (sym absent ∙ h.known key c)) h.apart;
      had = λ q e. either (is_eq (R key q)) (contains R old q) (Contains (xs ++ f key ∷ []) (f q))
          (λ t. at_end (f q) (tied key q (equal_by (R key q) t)))
          (λ o. among_more xs (f key) (f q) (h.had q o))
          (sym (updates.0 q) ∙ e);
      known = λ q c. updates.0 q ∙ ⊎_elim
          (λ o. by_old (is_eq (R key q)) (contains R old q) (h.known q o))
          (λ t. ap (λ o. cond (is_eq o) true (contains R old q)) (ties key q t))
          (whose (f q) c);
    }

    -- the next of a list is new
    pub next_known : (all : List A) (i : ℕ) (x : A) (b : Bool) → xs ≡ take i all → slice_get all i ≡ Some x → f key ≡ x
        → b ≡ not (contains R old key) → b ≡ true → Knows old xs → Knows new (take (i + 1) all)
    next_known all i x b is at e added t h =
        let absent : contains R old key ≡ false = unset (contains R old key) (sym added ∙ t) in
        let more : xs ++ f key ∷ [] ≡ take (i + 1) all =
        ap (λ l. l ++ f key ∷ []) is ∙ ap (λ y. take i all ++ y ∷ []) (e ∙ sym (get_or_from_slice_get all i x x at))
        ∙ sym (take_more all i x (slice_get_within all i x at)) in
        subst (Knows new) more (knows_more absent h)
      where
        unset : (b : Bool) → not b ≡ true → b ≡ false
        unset true q = absurd (false≢true q)
        unset false q = refl

  -- or it was there before
  pub known_before : (old : BTreeSet K) (key : K) (all : List A) (i : ℕ) (x : A) (b : Bool) → slice_get all i ≡ Some x
      → f key ≡ x → b ≡ not (contains R old key) → b ≡ false → Knows old (take i all) → Apart all → ⊥
  known_before old key all i x b at e added t h apart =
      let there_is : contains R old key ≡ true = set_there (contains R old key) (sym added ∙ t) in
      let c : Contains (take i all) x = subst (Contains (take i all)) e (h.had key there_is) in
      let below : c.0 < i = omega (arith, c.1, length-take-le i all (omega (arith, slice_get_within all i x at))) in
      let read : slice_get all c.0 ≡ Some x =
      slice_get-get_or all c.0 x (omega (arith, below, slice_get_within all i x at))
      ∙ ap Some (sym (get_or-take i all c.0 x below) ∙ c.2) in
      omega (arith, below, apart c.0 i x read at)
    where
      set_there : (b : Bool) → not b ≡ false → b ≡ true
      set_there true q = refl
      set_there false q = absurd (false≢true (sym q))
