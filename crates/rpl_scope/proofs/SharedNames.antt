-- Names that modules share, and the names that come after them.
use Rattle.std.proofs.Common.{arith, ap₂, length-append, ◌^◌, ◌≡◌, ℕ, zero, suc, ◌+◌, ◌-◌, ◌<◌, ◌≤◌, List, [], ◌∷◌}
use Rattle.std.proofs.Common.{◌++◌, length, drop, get_or, Option, Some, None, true, false, true≢false, ◌⊎◌, inl, inr}
use Rattle.std.proofs.Common.{refl, sym, ap, subst, ◌∙◌, append_assoc}
use Rattle.std.specs.Prelude.{Bool, ◌||◌, if◌then◌else◌, IfOk, IfSome, IsTrue, Result, Ok, Err, OnOk, OnErr, chars}
use Rattle.std.specs.Borrow.{Bor}
use Rattle.std.specs.declared.rc.Rc.{Rc}
use Rattle.std.specs.List.{AllByRecursion, IsDistinct}
use Rattle.std.specs.Map.{keys_of}
use Rattle.std.specs.Str.{bytes_eq}
use Rattle.std.proofs.lemmas.Bool.{false_from_ne_true}
use Rattle.std.proofs.lemmas.List.{append-nil, drop_all}
use Rattle.std.proofs.lemmas.Map.Entries.{place_from_lookup}
use Rattle.std.proofs.lemmas.Option.{get_or_from_slice_get, none-some, slice_get_within}
use Rattle.std.proofs.lemmas.Slice.Eq.{bytes_eq-Decides}
use Rattle.std.specs.Prelude.{slice_get}
use Rattle.rpl_scope.specs.Faults.{◌>>=◌, in_turn}
use Rattle.rpl_scope.specs.Imports.{add_name, add_name_at, numbered}
use Rattle.rpl_scope.specs.Packages.{Module, Rule, first_of}
use Rattle.rpl_scope.specs.Pairs.{pair_found}
use Rattle.rpl_scope.specs.declared.module.Entry.{Entry}
use Rattle.rpl_scope.specs.Seen.{rules_seen}
use Rattle.rpl_scope.specs.declared.module.Rule.{Rule as DeclaredRule}
use Rattle.rpl_scope.specs.inside.Held.{AreDisjoint, AreNames, held}
use Rattle.rpl_scope.specs.Taken.{taken_names, taken_entry}
use Rattle.rpl_scope.proofs.Checking.{front}
use Rattle.rpl_scope.proofs.Maps.{apart_end, at_place, finds, nth_is}

-- ---- under a name

apart_by : {A : Type 0} (b : Bool) (y : A) (o e r : Option A) → (o ≡ None → e ≡ r) → (if b then Some y else o) ≡ None
    → (if b then Some y else e) ≡ r
apart_by true y o e r f h = absurd (cc)
apart_by false y o e r f h = f h

-- a name that isn't among the first names is looked up in the rest
pub first_after : {A : Type 0} (n : List ℕ) (ps qs : List (List ℕ × A)) → first_of n ps ≡ None
    → first_of n (ps ++ qs) ≡ first_of n qs
first_after n [] qs h = refl
first_after n (p ∷ ps) qs h =
    apart_by (bytes_eq n p.0) p.1 (first_of n ps) (first_of n (ps ++ qs)) (first_of n qs) (first_after n ps qs) h

none_by : {A : Type 0} (b : Bool) (y : A) (e r : Option A) → (e ≡ None → r ≡ None) → (if b then Some y else e) ≡ None
    → r ≡ None
none_by true y e r f h = absurd (cc)
none_by false y e r f h = f h

-- a name that isn't among all isn't among the last
pub none_last : {A : Type 0} (n : List ℕ) (ps qs : List (List ℕ × A)) → first_of n (ps ++ qs) ≡ None
    → first_of n qs ≡ None
none_last n [] qs h = h
none_last n (p ∷ ps) qs h = none_by (bytes_eq n p.0) p.1 (first_of n (ps ++ qs)) (first_of n qs) (none_last n ps qs) h

-- names that are apart stay so where a new one is put at the end, or none
pub put_apart : {A X E : Type 0} (r : Result X E) (ps own new : List (List ℕ × A)) (n : List ℕ) (v : A)
    → IsDistinct bytes_eq (keys_of (ps ++ own)) → first_of n (ps ++ own) ≡ None → OnOk r (new ≡ own ++ (n, v) ∷ [])
    → OnErr r (new ≡ own) → IsDistinct bytes_eq (keys_of (ps ++ new))
put_apart (Ok x) ps own new n v d none ok err =
    subst (λ l. IsDistinct bytes_eq (keys_of l)) (append_assoc ps own ((n, v) ∷ [])
    ∙ ap (λ l. ps ++ l) (sym ok)) (apart_end (ps ++ own) n v d none)
put_apart (Err e) ps own new n v d none ok err = subst (λ l. IsDistinct bytes_eq (keys_of (ps ++ l))) (sym err) d

-- ---- at a number

pub nth_past : {A : Type 0} (ps qs : List A) (i : ℕ) → slice_get ps i ≡ None
    → slice_get (ps ++ qs) i ≡ slice_get qs (i - length ps)
nth_past [] qs i h = ap (slice_get qs) (omega arith)
nth_past (p ∷ ps) qs zero h = absurd (cc)
nth_past (p ∷ ps) qs (suc i) h = nth_past ps qs i h ∙ ap (slice_get qs) (omega arith)

pub nth_first : {A : Type 0} (ps qs : List A) (i : ℕ) (x : A) → slice_get ps i ≡ Some x
    → slice_get (ps ++ qs) i ≡ Some x
nth_first [] qs i x h = absurd (cc)
nth_first (p ∷ ps) qs zero x h = h
nth_first (p ∷ ps) qs (suc i) x h = nth_first ps qs i x h

pub nth_none : {A : Type 0} (ps : List A) (i : ℕ) → slice_get ps i ≡ None → length ps ≤ i
nth_none [] i h = omega arith
nth_none (p ∷ ps) zero h = absurd (cc)
nth_none (p ∷ ps) (suc i) h = let le = nth_none ps i h in omega arith

pub nth_within : {A : Type 0} (ps : List A) (i : ℕ) (x : A) → slice_get ps i ≡ Some x → i < length ps
nth_within ps i x h = slice_get_within ps i x (sym (nth_is ps i) ∙ h)

-- of names that are apart, what stands at a number stands under its name
pub at_first : {A : Type 0} (o : Option (Bor (List ℕ) × A)) (ps : List (List ℕ × A)) (i : ℕ)
    → IsDistinct bytes_eq (keys_of ps) → pair_found o ≡ slice_get ps i
    → IfSome o (λ p. first_of (chars p.0.now) ps ≡ Some p.1)
at_first None ps i d e = tt
at_first (Some p) ps i d e = at_place ps i (chars p.0.now, p.1) d (sym (e ∙ nth_is ps i))

-- ---- names that are in one of two alone

pub disjoint_turned : {A : Type 0} (ps qs : List (List ℕ × A)) → AreDisjoint ps qs → AreDisjoint qs ps
disjoint_turned ps qs d = λ n. elim (d n) [ inl h ↦ inr h | inr h ↦ inl h ]

-- where each of the others isn't among the names
pub disjoint_by : {A : Type 0} (ps qs : List (List ℕ × A))
    → ((i : ℕ) (q : List ℕ × A) → slice_get qs i ≡ Some q → first_of q.0 ps ≡ None) → AreDisjoint ps qs
disjoint_by {A} ps qs new = λ n. by n (first_of n qs) refl
  where
    by : (n : List ℕ) (o : Option A) → first_of n qs ≡ o → (first_of n ps ≡ None) ⊎ (first_of n qs ≡ None)
    by n None e = inr e
    by n (Some v) e =
        let p = place_from_lookup (bytes_eq n) qs v (finds n qs ∙ e) in
        inl (ap (λ w. first_of w ps) ((bytes_eq-Decides n p.1).0 p.3) ∙ new p.0 (p.1, v) (nth_is qs p.0 ∙ p.2))

-- two lists, one after the other
pub disjoint_more : {A : Type 0} (ps qs ns : List (List ℕ × A)) → AreDisjoint ps ns → AreDisjoint qs ns
    → AreDisjoint (ps ++ qs) ns
disjoint_more ps qs ns d e = λ n. elim (d n) [
  | inl h ↦ elim (e n) [ inl g ↦ inl (first_after n ps qs h ∙ g) | inr g ↦ inr g ]
  | inr h ↦ inr h
]

-- a name that isn't there is no key
keys_apart : {A : Type 0} (n : List ℕ) (ps qs : List (List ℕ × A))
    → AllByRecursion (λ y. bytes_eq n y ≡ false) (keys_of ps) → first_of n qs ≡ None
    → AllByRecursion (λ y. bytes_eq n y ≡ false) (keys_of (ps ++ qs))
keys_apart n (p ∷ ps) qs a h = (a.0, keys_apart n ps qs a.1 h)
keys_apart n [] [] a h = tt
keys_apart n [] (q ∷ qs) a h = by (bytes_eq n q.0) refl (keys_apart n [] qs tt)
  where
    by : (b : Bool) → bytes_eq n q.0 ≡ b
        → (first_of n qs ≡ None → AllByRecursion (λ y. bytes_eq n y ≡ false) (keys_of qs))
        → AllByRecursion (λ y. bytes_eq n y ≡ false) (keys_of (q ∷ qs))
    by true e rest = absurd (none-some q.1 (sym h ∙ ap (λ b. if b then Some q.1 else first_of n qs) e))
    by false e rest = (e, rest (sym (ap (λ b. if b then Some q.1 else first_of n qs) e) ∙ h))

-- names that are apart on both sides are apart among all
pub apart_all : {A : Type 0} (ps qs : List (List ℕ × A)) → IsDistinct bytes_eq (keys_of ps)
    → IsDistinct bytes_eq (keys_of qs) → AreDisjoint ps qs → IsDistinct bytes_eq (keys_of (ps ++ qs))
unfolding IsDistinct
apart_all [] qs d e new = e
apart_all {A} (p ∷ ps) qs d e new = (
  keys_apart p.0 ps qs d.0 there,
  apart_all ps qs d.1 e (λ n. elim (new n) [
    | inl h ↦
        inl (none_by (bytes_eq n p.0) p.1 (first_of n ps) (first_of n ps) (λ g. g) h)
    | inr h ↦ inr h
  ]),
)
  where
    there : first_of p.0 qs ≡ None
    there = elim (new p.0) [
      | inl h ↦ absurd (none-some p.1 (sym h
          ∙ ap (λ b. if b then Some p.1 else first_of p.0 ps) ((bytes_eq-Decides p.0 p.0).1 refl)))
      | inr h ↦ h
    ]

-- ---- tables of names

module _ {Z : Type 0} where
  -- the tables from one on
  pub held_front : (ts : List (Rc (List (List ℕ × Entry)) Z)) (k : ℕ) (t : Rc (List (List ℕ × Entry)) Z) → k < length ts
      → t ≡ get_or ts k t → held (drop k ts) ≡ t.value ++ held (drop (k + 1) ts)
  held_front ts k t lt is = ap held (front ts k t lt is)

  -- one table more
  pub held_end : (ts : List (Rc (List (List ℕ × Entry)) Z)) (t : Rc (List (List ℕ × Entry)) Z)
      → held (ts ++ t ∷ []) ≡ held ts ++ t.value
  held_end [] t = append-nil t.value
  held_end (s ∷ ts) t = ap (λ l. s.value ++ l) (held_end ts t) ∙ sym (append_assoc s.value (held ts) t.value)

  module _ (ts us : List (Rc (List (List ℕ × Entry)) Z)) (t : Rc (List (List ℕ × Entry)) Z) (own ns :
      List (List ℕ × Entry)) (are : us ≡ ts ++ t ∷ []) (of : t.value ≡ ns) (none : own ≡ []) where
    -- tables with one more, and no names beside them
    pub joined : held us ++ own ≡ held ts ++ ns
    joined = ap₂ (λ l o. held l ++ o) are none ∙ append-nil (held (ts ++ t ∷ [])) ∙ held_end ts t
        ∙ ap (λ l. held ts ++ l) of

    pub joined_names : IsDistinct bytes_eq (keys_of (held ts ++ ns)) → length (held ts) + length ns ≤ 2 ^ 62
        → AreNames us own
    joined_names d room =
        let count : length (held us) ≡ length (held ts) + length ns =
        ap length (ap held are ∙ held_end ts t ∙ ap (λ l. held ts ++ l) of) ∙ length-append (held ts) ns in
        record { apart = subst (λ l. IsDistinct bytes_eq (keys_of l)) (sym joined) d; few = omega (arith, count, room) }

  -- a table of other names, where there are none beside the tables
  pub apart_joined : (ts us : List (Rc (List (List ℕ × Entry)) Z)) (own ns ms : List (List ℕ × Entry)) → us ≡ ts
      → ms ≡ ns → own ≡ [] → AreNames ts own → IsDistinct bytes_eq (keys_of ms) → AreDisjoint (held us) ms
      → IsDistinct bytes_eq (keys_of (held ts ++ ns))
  apart_joined ts us own ns ms are same none n d new =
      apart_all (held ts) ns (subst (λ l. IsDistinct bytes_eq (keys_of l)) (ap (λ o. held ts ++ o) none
      ∙ append-nil (held ts)) n.apart)
      (subst (λ l. IsDistinct bytes_eq (keys_of l)) same d)
      (subst (λ l. AreDisjoint (held ts) l) same (subst (λ l. AreDisjoint (held l) ms) are new))

-- ---- names beside the rules of a module

drop_nth : {A : Type 0} (xs : List A) (j : ℕ) (x : A) → slice_get xs j ≡ Some x → drop j xs ≡ x ∷ drop (j + 1) xs
drop_nth xs j x h =
    let at = sym (nth_is xs j) ∙ h in
    front xs j x (slice_get_within xs j x at) (sym (get_or_from_slice_get xs j x x at))

module _ (n i : ℕ) (rs : List DeclaredRule) (k : ℕ) where
  -- what is taken in of the rules from a number on
  abbrev pub from : ℕ → List (List ℕ × Entry)
  from j = taken_names n i (numbered j (rules_seen (drop j rs)))

  module _ (r : DeclaredRule) (lt : k < length rs) (is : r ≡ get_or rs k r) where
    by : (b : Bool) → (r.local || r.hidden) ≡ b
        → from k ≡ (if b then from (k + 1) else (r.name, taken_entry n i k) ∷ from (k + 1))
    by b e =
        ap (λ xs. taken_names n i (numbered k (rules_seen xs))) (front rs k r lt is)
        ∙ ap (λ c. if c then from (k + 1) else (r.name, taken_entry n i k) ∷ from (k + 1)) e

    -- a rule that others don't see is passed over
    pub passed : (ps : List (List ℕ × Entry)) → (r.local || r.hidden) ≡ true → ps ≡ from (k + 1) → ps ≡ from k
    passed ps e h = h ∙ sym (by true e)

    -- any other rule stands next
    pub stands : (ps : List (List ℕ × Entry)) (j : ℕ) → (r.local || r.hidden) ≡ false
        → slice_get ps j ≡ Some (r.name, taken_entry n i k) → drop (j + 1) ps ≡ from (k + 1) → drop j ps ≡ from k
    stands ps j e at h = drop_nth ps j (r.name, taken_entry n i k) at ∙ ap (λ x. (r.name, taken_entry n i k) ∷ x) h
        ∙ sym (by false e)

  -- and after the last rule there is nothing more
  pub ended : (ps : List (List ℕ × Entry)) (j : ℕ) → length rs ≤ k → length ps ≤ j → drop j ps ≡ from k
  ended ps j le full = drop_all j ps full
      ∙ sym (ap (λ xs. taken_names n i (numbered k (rules_seen xs))) (drop_all k rs le))

-- ---- names that are taken in all at once

abbrev pub holding : Module → List (List ℕ × Entry) → Module
holding m ns =
    record { path = m.path; label = m.label; texts = m.texts; rules = m.rules; prefixes = m.prefixes; names = ns }

after_all : (w : List ℕ) (e : Entry) (v : List ℕ) (ps qs : List (List ℕ × Entry))
    → AllByRecursion (λ y. bytes_eq v y ≡ false) (keys_of (ps ++ (w, e) ∷ qs)) → bytes_eq v w ≡ false
after_all w e v [] qs a = a.0
after_all w e v (p ∷ ps) qs a = after_all w e v ps qs a.1

turned : (v w : List ℕ) → bytes_eq v w ≡ false → bytes_eq w v ≡ false
turned v w h =
    false_from_ne_true (bytes_eq w v)
    (λ t. true≢false (sym ((bytes_eq-Decides v w).1 (sym ((bytes_eq-Decides w v).0 t))) ∙ h))

-- of names that are apart, one isn't among those before it
new_name : (w : List ℕ) (e : Entry) (ps qs : List (List ℕ × Entry)) → IsDistinct bytes_eq (keys_of (ps ++ (w, e) ∷ qs))
    → first_of w ps ≡ None
unfolding IsDistinct
new_name w e [] qs d = refl
new_name w e (p ∷ ps) qs d =
    ap (λ b. if b then Some p.1 else first_of w ps) (turned p.0 w (after_all w e p.0 ps qs d.0))
    ∙ new_name w e ps qs d.1

module _ (f : List ℕ) (at i : ℕ) (m : Module) where
  abbrev pub of : List (ℕ × Rule) → List (List ℕ × Entry)
  of rs = taken_names (length m.rules) i rs

  -- what a rule brings, and what comes of the rules after it
  abbrev pub pair : ℕ × Rule → List ℕ × Entry
  pair r = (r.1.name, taken_entry (length m.rules) i r.0)

  abbrev pub pairs_by : Bool → ℕ × Rule → List (List ℕ × Entry) → List (List ℕ × Entry)
  pairs_by b r ps = if b then ps else pair r ∷ ps

  abbrev pub IsTaken : List (ℕ × Rule) → List (List ℕ × Entry) → Type 0
  IsTaken rs done = in_turn (add_name f at i) rs (holding m done) ≡ Ok (holding m (done ++ of rs))

  first : (b : Bool) (r : ℕ × Rule) (rs : List (ℕ × Rule)) (done : List (List ℕ × Entry))
      → (r.1.local || r.1.hidden) ≡ b
      → in_turn (add_name f at i) (r ∷ rs) (holding m done)
      ≡ ((if b then Ok (holding m done)
      else add_name_at (first_of r.1.name done) f at i r.0 r.1.name (holding m done)) >>= in_turn (add_name f at i)
      rs)
  first b r rs done e =
      ap (λ c. (if c then Ok (holding m done)
      else add_name_at (first_of r.1.name done) f at i r.0 r.1.name (holding m done)) >>= in_turn (add_name f at i)
      rs) e

  unseen : (r : ℕ × Rule) (rs : List (ℕ × Rule)) (done : List (List ℕ × Entry)) → (r.1.local || r.1.hidden) ≡ true
      → IsTaken rs done → IsTaken (r ∷ rs) done
  unseen r rs done e h = first true r rs done e ∙ h ∙ ap (λ c. Ok (holding m (done ++ pairs_by c r (of rs)))) (sym e)

  seen : (r : ℕ × Rule) (rs : List (ℕ × Rule)) (done : List (List ℕ × Entry)) → (r.1.local || r.1.hidden) ≡ false
      → first_of r.1.name done ≡ None → IsTaken rs (done ++ pair r ∷ []) → IsTaken (r ∷ rs) done
  seen r rs done e none h =
      first false r rs done e
      ∙ ap (λ o. add_name_at o f at i r.0 r.1.name (holding m done) >>= in_turn (add_name f at i) rs) none
      ∙ h ∙ ap (λ l. Ok (holding m l)) (append_assoc done (pair r ∷ []) (of rs))
      ∙ ap (λ c. Ok (holding m (done ++ pairs_by c r (of rs)))) (sym e)

  abbrev pub AreApart : List (List ℕ × Entry) → Type 0
  AreApart ps = IsDistinct bytes_eq (keys_of ps)

  all_taken : (rs : List (ℕ × Rule)) (done : List (List ℕ × Entry)) → AreApart (done ++ of rs) → IsTaken rs done
  all_taken [] done d = ap (λ l. Ok (holding m l)) (sym (append-nil done))
  all_taken (r ∷ rs) done d = by (all_taken rs) (r.1.local || r.1.hidden) refl
    where
      by : ((done : List (List ℕ × Entry)) → AreApart (done ++ of rs) → IsTaken rs done) → (b : Bool)
          → (r.1.local || r.1.hidden) ≡ b → IsTaken (r ∷ rs) done
      by rest true e = unseen r rs done e (rest done (subst (λ b. AreApart (done ++ pairs_by b r (of rs))) e d))
      by rest false e =
          let apart = subst (λ b. AreApart (done ++ pairs_by b r (of rs))) e d in
          seen r rs done e (new_name r.1.name (taken_entry (length m.rules) i r.0) done (of rs) apart)
          (rest (done ++ pair r ∷ []) (subst AreApart (sym (append_assoc done (pair r ∷ []) (of rs))) apart))

-- names that a module shares are all that it takes in
pub all_shared : {E : Type 0} (i : ℕ) (m : Module) (ps new : List (List ℕ × Entry)) (rs : List (ℕ × Rule)) (r :
    Result Bool E) → ps ≡ taken_names (length m.rules) i rs
    → IfOk r (λ joined. new ≡ (if joined then m.names ++ ps else m.names)) → IsDistinct bytes_eq (keys_of new)
    → IfOk r (λ shared. IsTrue shared → (f : List ℕ) (at : ℕ) → in_turn (add_name f at i) rs m ≡ Ok (holding m new))
all_shared i m ps new rs (Err e) is j d = tt
all_shared i m ps new rs (Ok false) is j d = λ e. absurd (true≢false (sym e))
all_shared i m ps new rs (Ok true) is j d =
    let all : new ≡ m.names ++ taken_names (length m.rules) i rs = j ∙ ap (λ l. m.names ++ l) is in
    λ e f at. all_taken f at i m rs m.names (subst (λ l. IsDistinct bytes_eq (keys_of l)) all d)
    ∙ ap (λ l. Ok (holding m l)) (sym all)
