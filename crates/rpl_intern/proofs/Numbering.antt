-- Rows and their numbers.
use Rattle.std.proofs.Common.{◌≡◌, ℕ, zero, suc, List, [], ◌∷◌, ◌++◌, length, Some, None, Ordering, Less, Equal}
use Rattle.std.proofs.Common.{Greater, Bool, true, false, refl, sym, ap, ◌∙◌, subst, inl, inr, arith, length-append}
use Rattle.std.proofs.lemmas.Bool.{false≢true}
use Rattle.std.proofs.lemmas.Option.{none-some, slice_get-get_or, slice_get_within}
use Rattle.std.specs.BTreeMap.{BTreeMap, Updates, get}
use Rattle.std.specs.Bool.{Decides}
use Rattle.std.specs.Cmp.Lexicographic.{lists_ties, pointwise_decides, slice_cmp}
use Rattle.std.proofs.lemmas.List.{get_or_append_left}
use Rattle.std.proofs.lemmas.List.Elements.{All-append}
use Rattle.std.specs.List.{All, Contains}
use Rattle.std.specs.Ordering.{eq_by_cmp, is_eq}
use Rattle.std.specs.Prelude.{Err, IfOk, Ok, OnOk, Result, Vec, cond, slice_get, ◌↔◌}
use Rattle.rpl_intern.specs.Uses.{Keeps}
use Rattle.rpl_intern.specs.inside.Numbers.{IsNumbered, row_cmp}
use Rattle.rpl_intern.proofs.Adding.{front_stays, held, last_stands}
use Rattle.rpl_intern.proofs.Ordering.{at_end}

some_is : {A : Type 0} (x y : A) → Some x ≡ Some y → x ≡ y
some_is x y e = cc

at_number : {A : Type 0} (xs : List A) (x : A) (k : ℕ) → length xs ≡ k → slice_get (xs ++ x ∷ []) k ≡ Some x
at_number xs x k e = ap (λ n. slice_get (xs ++ x ∷ []) n) (sym e) ∙ last_stands xs x

tied : (o : Ordering) → is_eq o ≡ true → o ≡ Equal
tied Less e = absurd (false≢true e)
tied Equal e = refl
tied Greater e = absurd (false≢true e)

-- rows compare as equal exactly where they are
abbrev pub IsExact : {A : Type 0} → (A → A → Ordering) → Type 0
IsExact {A} cmp = (x y : List A) → (slice_cmp cmp x y ≡ Equal) ↔ (x ≡ y)

pub exact_rows : {A : Type 0} (eq : A → A → Bool) (cmp : A → A → Ordering) → ((x y : A) → Decides (eq x y) (x ≡ y))
    → ((x y : A) → eq x y ≡ eq_by_cmp cmp x y) → IsExact cmp
exact_rows eq cmp decides ties x y = (
  λ e. (pointwise_decides decides x y).0 (lists_ties cmp ties x y ∙ ap is_eq e),
  λ e. tied (slice_cmp cmp x y) (sym (lists_ties cmp ties x y) ∙ (pointwise_decides decides x y).1 e),
)

module _ {Z A : Type 0} (cmp : A → A → Ordering) where
  -- a row without a number isn't there
  pub not_there : (rows : List (List A)) (numbers : BTreeMap (Vec A Z) ℕ) (v : Vec A Z) → IsNumbered cmp rows numbers
      → get (row_cmp cmp) numbers v ≡ None → Contains rows v.items → ⊥
  not_there rows numbers v n none c =
      none-some c.0 (sym none ∙ (n v c.0).1 (slice_get-get_or rows c.0 v.items c.1 ∙ ap Some c.2))

  module _ (exact : IsExact cmp) (rows : List (List A)) (old new : BTreeMap (Vec A Z) ℕ) where
    -- a new row at the end
    pub one_more : (key : Vec A Z) (x : List A) → key.items ≡ x → (Contains rows x → ⊥) → IsNumbered cmp rows old
        → Updates (row_cmp cmp) old new key (Some (length rows)) → IsNumbered cmp (rows ++ x ∷ []) new
    one_more key x is absent n updates v k = by (row_cmp cmp key v) refl
      where
        other : is_eq (row_cmp cmp key v) ≡ false
            → (get (row_cmp cmp) new v ≡ Some k) ↔ (slice_get (rows ++ x ∷ []) k ≡ Some v.items)
        other f =
            let same : get (row_cmp cmp) new v ≡ get (row_cmp cmp) old v = updates.0 v
            ∙ ap (λ b. cond b (Some (length rows)) (get (row_cmp cmp) old v)) f in (
              λ e. front_stays rows (x ∷ []) k v.items ((n v k).0 (sym same ∙ e)),
              λ e. elim (at_end rows x k v.items e) [
                | inl h ↦ same ∙ (n v k).1 h
                | inr h ↦ absurd (false≢true (sym f ∙ ap is_eq ((exact key.items v.items).1 (is ∙ h.1))))
              ],
            )

        by : (o : Ordering) → row_cmp cmp key v ≡ o
            → (get (row_cmp cmp) new v ≡ Some k) ↔ (slice_get (rows ++ x ∷ []) k ≡ Some v.items)
        by Less o = other (ap is_eq o)
        by Greater o = other (ap is_eq o)
        by Equal o =
            let same : key.items ≡ v.items = (exact key.items v.items).0 o in
            let is_last : get (row_cmp cmp) new v ≡ Some (length rows) = updates.0 v
            ∙ ap (λ b. cond b (Some (length rows)) (get (row_cmp cmp) old v)) (ap is_eq o) in
            let here : x ≡ v.items = sym is ∙ same in (
              λ e. at_number rows x k (some_is (length rows) k (sym is_last ∙ e)) ∙ ap Some here,
              λ e. elim (at_end rows x k v.items e) [
                | inl h ↦ absurd (absent (held rows k x (h ∙ ap Some (sym here))))
                | inr h ↦ is_last ∙ ap Some (sym h.0)
              ],
            )

  module _ (exact : IsExact cmp) (rows : List (List A)) (old new : BTreeMap (Vec A Z) ℕ) where
    -- without the last row
    pub one_less : (key : Vec A Z) (x : List A) → key.items ≡ x → IsNumbered cmp (rows ++ x ∷ []) old
        → Updates (row_cmp cmp) old new key None → IsNumbered cmp rows new
    one_less key x is n updates v k = by (row_cmp cmp key v) refl
      where
        other : is_eq (row_cmp cmp key v) ≡ false
            → (get (row_cmp cmp) new v ≡ Some k) ↔ (slice_get rows k ≡ Some v.items)
        other f =
            let same : get (row_cmp cmp) new v ≡ get (row_cmp cmp) old v = updates.0 v
            ∙ ap (λ b. cond b None (get (row_cmp cmp) old v)) f in (
              λ e. elim (at_end rows x k v.items ((n v k).0 (sym same ∙ e))) [
                | inl h ↦ h
                | inr h ↦ absurd (false≢true (sym f ∙ ap is_eq ((exact key.items v.items).1 (is ∙ h.1))))
              ],
              λ e. same ∙ (n v k).1 (front_stays rows (x ∷ []) k v.items e),
            )

        by : (o : Ordering) → row_cmp cmp key v ≡ o
            → (get (row_cmp cmp) new v ≡ Some k) ↔ (slice_get rows k ≡ Some v.items)
        by Less o = other (ap is_eq o)
        by Greater o = other (ap is_eq o)
        by Equal o =
            let same : key.items ≡ v.items = (exact key.items v.items).0 o in
            let gone : get (row_cmp cmp) new v ≡ None = updates.0 v
            ∙ ap (λ b. cond b None (get (row_cmp cmp) old v)) (ap is_eq o) in
            let here : x ≡ v.items = sym is ∙ same in (
              λ e. absurd (none-some k (sym gone ∙ e)),
              λ e.
                  let at_end : get (row_cmp cmp) old v ≡ Some (length rows) = (n v (length rows)).1 (last_stands rows x
                  ∙ ap Some here) in
                  let at_k : get (row_cmp cmp) old v ≡ Some k = (n v k).1 (front_stays rows (x ∷ []) k v.items e) in
                  let both : length rows ≡ k = some_is (length rows) k (sym at_end ∙ at_k) in
                  absurd (omega (arith, both, slice_get_within rows k v.items e)),
            )

-- what holds of all rows and of one more
pub all_more : {A : Type 0} (P : List A → Type 0) (rows : List (List A)) (x : List A) → All P rows → P x
    → All P (rows ++ x ∷ [])
all_more P rows x all here = All-append P rows (x ∷ []) all one
  where
    one : All P (x ∷ [])
    one zero d lt = here
    one (suc i) d lt = absurd (omega arith)

pub all_front : {A : Type 0} (P : List A → Type 0) (rows : List (List A)) (x : List A) → All P (rows ++ x ∷ [])
    → All P rows
all_front P rows x all k d lt =
    subst P (get_or_append_left rows (x ∷ []) d k lt) (all k d (omega (arith, lt, length-append rows (x ∷ []))))

-- a new row, added
pub added_keeps : {A N E : Type 0} (r : Result N E) (old new : List A) (x : A) → (Contains old x → ⊥)
    → OnOk r (new ≡ old ++ x ∷ []) → IfOk r (λ k. Keeps old (x ∷ []) new)
added_keeps (Ok k) old new x absent e = inr (absent, e)
added_keeps (Err h) old new x absent e = tt

pub added_at : {A E : Type 0} (r : Result ℕ E) (old new : List A) (x : A) → OnOk r (new ≡ old ++ x ∷ [])
    → IfOk r (λ k. k ≡ length old) → IfOk r (λ k. slice_get new k ≡ Some x)
added_at (Ok k) old new x e n = ap (λ l. slice_get l k) e ∙ at_number old x k (sym n)
added_at (Err h) old new x e n = tt
