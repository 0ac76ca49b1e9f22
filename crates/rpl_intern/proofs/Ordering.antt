-- What a table that keeps its uses is.
use Rattle.std.proofs.Common.{◌≡◌, ◌⊎◌, inl, inr, ℕ, zero, suc, List, [], ◌∷◌, ◌++◌, length, Some, refl, sym, ap, subst}
use Rattle.std.proofs.Common.{◌∙◌, arith, append_assoc}
use Rattle.std.specs.Prelude.{slice_get}
use Rattle.std.specs.List.{Contains}
use Rattle.std.proofs.lemmas.List.{append-nil}
use Rattle.std.proofs.lemmas.List.Elements.{Contains-append_left, Contains-append_right, Contains-append_cases}
use Rattle.std.proofs.lemmas.List.Elements.{Contains-push, Contains-push_cases}
use Rattle.rpl_intern.specs.Laws.{SameMembers, TablesAreOfUses, OneTable}
use Rattle.rpl_intern.specs.Uses.{Keeps, KeepsOnce}
use Rattle.rpl_intern.proofs.Adding.{held}

module _ {A : Type 0} where
  -- ---- members

  never : (x : A) → Contains [] x → ⊥
  never x c = let lt = c.1 in omega (arith, lt)

  lone : (y x : A) → Contains (y ∷ []) x → y ≡ x
  lone y x c = by (Contains-push_cases [] y x c)
    where
      by : Contains [] x ⊎ (y ≡ x) → y ≡ x
      by (inl h) = absurd (never x h)
      by (inr h) = h

  front_has : (y x : A) (xs : List A) → y ≡ x → Contains (y ∷ xs) x
  front_has y x xs e = subst (Contains (y ∷ xs)) e (held (y ∷ xs) 0 y refl)

  further : (y x : A) (xs : List A) → Contains xs x → Contains (y ∷ xs) x
  further y x xs c = Contains-append_right (y ∷ []) xs x c

  -- the table stands at the front of what it becomes
  grows : (t xs u : List A) → Keeps t xs u → (rest : List A) × (u ≡ t ++ rest)
  grows t [] u e = ([], e ∙ sym (append-nil t))
  grows t (x ∷ xs) u (inl h) = grows t xs u h.1
  grows t (x ∷ xs) u (inr h) =
      let g = grows (t ++ x ∷ []) xs u h.1 in (x ∷ g.0, g.1 ∙ append_assoc t (x ∷ []) g.0)

  old_there : (t xs u : List A) (x : A) → Keeps t xs u → Contains t x → Contains u x
  old_there t xs u x k c =
      let g = grows t xs u k in subst (λ l. Contains l x) (sym g.1) (Contains-append_left t g.0 x c)

  of_either : (t xs : List A) (y x : A) → Contains (t ++ y ∷ []) x ⊎ Contains xs x → Contains t x ⊎ Contains (y ∷ xs) x
  of_either t xs y x (inl c) = by (Contains-push_cases t y x c)
    where
      by : Contains t x ⊎ (y ≡ x) → Contains t x ⊎ Contains (y ∷ xs) x
      by (inl h) = inl h
      by (inr e) = inr (front_has y x xs e)
  of_either t xs y x (inr c) = inr (further y x xs c)

  one_further : (t xs : List A) (y x : A) → Contains t x ⊎ Contains xs x → Contains t x ⊎ Contains (y ∷ xs) x
  one_further t xs y x (inl c) = inl c
  one_further t xs y x (inr c) = inr (further y x xs c)

  -- what it holds was there, or is used
  from : (t xs u : List A) (x : A) → Keeps t xs u → Contains u x → Contains t x ⊎ Contains xs x
  from t [] u x e c = inl (subst (λ l. Contains l x) e c)
  from t (y ∷ xs) u x (inl h) c = one_further t xs y x (from t xs u x h.1 c)
  from t (y ∷ xs) u x (inr h) c = of_either t xs y x (from (t ++ y ∷ []) xs u x h.1 c)

  here_or_on : (y x : A) (xs u : List A) → (y ≡ x → Contains u x) → (Contains xs x → Contains u x)
      → Contains (y ∷ []) x ⊎ Contains xs x → Contains u x
  here_or_on y x xs u f g (inl c) = f (lone y x c)
  here_or_on y x xs u f g (inr c) = g c

  -- what is used is in it
  used : (t xs u : List A) (x : A) → Keeps t xs u → Contains xs x → Contains u x
  used t [] u x e c = absurd (never x c)
  used t (y ∷ xs) u x (inl h) c =
      here_or_on y x xs u (λ e. subst (Contains u) e (old_there t xs u y h.1 h.0)) (used t xs u x h.1)
      (Contains-append_cases (y ∷ []) xs x c)
  used t (y ∷ xs) u x (inr h) c =
      here_or_on y x xs u (λ e. subst (Contains u) e (old_there (t ++ y ∷ []) xs u y h.1 (Contains-push t y)))
      (used (t ++ y ∷ []) xs u x h.1) (Contains-append_cases (y ∷ []) xs x c)

  no_old : (x : A) (xs : List A) → Contains [] x ⊎ Contains xs x → Contains xs x
  no_old x xs (inl c) = absurd (never x c)
  no_old x xs (inr c) = c

  members : (xs u : List A) → KeepsOnce xs u → SameMembers xs u
  members xs u k x = (used [] xs u x k, λ c. no_old x xs (from [] xs u x k c))

  -- ---- each once

  abbrev Once : List A → Type 0
  Once t = (i j : ℕ) (x : A) → slice_get t i ≡ Some x → slice_get t j ≡ Some x → i ≡ j

  pub at_end : (t : List A) (y : A) (i : ℕ) (x : A) → slice_get (t ++ y ∷ []) i ≡ Some x
      → (slice_get t i ≡ Some x) ⊎ ((i ≡ length t) × (y ≡ x))
  at_end [] y zero x e = inr (refl, cc)
  at_end [] y (suc i) x e = absurd (cc)
  at_end (z ∷ t) y zero x e = inl e
  at_end (z ∷ t) y (suc i) x e = by (at_end t y i x e)
    where
      by : (slice_get t i ≡ Some x) ⊎ ((i ≡ length t) × (y ≡ x))
          → (slice_get t i ≡ Some x) ⊎ ((suc i ≡ length (z ∷ t)) × (y ≡ x))
      by (inl h) = inl h
      by (inr h) = inr (ap suc h.0, h.1)

  module _ (t : List A) (y : A) (new : Contains t y → ⊥) (o : Once t) where
    by_ends : (i j : ℕ) (x : A) → (slice_get t i ≡ Some x) ⊎ ((i ≡ length t) × (y ≡ x))
        → (slice_get t j ≡ Some x) ⊎ ((j ≡ length t) × (y ≡ x)) → i ≡ j
    by_ends i j x (inl f) (inl g) = o i j x f g
    by_ends i j x (inl f) (inr g) = absurd (new (subst (Contains t) (sym g.1) (held t i x f)))
    by_ends i j x (inr f) (inl g) = absurd (new (subst (Contains t) (sym f.1) (held t j x g)))
    by_ends i j x (inr f) (inr g) = f.0 ∙ sym g.0

    once_more : Once (t ++ y ∷ [])
    once_more i j x f g = by_ends i j x (at_end t y i x f) (at_end t y j x g)

  once : (t xs u : List A) → Once t → Keeps t xs u → Once u
  once t [] u o e = subst Once (sym e) o
  once t (x ∷ xs) u o (inl h) = once t xs u o h.1
  once t (x ∷ xs) u o (inr h) = once (t ++ x ∷ []) xs u (once_more t x h.0 o) h.1

  -- ---- in order

  split : (t xs ys v : List A) → Keeps t (xs ++ ys) v → (u : List A) × Keeps t xs u × Keeps u ys v
  split t [] ys v k = (t, refl, k)
  split t (x ∷ xs) ys v (inl h) = let g = split t xs ys v h.1 in (g.0, inl (h.0, g.1), g.2)
  split t (x ∷ xs) ys v (inr h) = let g = split (t ++ x ∷ []) xs ys v h.1 in (g.0, inr (h.0, g.1), g.2)

  fronts : (xs ys v : List A) → KeepsOnce (xs ++ ys) v
      → (front back : List A) × (v ≡ front ++ back) × SameMembers xs front
  fronts xs ys v k =
      let s = split [] xs ys v k in
      let g = grows s.0 ys v s.2 in
      (s.0, g.0, g.1, members xs s.0 s.1)

  -- ---- one table

  same : (t xs u v : List A) → Keeps t xs u → Keeps t xs v → u ≡ v
  same t [] u v e f = e ∙ sym f
  same t (x ∷ xs) u v (inl h) (inl k) = same t xs u v h.1 k.1
  same t (x ∷ xs) u v (inl h) (inr k) = absurd (k.0 h.0)
  same t (x ∷ xs) u v (inr h) (inl k) = absurd (h.0 k.0)
  same t (x ∷ xs) u v (inr h) (inr k) = same (t ++ x ∷ []) xs u v h.1 k.1

pub of_uses : (A : Type 0) → TablesAreOfUses A
of_uses A uses table k = record {
  members = members uses table k;
  once = once [] uses table (λ i j x f g. absurd (cc)) k;
  order = λ first later e. fronts first later table (subst (λ l. KeepsOnce l table) e k);
}

pub one_table : (A : Type 0) → OneTable A
one_table A uses t u k h = same [] uses t u k h
