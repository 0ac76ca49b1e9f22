-- Each module of a set that is built stands under its package name, so that no two have one; and none is called `*`.
use Rattle.std.proofs.Common.{◌≡◌, ◌≢◌, ◌⊎◌, inl, inr, ℕ, List, [], ◌∷◌, ◌++◌, length, Option, Some, None, refl, sym}
use Rattle.std.proofs.Common.{ap, ◌∙◌}
use Rattle.std.specs.Prelude.{Bool, true, false, ◌||◌, if◌then◌else◌, is_some, slice_get}
use Rattle.std.specs.Str.{bytes_eq}
use Rattle.std.proofs.lemmas.Slice.Eq.{bytes_eq-Decides}
use Rattle.rpl_scope.specs.Imports.{rules_at}
use Rattle.rpl_scope.specs.Packages.{Module, first_of, added_at}
use Rattle.rpl_names.specs.Loading.{Stock, State, finished, is_held, is_taken, label_of}
use Rattle.rpl_names.specs.declared.stock.Head.{Head}
use Rattle.rpl_names.specs.Built.{Becomes, same, on, text, said, again, imported, rooted, opened, headed}
use Rattle.rpl_names.proofs.Building.{none_of}
use Rattle.rpl_expand.proofs.FullNames.{star}
use Rattle.rpl_expand.proofs.Lists.{first_more, nth_end}
use Rattle.rpl_expand.proofs.Texts.{asked_brings, label_plain, plain_text}
use Rattle.rpl_expand.proofs.Under.{Unbroken, all_unbroken, all_unit, first_new, label_kept, statements_in, taken_in}

-- ---- names that are held

either : (a b : Bool) → (a || b) ≡ true → (a ≡ true) ⊎ (b ≡ true)
either true b h = inl refl
either false b h = inr h

or_left : (a b : Bool) → a ≡ true → (a || b) ≡ true
or_left true b h = refl
or_left false b h = absurd (cc)

or_right : (a b : Bool) → b ≡ true → (a || b) ≡ true
or_right true b h = refl
or_right false b h = h

held_in : (n : List ℕ) (hs : List Head) (h : Head) → is_held n (hs ++ h ∷ []) ≡ true
    → (is_held n hs ≡ true) ⊎ (bytes_eq h.label n ≡ true)
held_in n [] h e = by (either (bytes_eq h.label n) false e)
  where
    by : (bytes_eq h.label n ≡ true) ⊎ (false ≡ true) → (false ≡ true) ⊎ (bytes_eq h.label n ≡ true)
    by (inl g) = inr g
    by (inr g) = inl g
held_in n (x ∷ hs) h e =
    by (held_in n hs h) (either (bytes_eq x.label n) (is_held n (hs ++ h ∷ [])) e)
  where
    on_from : (is_held n hs ≡ true) ⊎ (bytes_eq h.label n ≡ true)
        → (is_held n (x ∷ hs) ≡ true) ⊎ (bytes_eq h.label n ≡ true)
    on_from (inl g) = inl (or_right (bytes_eq x.label n) (is_held n hs) g)
    on_from (inr g) = inr g

    by : (is_held n (hs ++ h ∷ []) ≡ true → (is_held n hs ≡ true) ⊎ (bytes_eq h.label n ≡ true))
        → (bytes_eq x.label n ≡ true) ⊎ (is_held n (hs ++ h ∷ []) ≡ true)
        → (is_held n (x ∷ hs) ≡ true) ⊎ (bytes_eq h.label n ≡ true)
    by f (inl g) = inl (or_left (bytes_eq x.label n) (is_held n hs) g)
    by f (inr g) = on_from (f g)

held_by : (n : List ℕ) (y : Head) (a b : List Head) → (is_held n a ≡ true → is_held n b ≡ true)
    → (bytes_eq y.label n ≡ true) ⊎ (is_held n a ≡ true) → is_held n (y ∷ b) ≡ true
held_by n y a b f (inl g) = or_left (bytes_eq y.label n) (is_held n b) g
held_by n y a b f (inr g) = or_right (bytes_eq y.label n) (is_held n b) (f g)

held_front : (n : List ℕ) (gs : List Head) (x : Head) → is_held n gs ≡ true → is_held n (gs ++ x ∷ []) ≡ true
held_front n [] x e = absurd (cc)
held_front n (y ∷ gs) x e =
    held_by n y gs (gs ++ x ∷ []) (held_front n gs x) (either (bytes_eq y.label n) (is_held n gs) e)

held_last : (n : List ℕ) (hs : List Head) (h : Head) → bytes_eq h.label n ≡ true → is_held n (hs ++ h ∷ []) ≡ true
held_last n [] h e = or_left (bytes_eq h.label n) false e
held_last n (x ∷ hs) h e =
    or_right (bytes_eq x.label n) (is_held n (hs ++ h ∷ [])) (held_last n hs h e)

neither : (a b : Bool) → (a || b) ≡ false → (a ≡ false) × (b ≡ false)
neither true b h = absurd (cc)
neither false b h = (refl, h)

none_at : {A : Type 0} (b : Bool) (y : A) (o t : Option A) → (if b then Some y else o) ≡ None → (o ≡ None → t ≡ None)
    → (if b then Some y else t) ≡ None
none_at true y o t h f = absurd (cc)
none_at false y o t h f = f h

not_it : {A : Type 0} (b : Bool) (x : A) → b ≡ false → (if b then Some x else None) ≡ None
not_it true x h = absurd (cc)
not_it false x h = refl

still_none : {A : Type 0} (n k : List ℕ) (x : A) (ps : List (List ℕ × A)) → first_of n ps ≡ None
    → bytes_eq n k ≡ false → first_of n (ps ++ (k, x) ∷ []) ≡ None
still_none n k x [] h e = not_it (bytes_eq n k) x e
still_none n k x (p ∷ ps) h e =
    none_at (bytes_eq n p.0) p.1 (first_of n ps) (first_of n (ps ++ (k, x) ∷ [])) h (λ g. still_none n k x ps g e)

-- ---- what holds of the modules

-- each stands under its package name
pub record AreLabelled (s : Stock) : Type 0 where
  pub each : (i : ℕ) (m : Module) → slice_get s.modules i ≡ Some m → first_of m.label s.labels ≡ Some i
  pub starless : (i : ℕ) (m : Module) → slice_get s.modules i ≡ Some m → m.label ≢ star

-- so two of one package name are one
pub one_of_label : (s : Stock) (i j : ℕ) (m n : Module) → AreLabelled s → slice_get s.modules i ≡ Some m
    → slice_get s.modules j ≡ Some n → m.label ≡ n.label → i ≡ j
one_of_label s i j m n h f g e =
    let q : Some i ≡ Some j = sym (h.each i m f) ∙ ap (λ l. first_of l s.labels) e ∙ h.each j n g in
    cc

-- and none has that of a module that is being loaded
pub record AreFree (hs : List Head) (s : Stock) : Type 0 where
  pub each : (n : List ℕ) → is_held n hs ≡ true → first_of n s.labels ≡ None

pub record Labels (hs : List Head) (s t : State) : Type 0 where
  pub labelled : AreLabelled t.stock
  pub free : AreFree hs t.stock
  pub own : t.own.label ≡ s.own.label

-- one more whose name was free
pub label_more : (s : Stock) (m : Module) (o : Option ℕ) → first_of m.label s.labels ≡ o → o ≡ None → m.label ≢ star
    → AreLabelled s
    → AreLabelled (record {
      modules = s.modules ++ m ∷ [];
      paths = (finished s m).paths;
      labels = added_at o m.label (length s.modules) s.labels;
    })
label_more s m (Some x) is none apart h = absurd (cc)
label_more s m None is none apart h = record {
  each = λ i x g. by i x (nth_end s.modules m i x g);
  starless = λ i x g. starless_by i x (nth_end s.modules m i x g);
}
  where
    starless_by : (i : ℕ) (x : Module) → (slice_get s.modules i ≡ Some x) ⊎ ((i ≡ length s.modules) × (x ≡ m))
        → x.label ≢ star
    starless_by i x (inl g) = h.starless i x g
    starless_by i x (inr g) = λ e. apart (sym (ap (λ y. y.label) g.1) ∙ e)

    by : (i : ℕ) (x : Module) → (slice_get s.modules i ≡ Some x) ⊎ ((i ≡ length s.modules) × (x ≡ m))
        → first_of x.label (s.labels ++ (m.label, length s.modules) ∷ []) ≡ Some i
    by i x (inl g) = first_more x.label s.labels ((m.label, length s.modules) ∷ []) i (h.each i x g)
    by i x (inr g) =
        ap (λ y. first_of y.label (s.labels ++ (m.label, length s.modules) ∷ [])) g.1
        ∙ first_new m.label s.labels (length s.modules) is ∙ ap Some (sym g.0)

apart : (b : Bool) (n l : List ℕ) (hs : List Head) → bytes_eq n l ≡ b → is_held n hs ≡ true → is_held l hs ≡ false
    → b ≡ false
apart false n l hs e f g = refl
apart true n l hs e f g =
    let q = (bytes_eq-Decides n l).0 e in
    let k : is_held l hs ≡ true = ap (λ x. is_held x hs) (sym q) ∙ f in
    absurd (cc)

free_by : (n l : List ℕ) (i : ℕ) (ps : List (List ℕ × ℕ)) (o : Option ℕ) → first_of n ps ≡ None → bytes_eq n l ≡ false
    → first_of n (added_at o l i ps) ≡ None
free_by n l i ps None h e = still_none n l i ps h e
free_by n l i ps (Some x) h e = h

free_more : (hs : List Head) (s : Stock) (m : Module) → is_held m.label hs ≡ false → AreFree hs s
    → AreFree hs (finished s m)
free_more hs s m out h = record {
  each = λ n e. free_by n m.label (length s.modules) s.labels (first_of m.label s.labels) (h.each n e)
      (apart (bytes_eq n m.label) n m.label hs refl e out);
}

-- while one more is being loaded
module _ (hs : List Head) (path : Option (List ℕ)) (l : List ℕ) (s : Stock) (free : is_taken l hs s ≡ false)
    (all : AreFree hs s) where
  not_both : (is_held l hs ≡ false) × (is_some (first_of l s.labels) ≡ false)
  not_both = neither (is_held l hs) (is_some (first_of l s.labels)) free

  free_by_head : (n : List ℕ) → (is_held n hs ≡ true) ⊎ (bytes_eq l n ≡ true) → first_of n s.labels ≡ None
  free_by_head n (inl g) = all.each n g
  free_by_head n (inr g) =
      ap (λ x. first_of x s.labels) (sym ((bytes_eq-Decides l n).0 g)) ∙ none_of (first_of l s.labels) not_both.1

  pub free_with : AreFree (headed hs path l) s
  free_with = record { each = λ n e. free_by_head n (held_in n hs (record { path = path; label = l }) e) }

  -- and when it is done, after the others
  module _ (u : State) (h : Labels (headed hs path l) (opened s path l) u) (starless : l ≢ star) where
    pub done : AreLabelled (finished u.stock u.own) × AreFree hs (finished u.stock u.own)
    done =
        let none : first_of u.own.label u.stock.labels ≡ None = ap (λ x. first_of x u.stock.labels) h.own
        ∙ h.free.each l (held_last l hs (record { path = path; label = l }) ((bytes_eq-Decides l l).1 refl)) in
        let out : is_held u.own.label hs ≡ false = ap (λ x. is_held x hs) h.own ∙ not_both.0 in
        let free : AreFree hs u.stock = record {
          each = λ n e. h.free.each n (held_front n hs (record { path = path; label = l }) e);
        } in (
          label_more u.stock u.own (first_of u.own.label u.stock.labels) refl none (λ e. starless (sym h.own ∙ e))
              h.labelled,
          free_more hs u.stock u.own out free,
        )

-- ---- all steps

pub labels : (hs : List Head) (s t : State) → Becomes hs s t → AreLabelled s.stock → AreFree hs s.stock
    → Labels hs s t
labels hs s t (same gs x) h k = record { labelled = h; free = k; own = refl }
labels hs s t (on gs a b c f g) h k =
    let x = labels hs s b f h k in
    let y = labels hs b t g x.labelled x.free in
    record { labelled = y.labelled; free = y.free; own = y.own ∙ x.own }
labels hs s t (text gs a f) h k = record { labelled = h; free = k; own = refl }
labels hs s t (said gs a f k x m is e) h free = record {
  labelled = h;
  free = free;
  own = statements_in (λ y. y.label ≡ s.own.label) (λ k. Unit {0}) Unbroken (label_kept s.own.label) f k s.stock.modules
      x.items
      s.own m (all_unbroken k x.items (plain_text x is).unbroken) refl e;
}
labels hs s t (again gs a f i j m asked k e) h free = record {
  labelled = h;
  free = free;
  own = taken_in (λ y. y.label ≡ s.own.label) (λ k. Unit {0}) Unbroken (label_kept s.own.label) f i j s.stock.modules
      s.own m
      (asked_brings i asked) (all_unit (rules_at (slice_get s.stock.modules j))) refl e;
}
labels hs s t (imported gs a u f i x m asked is unheld b e) h free =
    let l = label_of x.name i.path in
    let p : Option (List ℕ) = Some i.path in
    let r = labels (headed hs p l) (opened s.stock p l) u b h (free_with hs p l s.stock unheld free) in
    let d = done hs p l s.stock unheld free u r (label_plain x i is asked) in
    record {
      labelled = d.0;
      free = d.1;
      own = taken_in (λ y. y.label ≡ s.own.label) (λ k. Unit {0}) Unbroken (label_kept s.own.label) f i
          (length u.stock.modules)
          (finished u.stock u.own).modules s.own m (asked_brings i asked)
          (all_unit (rules_at (slice_get (finished u.stock u.own).modules (length u.stock.modules)))) refl e;
    }
labels hs s t (rooted gs a u x q is name fresh unheld b) h free =
    let l = q.name in
    let r = labels (headed hs None l) (opened s.stock None l) u b h (free_with hs None l s.stock unheld free) in
    let d = done hs None l s.stock unheld free u r ((plain_text x is).title q name).no_star in
    record { labelled = d.0; free = d.1; own = refl }
