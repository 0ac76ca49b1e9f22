-- A module's rules and names when some rules have entered it.
use Rattle.std.proofs.Common.{◌≡◌, ℕ, zero, suc, ◌<◌, List, [], ◌∷◌, ◌++◌, length, Option, Some, None, arith}
use Rattle.std.proofs.Common.{◌⊎◌, inl, inr, refl, sym, ap, ◌∙◌, append_assoc, true, false}
use Rattle.std.specs.Prelude.{Bool, if◌then◌else◌, Ok, Err, slice_get}
use Rattle.std.specs.Str.{bytes_eq}
use Rattle.std.proofs.lemmas.List.{append-nil}
use Rattle.std.proofs.lemmas.Slice.Eq.{bytes_eq-Decides}
use Rattle.rpl_scope.specs.Faults.{Or, ◌>>=◌}
use Rattle.rpl_scope.specs.Packages.{Rule, Module, first_of}
use Rattle.rpl_scope.specs.Statements.{enter, enter_all, enter_at, entry_for, with_rule}
use Rattle.rpl_scope.specs.declared.module.Entry.{Entry}

-- ---- some rule of a list

abbrev pub Any : (Rule → Type 0) → List Rule → Type 0
Any P [] = ⊥
Any P (r ∷ rs) = P r ⊎ Any P rs

pub any_left : (P : Rule → Type 0) (rs ss : List Rule) → Any P rs → Any P (rs ++ ss)
any_left P [] ss a = absurd a
any_left P (r ∷ rs) ss (inl p) = inl p
any_left P (r ∷ rs) ss (inr a) = inr (any_left P rs ss a)

pub any_right : (P : Rule → Type 0) (rs ss : List Rule) → Any P ss → Any P (rs ++ ss)
any_right P [] ss a = a
any_right P (r ∷ rs) ss a = inr (any_right P rs ss a)

pub any_cases : (P : Rule → Type 0) (rs ss : List Rule) → Any P (rs ++ ss) → Any P rs ⊎ Any P ss
any_cases P [] ss a = inr a
any_cases P (r ∷ rs) ss (inl p) = inl (inl p)
any_cases P (r ∷ rs) ss (inr a) = deeper (any_cases P rs ss a)
  where
    deeper : Any P rs ⊎ Any P ss → Any P (r ∷ rs) ⊎ Any P ss
    deeper (inl b) = inl (inr b)
    deeper (inr b) = inr b

pub any_map : (P Q : Rule → Type 0) → ((r : Rule) → P r → Q r) → (rs : List Rule) → Any P rs → Any Q rs
any_map P Q f [] a = absurd a
any_map P Q f (r ∷ rs) (inl p) = inl (f r p)
any_map P Q f (r ∷ rs) (inr a) = inr (any_map P Q f rs a)

pub any_some : (P : Rule → Type 0) (rs : List Rule) → Any P rs → 0 < length rs
any_some P [] a = absurd a
any_some P (r ∷ rs) a = omega arith

-- ---- at a number

nth_more : (xs ys : List Rule) (i : ℕ) (x : Rule) → slice_get xs i ≡ Some x → slice_get (xs ++ ys) i ≡ Some x
nth_more [] ys i x h = absurd (cc)
nth_more (y ∷ xs) ys zero x h = h
nth_more (y ∷ xs) ys (suc i) x h = nth_more xs ys i x h

nth_last : (xs : List Rule) (y : Rule) → slice_get (xs ++ y ∷ []) (length xs) ≡ Some y
nth_last [] y = refl
nth_last (x ∷ xs) y = nth_last xs y

-- ---- under a name

more_by : {A : Type 0} (b : Bool) (x y : A) (o e : Option A) → (o ≡ Some x → e ≡ Some x)
    → (if b then Some y else o) ≡ Some x → (if b then Some y else e) ≡ Some x
more_by true x y o e f h = h
more_by false x y o e f h = f h

pub first_more : {A : Type 0} (n : List ℕ) (ps qs : List (List ℕ × A)) (x : A) → first_of n ps ≡ Some x
    → first_of n (ps ++ qs) ≡ Some x
first_more n [] qs x h = absurd (cc)
first_more n (p ∷ ps) qs x h =
    more_by (bytes_eq n p.0) x p.1 (first_of n ps) (first_of n (ps ++ qs)) (first_more n ps qs x) h

last_by : {A : Type 0} (b : Bool) (y v : A) (o e : Option A) → (o ≡ None → e ≡ Some v)
    → (if b then Some y else o) ≡ None → (if b then Some y else e) ≡ Some v
last_by true y v o e f h = absurd (cc)
last_by false y v o e f h = f h

-- a new name stands for what was put after
pub first_last : {A : Type 0} (n : List ℕ) (ps : List (List ℕ × A)) (v : A) → first_of n ps ≡ None
    → first_of n (ps ++ (n, v) ∷ []) ≡ Some v
first_last n [] v h = ap (λ b. if b then Some v else None) ((bytes_eq-Decides n n).1 refl)
first_last n (p ∷ ps) v h =
    last_by (bytes_eq n p.0) p.1 v (first_of n ps) (first_of n (ps ++ (n, v) ∷ [])) (first_last n ps v) h

end_one : {A : Type 0} (b : Bool) (n k : List ℕ) (v x : A) → bytes_eq n k ≡ b → (if b then Some v else None) ≡ Some x
    → (k ≡ n) × (x ≡ v)
end_one true n k v x e h = (sym ((bytes_eq-Decides n k).0 e), cc)
end_one false n k v x e h = absurd (cc)

end_by : {A : Type 0} (b : Bool) (n k : List ℕ) (v x y : A) (o e : Option A)
    → (o ≡ None → e ≡ Some x → (k ≡ n) × (x ≡ v)) → (if b then Some y else o) ≡ None
    → (if b then Some y else e) ≡ Some x
    → (k ≡ n) × (x ≡ v)
end_by true n k v x y o e f g h = absurd (cc)
end_by false n k v x y o e f g h = f g h

-- where a name is new, what is found is what was put after
first_end : {A : Type 0} (n : List ℕ) (ps : List (List ℕ × A)) (k : List ℕ) (v x : A) → first_of n ps ≡ None
    → first_of n (ps ++ (k, v) ∷ []) ≡ Some x → (k ≡ n) × (x ≡ v)
first_end n [] k v x g h = end_one (bytes_eq n k) n k v x refl h
first_end n (p ∷ ps) k v x g h =
    end_by (bytes_eq n p.0) n k v x p.1 (first_of n ps) (first_of n (ps ++ (k, v) ∷ [])) (first_end n ps k v x) g h

-- ---- rules that entered

pub both : {A B : Type 0} (r : Or A) (f : A → Or B) (y : B) → (r >>= f) ≡ Ok y → (x : A) × (r ≡ Ok x) × (f x ≡ Ok y)
both (Ok x) f y h = (x, refl, h)
both (Err e) f y h = absurd (cc)

with_it : (f : List ℕ) (r : Rule) (m n : Module) (o : Option Entry) → enter_at o f r m ≡ Ok n
    → (o ≡ None) × (with_rule m r ≡ n)
with_it f r m n None e = (refl, cc)
with_it f r m n (Some x) e = absurd (cc)

entered : (f : List ℕ) (r : Rule) (rs : List Rule) (m n : Module) → enter_all f (r ∷ rs) m ≡ Ok n
    → (first_of r.name m.names ≡ None) × (enter_all f rs (with_rule m r) ≡ Ok n)
entered f r rs m n e =
    let c = both (enter f r m) (enter_all f rs) n e in
    let w = with_it f r m c.0 (first_of r.name m.names) c.1 in
    (w.0, ap (enter_all f rs) w.1 ∙ c.2)

pub rules_are : (f : List ℕ) (rs : List Rule) (m n : Module) → enter_all f rs m ≡ Ok n → n.rules ≡ m.rules ++ rs
rules_are f [] m n e = let s : m ≡ n = cc in sym (ap (λ x. x.rules) s) ∙ sym (append-nil m.rules)
rules_are f (r ∷ rs) m n e = rules_are f rs (with_rule m r) n (entered f r rs m n e).1
    ∙ append_assoc m.rules (r ∷ []) rs

-- a name stays bound
pub names_kept : (f : List ℕ) (rs : List Rule) (m n : Module) → enter_all f rs m ≡ Ok n → (w : List ℕ) (x : Entry)
    → first_of w m.names ≡ Some x → first_of w n.names ≡ Some x
names_kept f [] m n e w x h = let s : m ≡ n = cc in ap (λ y. first_of w y.names) (sym s) ∙ h
names_kept f (r ∷ rs) m n e w x h =
    names_kept f rs (with_rule m r) n (entered f r rs m n e).1 w x
    (first_more w m.names ((r.name, entry_for r (length m.rules)) ∷ []) x h)

-- each rule that entered is found under its name
pub found : (f : List ℕ) (rs : List Rule) (m n : Module) → enter_all f rs m ≡ Ok n → (P : Rule → Type 0) → Any P rs
    → (k : ℕ) × (r : Rule) × P r × (slice_get n.rules k ≡ Some r) × (first_of r.name n.names ≡ Some (entry_for r k))
found f [] m n e P a = absurd a
found f (r ∷ rs) m n e P (inl p) =
    let w = entered f r rs m n e in
    let k = length m.rules in (
      k,
      r,
      p,
      ap (λ l. slice_get l k) (rules_are f rs (with_rule m r) n w.1)
          ∙ nth_more (m.rules ++ r ∷ []) rs k r (nth_last m.rules r),
      names_kept f rs (with_rule m r) n w.1 r.name (entry_for r k) (first_last r.name m.names (entry_for r k) w.0),
    )
found f (r ∷ rs) m n e P (inr a) = found f rs (with_rule m r) n (entered f r rs m n e).1 P a

-- what a rule says of its name
pub record Says (w : List ℕ) (x : Entry) (r : Rule) : Type 0 where
  pub name : r.name ≡ w
  pub since : x.since ≡ r.since

-- what a new name stands for is a rule that entered
pub traced : (f : List ℕ) (rs : List Rule) (m n : Module) → enter_all f rs m ≡ Ok n → (w : List ℕ) (x : Entry)
    → first_of w m.names ≡ None → first_of w n.names ≡ Some x → Any (Says w x) rs
traced f [] m n e w x none h = let s : m ≡ n = cc in let g : Some x ≡ None = sym h
    ∙ ap (λ y. first_of w y.names) (sym s) ∙ none in absurd (cc)
traced f (r ∷ rs) m n e w x none h =
    by (traced f rs (with_rule m r) n (entered f r rs m n e).1 w x) (first_of w (with_rule m r).names) refl
  where
    by : (first_of w (with_rule m r).names ≡ None → first_of w n.names ≡ Some x → Any (Says w x) rs)
        → (o : Option Entry) → first_of w (with_rule m r).names ≡ o → Any (Says w x) (r ∷ rs)
    by rest None g = inr (rest g h)
    by rest (Some y) g =
        let kept = names_kept f rs (with_rule m r) n (entered f r rs m n e).1 w y g in
        let same : x ≡ y = cc in
        let it = first_end w m.names r.name (entry_for r (length m.rules)) y none g in
        inl (record { name = it.0; since = ap (λ z. z.since) (same ∙ it.1) })
