-- How instructions are added.
use Rattle.std.proofs.Common.{◌≡◌, ℕ, zero, suc, ◌+◌, ◌<◌, ◌≤◌, List, [], ◌∷◌, ◌++◌, length, Option, Some, None, refl}
use Rattle.std.proofs.Common.{sym, ap, ◌∙◌, subst, inl, inr, ⊎_elim, arith, append_assoc, length-append, take}
use Rattle.std.proofs.lemmas.List.{length-take, map-append}
use Rattle.std.proofs.lemmas.Option.{slice_get_within}
use Rattle.std.specs.List.{Contains}
use Rattle.std.specs.Prelude.{IfSome, OnErr, OnOk, Result, Ok, Err, map, option_map, slice_get, slice_index_or}
use Rattle.regex_class.specs.Ranges.{Range}
use Rattle.rpl_core.specs.Instr.{Instr}
use Rattle.rpl_core.specs.Instr as I
use Rattle.rpl_core.specs.declared.instr.Instr as R
use Rattle.rpl_core.specs.declared.instr.Instr.TheVariants as V
use Rattle.rpl_intern.specs.declared.draft.Draft.{Draft}
use Rattle.rpl_intern.specs.Uses.{sets_in, labels_in, Keeps}
use Rattle.rpl_intern.specs.Written.{plain, shown, Says, Adds}
use Rattle.rpl_intern.specs.declared.draft.SetUse.{SetUse}
use Rattle.rpl_intern.specs.declared.draft.SetUse.TheVariants as S
use Rattle.rpl_intern.specs.declared.draft.TextUse.{TextUse}
use Rattle.rpl_intern.specs.declared.draft.TextUse.TheVariants as T
use Rattle.rpl_intern.specs.inside.Uses.{numbered_set, numbered_text, with_set, with_text}

-- a list holds what stands in it
pub read_at : {A : Type 0} (xs : List A) (k : ℕ) (x : A) → slice_get xs k ≡ Some x → slice_index_or xs k x ≡ x
read_at [] k x e = absurd (cc)
read_at (y ∷ xs) zero x e = cc
read_at (y ∷ xs) (suc k) x e = read_at xs k x e

pub held : {A : Type 0} (xs : List A) (k : ℕ) (x : A) → slice_get xs k ≡ Some x → Contains xs x
held xs k x e = (k, slice_get_within xs k x e, read_at xs k x e)

-- at each number below its length a list has something
pub some_at : {A : Type 0} (xs : List A) (k : ℕ) → k < length xs → (x : A) × (slice_get xs k ≡ Some x)
some_at [] k lt = absurd (omega arith)
some_at (x ∷ xs) zero lt = (x, refl)
some_at (x ∷ xs) (suc k) lt = some_at xs k (omega arith)

-- what is in a list stays where it is when more comes after
pub front_stays : {A : Type 0} (xs ys : List A) (k : ℕ) (x : A) → slice_get xs k ≡ Some x
    → slice_get (xs ++ ys) k ≡ Some x
front_stays [] ys k x e = absurd (cc)
front_stays (y ∷ xs) ys zero x e = e
front_stays (y ∷ xs) ys (suc k) x e = front_stays xs ys k x e

pub last_stands : {A : Type 0} (xs : List A) (x : A) → slice_get (xs ++ x ∷ []) (length xs) ≡ Some x
last_stands [] x = refl
last_stands (y ∷ xs) x = last_stands xs x

pub keeps_stay : {A : Type 0} (t xs u : List A) → Keeps t xs u → (k : ℕ) (x : A) → slice_get t k ≡ Some x
    → slice_get u k ≡ Some x
keeps_stay t [] u e k x is = ap (λ l. slice_get l k) e ∙ is
keeps_stay t (y ∷ xs) u keeps k x is =
    ⊎_elim (λ h. keeps_stay t xs u h.1 k x is)
    (λ h. keeps_stay (t ++ y ∷ []) xs u h.1 k x (front_stays t (y ∷ []) k x is)) keeps

pub keeps_then : {A : Type 0} (t xs u ys v : List A) → Keeps t xs u → Keeps u ys v → Keeps t (xs ++ ys) v
keeps_then t [] u ys v e k = subst (λ l. Keeps l ys v) e k
keeps_then t (x ∷ xs) u ys v keeps k =
    ⊎_elim (λ h. inl (h.0, keeps_then t xs u ys v h.1 k)) (λ h. inr (h.0, keeps_then (t ++ x ∷ []) xs u ys v h.1 k))
    keeps

-- tables that have at least what others have, at the same numbers
pub record Above (s t : List (List Range)) (x y : List (List ℕ)) : Type 0 where
  pub sets : (k : ℕ) (a : List Range) → slice_get s k ≡ Some a → slice_get t k ≡ Some a
  pub labels : (k : ℕ) (a : List ℕ) → slice_get x k ≡ Some a → slice_get y k ≡ Some a

named_stays : {A : Type 0} (f : A → Instr) (xs ys : List A) (k : ℕ) (j : Instr)
    → ((x : A) → slice_get xs k ≡ Some x → slice_get ys k ≡ Some x) → option_map f (slice_get xs k) ≡ Some j
    → option_map f (slice_get ys k) ≡ Some j
named_stays {A} f xs ys k j h e = go (slice_get xs k) refl e
  where
    go : (o : Option A) → slice_get xs k ≡ o → option_map f o ≡ Some j → option_map f (slice_get ys k) ≡ Some j
    go None is x = absurd (cc)
    go (Some a) is x = ap (option_map f) (h a is) ∙ x

shown_stays : (s t : List (List Range)) (x y : List (List ℕ)) → Above s t x y → (i : R.Instr) (j : Instr)
    → shown s x i ≡ Some j → shown t y i ≡ Some j
shown_stays s t x y a (V.Set k) j e = named_stays I.Set s t k j (a.sets k) e
shown_stays s t x y a (V.TestSet l k) j e = named_stays (I.TestSet l) s t k j (a.sets k) e
shown_stays s t x y a (V.Span k) j e = named_stays I.Span s t k j (a.sets k) e
shown_stays s t x y a (V.Open k) j e = named_stays I.Open x y k j (a.labels k) e
shown_stays s t x y a (V.Note k) j e = named_stays I.Note x y k j (a.labels k) e
shown_stays s t x y a V.Start j e = e
shown_stays s t x y a V.End j e = e
shown_stays s t x y a (V.Choice l) j e = e
shown_stays s t x y a (V.Commit l) j e = e
shown_stays s t x y a V.FailTwice j e = e
shown_stays s t x y a (V.BackCommit l) j e = e
shown_stays s t x y a V.Fail j e = e
shown_stays s t x y a (V.Back k) j e = e
shown_stays s t x y a (V.Meet l) j e = e
shown_stays s t x y a (V.Call l) j e = e
shown_stays s t x y a V.Return j e = e
shown_stays s t x y a V.Close j e = e
shown_stays s t x y a V.Finish j e = e
shown_stays s t x y a (V.PartialCommit l) j e = e
shown_stays s t x y a V.Halt j e = e

cons_parts : (a b : Option Instr) (x y : List (Option Instr)) → (a ∷ x) ≡ (b ∷ y) → (a ≡ b) × (x ≡ y)
cons_parts a b x y e = (cc, cc)

all_stay : (s t : List (List Range)) (x y : List (List ℕ)) → Above s t x y → (code : List R.Instr) (m : List Instr)
    → map (shown s x) code ≡ map Some m → map (shown t y) code ≡ map Some m
all_stay s t x y a [] m e = e
all_stay s t x y a (i ∷ code) [] e = absurd (cc)
all_stay s t x y a (i ∷ code) (j ∷ m) e =
    let h = cons_parts (shown s x i) (Some j) (map (shown s x) code) (map Some m) e in
    ap (λ o. o ∷ map (shown t y) code) (shown_stays s t x y a i j h.0)
    ∙ ap (λ l. Some j ∷ l) (all_stay s t x y a code m h.1)

-- one instruction more
pub adds_one : (old new : Draft) (i : R.Instr) (j : Instr) → new.code ≡ old.code ++ i ∷ []
    → Keeps old.sets (sets_in (j ∷ [])) new.sets → Keeps old.labels (labels_in (j ∷ [])) new.labels
    → shown new.sets new.labels i ≡ Some j → Adds old new (j ∷ [])
adds_one old new i j grown sets labels is = record {
  long = ap length grown ∙ length-append old.code (i ∷ []);
  sets = sets;
  labels = labels;
  code = λ m e.
      let a : Above old.sets new.sets old.labels new.labels =
      record {
        sets = keeps_stay old.sets (sets_in (j ∷ [])) new.sets sets;
        labels = keeps_stay old.labels (labels_in (j ∷ [])) new.labels labels;
      } in
      let show = shown new.sets new.labels in
      let stays = all_stay old.sets new.sets old.labels new.labels a old.code m e in
      ap (map show) grown ∙ map-append show old.code (i ∷ []) ∙ ap (λ l. l ++ show i ∷ []) stays
      ∙ ap (λ o. map Some m ++ o ∷ []) is ∙ sym (map-append Some m (j ∷ []));
}

-- an instruction that names nothing
pub adds_plain : (old new : Draft) (i : R.Instr) → new.code ≡ old.code ++ i ∷ [] → new.sets ≡ old.sets
    → new.labels ≡ old.labels → IfSome (plain i) (λ j. Adds old new (j ∷ []))
adds_plain old new (V.Set k) g s l = tt
adds_plain old new (V.TestSet a k) g s l = tt
adds_plain old new (V.Span k) g s l = tt
adds_plain old new (V.Open k) g s l = tt
adds_plain old new (V.Note k) g s l = tt
adds_plain old new V.Start g s l = adds_one old new V.Start I.Start g s l refl
adds_plain old new V.End g s l = adds_one old new V.End I.End g s l refl
adds_plain old new (V.Choice a) g s l = adds_one old new (V.Choice a) (I.Choice a) g s l refl
adds_plain old new (V.Commit a) g s l = adds_one old new (V.Commit a) (I.Commit a) g s l refl
adds_plain old new V.FailTwice g s l = adds_one old new V.FailTwice I.FailTwice g s l refl
adds_plain old new (V.BackCommit a) g s l = adds_one old new (V.BackCommit a) (I.BackCommit a) g s l refl
adds_plain old new V.Fail g s l = adds_one old new V.Fail I.Fail g s l refl
adds_plain old new (V.Back k) g s l = adds_one old new (V.Back k) (I.Back k) g s l refl
adds_plain old new (V.Meet a) g s l = adds_one old new (V.Meet a) (I.Meet a) g s l refl
adds_plain old new (V.Call a) g s l = adds_one old new (V.Call a) (I.Call a) g s l refl
adds_plain old new V.Return g s l = adds_one old new V.Return I.Return g s l refl
adds_plain old new V.Close g s l = adds_one old new V.Close I.Close g s l refl
adds_plain old new V.Finish g s l = adds_one old new V.Finish I.Finish g s l refl
adds_plain old new (V.PartialCommit a) g s l = adds_one old new (V.PartialCommit a) (I.PartialCommit a) g s l refl
adds_plain old new V.Halt g s l = adds_one old new V.Halt I.Halt g s l refl

-- one that names a set, and one that names a text
pub adds_set : (old new : Draft) (u : SetUse) (k : ℕ) (s : List Range) → new.code ≡ old.code ++ numbered_set u k ∷ []
    → Keeps old.sets (s ∷ []) new.sets → new.labels ≡ old.labels → slice_get new.sets k ≡ Some s
    → Adds old new (with_set u s ∷ [])
adds_set old new S.Set k s grown sets labels is =
    adds_one old new (V.Set k) (I.Set s) grown sets labels (ap (option_map I.Set) is)
adds_set old new S.Span k s grown sets labels is =
    adds_one old new (V.Span k) (I.Span s) grown sets labels (ap (option_map I.Span) is)
adds_set old new (S.Test other) k s grown sets labels is =
    adds_one old new (V.TestSet other k) (I.TestSet other s) grown sets labels (ap (option_map (I.TestSet other)) is)

pub adds_text : (old new : Draft) (u : TextUse) (k : ℕ) (x : List ℕ) → new.code ≡ old.code ++ numbered_text u k ∷ []
    → new.sets ≡ old.sets → Keeps old.labels (x ∷ []) new.labels → slice_get new.labels k ≡ Some x
    → Adds old new (with_text u x ∷ [])
adds_text old new T.Open k x grown sets labels is =
    adds_one old new (V.Open k) (I.Open x) grown sets labels (ap (option_map I.Open) is)
adds_text old new T.Note k x grown sets labels is =
    adds_one old new (V.Note k) (I.Note x) grown sets labels (ap (option_map I.Note) is)

-- what the uses of two codes are together
sets_append : (x y : List Instr) → sets_in (x ++ y) ≡ sets_in x ++ sets_in y
sets_append [] y = refl
sets_append (I.Set s ∷ x) y = ap (λ l. s ∷ l) (sets_append x y)
sets_append (I.TestSet a s ∷ x) y = ap (λ l. s ∷ l) (sets_append x y)
sets_append (I.Span s ∷ x) y = ap (λ l. s ∷ l) (sets_append x y)
sets_append (_ ∷ x) y = sets_append x y

labels_append : (x y : List Instr) → labels_in (x ++ y) ≡ labels_in x ++ labels_in y
labels_append [] y = refl
labels_append (I.Open c ∷ x) y = ap (λ l. c ∷ l) (labels_append x y)
labels_append (I.Note c ∷ x) y = ap (λ l. c ∷ l) (labels_append x y)
labels_append (_ ∷ x) y = labels_append x y

-- some instructions, and then others
pub adds_then : (p q r : Draft) (x y : List Instr) → Adds p q x → Adds q r y → Adds p r (x ++ y)
adds_then p q r x y a b = record {
  long = omega (arith, a.long, b.long, length-append x y);
  sets = subst (λ l. Keeps p.sets l r.sets) (sym (sets_append x y))
      (keeps_then p.sets (sets_in x) q.sets (sets_in y) r.sets a.sets b.sets);
  labels = subst (λ l. Keeps p.labels l r.labels) (sym (labels_append x y))
      (keeps_then p.labels (labels_in x) q.labels (labels_in y) r.labels a.labels b.labels);
  code = λ m e. subst (λ l. Says r l) (append_assoc m x y) (b.code (m ++ x) (a.code m e));
}

-- none
append_nil : (m : List Instr) → (m ++ []) ≡ m
append_nil [] = refl
append_nil (i ∷ m) = ap (λ l. i ∷ l) (append_nil m)

-- adding no instructions leaves a draft as it is
pub adds_none : (p : Draft) → Adds p p []
adds_none p = record {
  long = omega arith;
  sets = refl;
  labels = refl;
  code = λ m e. subst (λ l. Says p l) (sym (append_nil m)) e;
}

-- instructions that are added are those of any equal list
pub as_list : (p q : Draft) (x y : List Instr) → x ≡ y → Adds p q x → Adds p q y
as_list p q x y e a = subst (λ l. Adds p q l) e a

-- two facts of what went well
pub on_both : {A E P Q R : Type 0} (r : Result A E) → (P → Q → R) → OnOk r P → OnOk r Q → OnOk r R
on_both (Ok a) f p q = f p q
on_both (Err e) f p q = tt

-- what is kept has a number no higher than there were others
pub number_within : {A : Type 0} (t u : List A) (x : A) (k : ℕ) → Keeps t (x ∷ []) u → slice_get u k ≡ Some x
    → k ≤ length t
number_within t u x k (inl h) e = omega (arith, slice_get_within u k x e, ap length h.1)
number_within t u x k (inr h) e = omega (arith, slice_get_within u k x e, ap length h.1, length-append t (x ∷ []))

keeps_one : {A : Type 0} (t u : List A) (x : A) → Keeps t (x ∷ []) u → length u ≤ length t + 1
keeps_one t u x (inl h) = omega (arith, ap length h.1)
keeps_one t u x (inr h) = omega (arith, ap length h.1, length-append t (x ∷ []))

-- with one instruction more, or as many, a table that had no more than there were has no more than there are
still_few : {A B U E : Type 0} (r : Result U E) (t u v : List A) (c d : List B) (x : A) (i : B) (n : ℕ) → n ≡ length t
    → Keeps t (x ∷ []) u → length t ≤ length c → OnOk r (d ≡ c ++ i ∷ []) → OnOk r (v ≡ u) → OnErr r (d ≡ c)
    → OnErr r (v ≡ take n u) → length v ≤ length d
still_few (Ok a) t u v c d x i n is keeps few grown kept _ _ =
    omega (arith, keeps_one t u x keeps, ap length grown, ap length kept, length-append c (i ∷ []))
still_few (Err e) t u v c d x i n is keeps few _ _ grown cut =
    omega (arith, ap length grown, ap length cut, length-take n u)

others_few : {B U E : Type 0} (r : Result U E) (c d : List B) (i : B) (n : ℕ) → n ≤ length c → OnOk r (d ≡ c ++ i ∷ [])
    → OnErr r (d ≡ c) → n ≤ length d
others_few (Ok a) c d i n few grown _ = omega (arith, ap length grown, length-append c (i ∷ []))
others_few (Err e) c d i n few _ grown = omega (arith, ap length grown)

code_few : {B U E : Type 0} (r : Result U E) (c d : List B) (i : B) (n : ℕ) → length c < n → OnOk r (d ≡ c ++ i ∷ [])
    → OnErr r (d ≡ c) → length d ≤ n
code_few (Ok a) c d i n few grown _ = omega (arith, ap length grown, length-append c (i ∷ []))
code_few (Err e) c d i n few _ grown = omega (arith, ap length grown)

-- after one instruction more, or none: the code, the table that it was kept in, and the other table
pub all_few : {A B U E O : Type 0} (r : Result U E) (t u v : List A) (others : List O) (c d : List B) (x : A) (i :
    B) (n m : ℕ) → n ≡ length t → Keeps t (x ∷ []) u → length t ≤ length c → length others ≤ length c → length c < m
    → OnOk r (d ≡ c ++ i ∷ []) → OnOk r (v ≡ u) → OnErr r (d ≡ c) → OnErr r (v ≡ take n u) → (length d ≤ m)
    × (length v ≤ length d) × (length others ≤ length d)
all_few r t u v others c d x i n m is keeps few also room grown kept same cut = (
  code_few r c d i m room grown same,
  still_few r t u v c d x i n is keeps few grown kept same cut,
  others_few r c d i (length others) also grown same,
)
