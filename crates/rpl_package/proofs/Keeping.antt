-- What stays when modules are added after.
use Rattle.std.proofs.Common.{arith, ◌≡◌, ◌≤◌, ℕ, zero, suc, List, [], ◌∷◌, ◌++◌, length, take, Option, Some}
use Rattle.std.proofs.Common.{None, refl, sym, ap, subst, ◌∙◌}
use Rattle.rpl_scope.specs.Packages.{first_of, added, added_at}
use Rattle.rpl_scope.specs.Seen.{module_seen, modules_seen}
use Rattle.rpl_scope.specs.declared.module.Module.{Module as Declared}
use Rattle.rpl_package.specs.inside.Kept.{BeginsWith, Keeps}
use Rattle.rpl_names.specs.Loading.{Stock, with_path}

take_whole : {A : Type 0} (xs ys : List A) → take (length xs) (xs ++ ys) ≡ xs
take_whole [] ys = refl
take_whole (x ∷ xs) ys = ap (λ l. x ∷ l) (take_whole xs ys)

longer : {A : Type 0} (xs ys : List A) → length xs ≤ length (xs ++ ys)
longer [] ys = omega arith
longer (x ∷ xs) ys = let h = longer xs ys in omega (arith, h)

pub begins_more : {A : Type 0} (xs ys : List A) → BeginsWith xs (xs ++ ys)
begins_more xs ys = (longer xs ys, take_whole xs ys)

take_all : {A : Type 0} (xs : List A) → take (length xs) xs ≡ xs
take_all [] = refl
take_all (x ∷ xs) = ap (λ l. x ∷ l) (take_all xs)

pub begins_same : {A : Type 0} (xs : List A) → BeginsWith xs xs
begins_same xs = (omega arith, take_all xs)

take_less : {A : Type 0} (n m : ℕ) (xs : List A) → n ≤ m → take n (take m xs) ≡ take n xs
take_less zero m xs h = refl
take_less (suc n) zero xs h = absurd (omega (arith, h))
take_less (suc n) (suc m) [] h = refl
take_less (suc n) (suc m) (x ∷ xs) h = ap (λ l. x ∷ l) (take_less n m xs (omega (arith, h)))

pub begins_trans : {A : Type 0} (xs ys zs : List A) → BeginsWith xs ys → BeginsWith ys zs → BeginsWith xs zs
begins_trans xs ys zs h k =
    let a = h.0 in let b = k.0 in
    (omega (arith, a, b), sym (take_less (length xs) (length ys) zs h.0) ∙ ap (take (length xs)) k.1 ∙ h.1)

by_entry : {A : Type 0} (o : Option A) (n : List ℕ) (x : A) (ps : List (List ℕ × A)) → BeginsWith ps (added_at o n x ps)
by_entry None n x ps = begins_more ps ((n, x) ∷ [])
by_entry (Some y) n x ps = begins_same ps

pub begins_added : {A : Type 0} (n : List ℕ) (x : A) (ps : List (List ℕ × A)) → BeginsWith ps (added n x ps)
begins_added n x ps = by_entry (first_of n ps) n x ps

pub keeps_same : (a b : Stock) → b ≡ a → Keeps a b
keeps_same a b h = subst (Keeps a) (sym h) (record {
  modules = begins_same a.modules;
  paths = begins_same a.paths;
  labels = begins_same a.labels;
})

pub keeps_trans : (a b c : Stock) → Keeps a b → Keeps b c → Keeps a c
keeps_trans a b c h k = record {
  modules = begins_trans a.modules b.modules c.modules h.modules k.modules;
  paths = begins_trans a.paths b.paths c.paths h.paths k.paths;
  labels = begins_trans a.labels b.labels c.labels h.labels k.labels;
}

-- the same where the one list is known to be the other, or to have more after
pub begins_is : {A : Type 0} (xs ys : List A) → ys ≡ xs → BeginsWith xs ys
begins_is xs ys h = subst (BeginsWith xs) (sym h) (begins_same xs)

pub begins_put : (n : List ℕ) (x : ℕ) (ps qs : List (List ℕ × ℕ)) → qs ≡ added n x ps → BeginsWith ps qs
begins_put n x ps qs h = subst (BeginsWith ps) (sym h) (begins_added n x ps)

by_path : (p : Option (List ℕ)) (x : ℕ) (ps : List (List ℕ × ℕ)) → BeginsWith ps (with_path p x ps)
by_path None x ps = begins_same ps
by_path (Some n) x ps = begins_added n x ps

pub begins_noted : (p : Option (List ℕ)) (x : ℕ) (ps qs : List (List ℕ × ℕ)) → qs ≡ with_path p x ps → BeginsWith ps qs
begins_noted p x ps qs h = subst (BeginsWith ps) (sym h) (by_path p x ps)

seen_end : (ms : List Declared) (m : Declared) → modules_seen (ms ++ m ∷ []) ≡ modules_seen ms ++ module_seen m ∷ []
seen_end [] m = refl
seen_end (x ∷ ms) m = ap (λ l. module_seen x ∷ l) (seen_end ms m)

pub begins_seen : (ms ns : List Declared) (m : Declared) → ns ≡ ms ++ m ∷ []
    → BeginsWith (modules_seen ms) (modules_seen ns)
begins_seen ms ns m h =
    subst (BeginsWith (modules_seen ms)) (sym (ap modules_seen h ∙ seen_end ms m))
    (begins_more (modules_seen ms) (module_seen m ∷ []))

pub begins_unseen : (ms ns : List Declared) → ns ≡ ms → BeginsWith (modules_seen ms) (modules_seen ns)
begins_unseen ms ns h = begins_is _ _ (ap modules_seen h)
