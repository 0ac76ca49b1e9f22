-- The modules of the roots are among those that are loaded.
use Rattle.std.proofs.Common.{arith, ◌≡◌, ◌+◌, ◌≤◌, ◌<◌, ◌⊎◌, inl, inr, ℕ, List, [], ◌∷◌, ◌++◌, length, Option, Some}
use Rattle.std.proofs.Common.{None}
use Rattle.std.proofs.Common.{get_or, ap, sym, subst}
use Rattle.std.specs.List.{Contains}
use Rattle.std.specs.Prelude.{IfSome}
use Rattle.std.proofs.lemmas.List.{length-append, length-map}
use Rattle.std.proofs.lemmas.List.Elements.{Contains-push_cases}
use Rattle.rpl_scope.specs.Packages as P
use Rattle.rpl_scope.specs.Seen.{module_seen, modules_seen}
use Rattle.rpl_names.specs.Built.{Becomes, same, on, text, said, again, imported, rooted, headed, opened}
use Rattle.rpl_names.specs.Loading.{State, finished, label_of, taken_up}
use Rattle.rpl_names.specs.Roots.{AreWithin}
use Rattle.rpl_names.specs.Stocks.{stock_seen}
use Rattle.rpl_names.specs.declared.stock.Head.{Head}
use Rattle.rpl_names.specs.declared.stock.Stock.{Stock}

-- no step lets go of a module
grows : (hs : List Head) (s t : State) → Becomes hs s t → length s.stock.modules ≤ length t.stock.modules
grows hs s t (same gs x) = omega arith
grows hs s t (on gs a b c f g) =
    let x = grows hs s b f in
    let y = grows hs b t g in
    omega (arith, x, y)
grows hs s t (text gs a f) = omega arith
grows hs s t (said gs a f k x m is e) = omega arith
grows hs s t (again gs a f i j m asked k e) = omega arith
grows hs s t (imported gs a u f i x m asked is free b e) =
    let label = label_of x.name i.path in
    let h = grows (headed hs (Some i.path) label) (opened s.stock (Some i.path) label) u b in
    let n = length-append u.stock.modules (u.own ∷ []) in
    omega (arith, h, n)
grows hs s t (rooted gs a u x q is name new free b) =
    let h = grows (headed hs None q.name) (opened s.stock None q.name) u b in
    let n = length-append u.stock.modules (u.own ∷ []) in
    omega (arith, h, n)

-- of the modules themselves
pub grows_seen : (hs : List Head) (s t : Stock) (a b : State) → Becomes hs a b → a.stock ≡ stock_seen s
    → b.stock ≡ stock_seen t → length s.modules.items ≤ length t.modules.items
grows_seen hs s t a b h e f =
    let n = grows hs a b h in
    let p = ap (λ x. length x.modules) e in
    let q = ap (λ x. length x.modules) f in
    let i = length-map s.modules.items module_seen in
    let j = length-map t.modules.items module_seen in
    omega (arith, n, p, q, i, j)

-- a module that is finished makes one more
pub finished_more : (s t : Stock) (m : P.Module) → stock_seen t ≡ finished (stock_seen s) m
    → length t.modules.items ≡ length s.modules.items + 1
finished_more s t m h =
    let p = ap (λ x. length x.modules) h in
    let n = length-append (modules_seen s.modules.items) (m ∷ []) in
    let i = length-map s.modules.items module_seen in
    let j = length-map t.modules.items module_seen in
    omega (arith, p, n, i, j)

-- and has the number of the last one
pub taken_within : (t : Stock) (u : State) (n : ℕ) → (n, stock_seen t) ≡ taken_up u → n < length t.modules.items
taken_within t u n h =
    let p = ap (λ r. r.0) h in
    let q = ap (λ r. length r.1.modules) h in
    let a = length-append u.stock.modules (u.own ∷ []) in
    let i = length-map t.modules.items module_seen in
    omega (arith, p, q, a, i)

-- no roots have no module beyond the first n
pub within_none : (os : List (Option ℕ)) (n : ℕ) → os ≡ [] → AreWithin os n
within_none os n h i k =
    let e = ap length h in
    absurd (omega (arith, e, k.1))

-- modules that are among the first n are among the first m, if m is not smaller
pub within_on : (os : List (Option ℕ)) (n m : ℕ) → n ≤ m → AreWithin os n → AreWithin os m
within_on os n m le h i k = let x = h i k in omega (arith, x, le)

of_some : (o : Option ℕ) (n i : ℕ) → IfSome o (λ k. k < n) → o ≡ Some i → i < n
of_some None n i h e = absurd (cc)
of_some (Some k) n i h e = subst (λ x. x < n) (same_some k i e) h
  where
    same_some : (x y : ℕ) → Some x ≡ Some y → x ≡ y
    same_some x y e = cc

-- one root more
pub within_push : (os all : List (Option ℕ)) (o : Option ℕ) (n m : ℕ) → all ≡ os ++ o ∷ [] → n ≤ m → AreWithin os n
    → IfSome o (λ k. k < m) → AreWithin all m
within_push os all o n m e le h one i k =
    pick (Contains-push_cases os o (Some i) (subst (λ l. Contains l (Some i)) e k))
  where
    pick : Contains os (Some i) ⊎ (o ≡ Some i) → i < m
    pick (inl x) = within_on os n m le h i x
    pick (inr x) = of_some o m i one x

-- the module of a root that is there
pub within_at : (os ds : List (Option ℕ)) (n k i : ℕ) (o : Option ℕ) → AreWithin os n → ds ≡ os → k < length ds
    → o ≡ get_or ds k o → o ≡ Some i → i < n
within_at os ds n k i o h e lt at is =
    let there = subst (λ x. x ≡ get_or ds k x) is at in
    h i (k, subst (λ l. k < length l) e lt, subst (λ l. get_or l k (Some i) ≡ Some i) e (sym there))
