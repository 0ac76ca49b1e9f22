-- How what is loaded is built.
use Rattle.std.proofs.Common.{◌≡◌, inl, inr, ℕ, List, [], ◌∷◌, length, Option, Some, None, refl, sym, ap, ap₂, subst}
use Rattle.std.proofs.Common.{◌∙◌, ◌≤◌, ◌<◌, arith, get_or, map}
use Rattle.std.specs.List.{All, Contains}
use Rattle.std.specs.Prelude.{Bool, false, Result, Ok, Err, IfOk, is_some, slice_get}
use Rattle.std.proofs.lemmas.List.{get_or-map, length-map}
use Rattle.std.proofs.lemmas.List.Elements.{All-get_or, All-same, All-weaker, All-contains_itself}
use Rattle.rpl_syntax.specs.Expression.{Expr}
use Rattle.rpl_syntax.specs.Modules as S
use Rattle.rpl_syntax.specs.Modules.{ParsedModule}
use Rattle.rpl_syntax.specs.View.{expr_of}
use Rattle.rpl_syntax.specs.declared.expr.Expr.{Expr as Code}
use Rattle.rpl_syntax.specs.declared.module.Module.{Module as Text}
use Rattle.rpl_syntax.specs.declared.module.Import.{Import}
use Rattle.rpl_syntax.specs.declared.module.ImportAs.TheVariants.{Last}
use Rattle.rpl_syntax.specs.declared.name.QName.{QName}
use Rattle.rpl_scope.specs.Faults.{Gives}
use Rattle.rpl_scope.specs.Imports.{take_in, with_prefix}
use Rattle.rpl_scope.specs.Packages.{Module, first_of}
use Rattle.rpl_scope.specs.Statements.{statements}
use Rattle.rpl_scope.specs.declared.fault.Stop.{Stop}
use Rattle.rpl_scope.specs.declared.module.Prefix.{Prefix}
use Rattle.rpl_names.specs.Built.{IsAsked, by_text, by_goal, InGoal, IsGoal}
use Rattle.rpl_names.specs.Built.{IsSaid, Becomes, on, text, said, again, imported, rooted, Makes, Loads, Reaches}
use Rattle.rpl_names.specs.Built.{StaysBuilt, by_name, opened, headed}
use Rattle.rpl_names.specs.Loading.{Stock, State, finished, is_taken, label_of, with_text}
use Rattle.rpl_names.specs.Goals.{ReadsText}
use Rattle.rpl_names.specs.Patterns.{put_by, needed_at, needed_by, needed_unless}
use Rattle.rpl_names.specs.Texts.{module_text, max_text_bytes}
use Rattle.rpl_names.specs.declared.stock.Head.{Head}

-- a text that is read is said
pub said_by : (f s : List ℕ) (r : Result Text Stop) → Gives S.said r (module_text f s) → IfOk r (λ t. IsSaid (S.said t))
said_by f s (Ok t) h = record { file = f; bytes = s; read = h }
said_by f s (Err x) h = tt

-- a module that is made while one more is being loaded
pub makes_by : (hs gs : List Head) (path : Option (List ℕ)) (label : List ℕ) (s : Stock) (t u : State)
    → is_taken label hs s ≡ false → gs ≡ headed hs path label → t ≡ opened s path label → Becomes gs t u
    → Makes hs path label s u
makes_by hs gs path label s t u free same is h = record {
  free = free;
  comes = subst (λ x. Becomes (headed hs path label) x u) is (subst (λ x. Becomes x t u) same h);
}

-- what an import brings of what it reaches
pub brings : (hs : List Head) (f : List ℕ) (i : Import) (s : State) (r : ℕ × Stock) (m : Module)
    → IsAsked i → Reaches hs i.path s.stock r → take_in f i r.0 r.1.modules s.own ≡ Ok m
    → Becomes hs s (record { stock = r.1; own = m })
brings hs f i s r m asked (inl h) e =
    subst (λ x. Becomes hs s (record { stock = x; own = m })) (sym h.1)
    (again hs s f i r.0 m asked h.0 (ap (λ x. take_in f i r.0 x.modules s.own) (sym h.1) ∙ e))
brings hs f i s r m asked (inr h) e =
    let u = h.0 in
    let l = h.1 in
    subst (λ x. Becomes hs s (record { stock = x.1; own = m })) (sym h.2)
    (imported hs s u f i l.text m asked l.said l.makes.free l.makes.comes
    (ap (λ x. take_in f i x.0 x.1.modules s.own) (sym h.2) ∙ e))

-- the module of a path that is found is that of its number
pub known : (hs : List Head) (path : List ℕ) (s t : Stock) (j : ℕ) → first_of path s.paths ≡ Some j → t ≡ s
    → Reaches hs path s (j, t)
known hs path s t j h e = inl (h, e)

-- and one that is loaded and finished has the next
pub finishes : (hs : List Head) (path : List ℕ) (s : Stock) (u : State) (j : ℕ) (t : Stock) → Loads hs path s u
    → j ≡ length u.stock.modules → t ≡ finished u.stock u.own → Reaches hs path s (j, t)
finishes hs path s u j t h e k = inr (u, h, ap (λ x. (x, t)) e ∙ ap (λ x. (length u.stock.modules, x)) k)

-- the module of an imported text
pub loads_by : (hs : List Head) (path : List ℕ) (s : Stock) (u : State) (t : ParsedModule) (p : Option (List ℕ)) (l :
    List ℕ)
    → IsSaid t → p ≡ Some path → l ≡ label_of t.name path → Makes hs p l s u → Loads hs path s u
loads_by hs path s u t p l is e f h = record {
  text = t;
  said = is;
  makes = subst (λ y. Makes hs (Some path) y s u) f (subst (λ x. Makes hs x l s u) e h);
}

-- a text: its name is noted, and then come its imports and its statements
pub texts_on : (hs : List Head) (f : List ℕ) (k : ℕ) (s a b : State) (t : ParsedModule) (m : Module) → IsSaid t
    → a ≡ record { stock = s.stock; own = with_text s.own f } → Becomes hs a b
    → statements f k b.stock.modules t.items b.own ≡ Ok m → Becomes hs s (record { stock = b.stock; own = m })
texts_on hs f k s a b t m is e h g =
    let now : State = record { stock = s.stock; own = with_text s.own f } in
    on hs s now (record { stock = b.stock; own = m }) (text hs s f)
    (on hs now b (record { stock = b.stock; own = m }) (subst (λ x. Becomes hs x b) e h) (said hs b f k t m is g))

-- an option that has no value is `None`
pub none_of : {A : Type 0} (o : Option A) → is_some o ≡ false → o ≡ None
none_of None h = refl
none_of (Some x) h = absurd (cc)

-- a root's own module, which becomes a prefix
pub roots_on : (hs : List Head) (s u a : State) (t : ParsedModule) (q : QName) (j : ℕ) → IsSaid t → t.name ≡ Some q
    → first_of q.name s.own.prefixes ≡ None → Makes hs None q.name s.stock u → j ≡ length u.stock.modules
    → a.stock ≡ finished u.stock u.own
    → a.own ≡ with_prefix s.own q.name (record { since = length s.own.rules; number = j }) → Becomes hs s a
roots_on hs s u a t q j is name none h e f g =
    let own = g ∙ ap (λ n. with_prefix s.own q.name (record { since = length s.own.rules; number = n })) e in
    subst (Becomes hs s) (ap₂ (λ x y. record { stock = x; own = y }) (sym f) (sym own))
    (rooted hs s u t q is name none h.free h.comes)

-- the name of a pattern, which brings a prefix into the top module
pub puts_on : (i : ℕ) (s t u : Stock) (n : ℕ) (f : List ℕ) (e : Import) → IsAsked e → Reaches [] e.path s (n, u)
    → put_by f e n i u (slice_get u.modules i) ≡ Ok t → StaysBuilt i s t
puts_on i s t u n f e asked h g rs b = by_name s t i rs f e (n, u) b asked h g

-- ---- what is asked for

-- the imports of a text that was read
pub asks_by : (t : ParsedModule) (is : List Import) → IsSaid t → is ≡ t.imports → All IsAsked is
asks_by t is h e =
    All-same IsAsked is t.imports e
    (All-weaker (Contains t.imports) IsAsked (λ i k. by_text t h k) t.imports (All-contains_itself t.imports))

-- one of what is lent
pub one_of : {A B : Type 0} (xs : List A) (i : ℕ) (x : A) (f : A → B) (P : B → Type 0) → i < length xs
    → x ≡ get_or xs i x → All P (map f xs) → P (f x)
one_of xs i x f P lt is all =
    let n = length-map xs f in
    subst P (get_or-map f xs i x (f x) lt ∙ ap f (sym is)) (All-get_or P (map f xs) i (f x) (omega (arith, lt, n)) all)

same_some : {A : Type 0} (x y : A) → Some x ≡ Some y → x ≡ y
same_some x y e = cc

asks_unless : (o : Option Prefix) (p : List ℕ) (at : ℕ) (i : Import) → needed_unless o p at ≡ Some i
    → (p ≡ i.path) × (Last ≡ i.name)
asks_unless None p at i h =
    let same = same_some (record { path = p; at = at; name = Last }) i h in
    (ap (λ x. x.path) same, ap (λ x. x.name) same)
asks_unless (Some x) p at i h = absurd (cc)

asks_with : (m : Module) (at : ℕ) (o : Option (List ℕ)) (i : Import) → needed_by m at o ≡ Some i
    → (o ≡ Some i.path) × (i.name ≡ Last)
asks_with m at None i h = absurd (cc)
asks_with m at (Some []) i h = absurd (cc)
asks_with m at (Some (c ∷ p)) i h =
    let is = asks_unless (first_of (c ∷ p) m.prefixes) (c ∷ p) at i h in
    (ap Some is.0, sym is.1)

-- the import that a name of a pattern asks for
pub asks_at : (q : QName) (o : Option Module) (i : Import) → InGoal q → needed_at q o ≡ Some i → IsAsked i
asks_at q None i h e = absurd (cc)
asks_at q (Some m) i h e = let is = asks_with m q.at q.prefix i e in by_goal q h is.0 is.1

-- a text that isn't too long and is read as a pattern
pub reads_goal : (fixed find : Bool) (s : List ℕ) (e : Expr) → length s ≤ max_text_bytes
    → ReadsText fixed find s (Ok e) → IsGoal e
reads_goal fixed find s e n h = record {
  fixed = fixed;
  find = find;
  text = s;
  read = record { long = λ m. absurd (omega (arith, n, m)); text = λ k. h };
}

-- and so is the answer to a text that is no literal
pub reads_answer : (fixed find : Bool) (s : List ℕ) (r : Result Code Stop) → length s ≤ max_text_bytes
    → fixed ≡ false → IfOk r (λ e. ReadsText false find s (Ok (expr_of e))) → IfOk r (λ e. IsGoal (expr_of e))
reads_answer fixed find s (Ok e) n is h =
    reads_goal fixed find s (expr_of e) n (subst (λ b. ReadsText b find s (Ok (expr_of e))) (sym is) h)
reads_answer fixed find s (Err x) n is h = tt
