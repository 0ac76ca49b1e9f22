-- What is loaded of a told tree of files is built.
use Rattle.std.proofs.Common.{◌≡◌, inl, inr, ℕ, zero, suc, ◌+◌, List, [], ◌∷◌, ◌++◌, length, Option, Some, None, refl}
use Rattle.std.proofs.Common.{ap, subst}
use Rattle.std.proofs.Common.{◌∙◌}
use Rattle.std.specs.Prelude.{Bool, true, false, nat_lt, if◌then◌else◌, is_some, Ok, encode_utf8_all, slice_get}
use Rattle.std.specs.List.{AllByRecursion, Contains}
use Rattle.std.proofs.lemmas.List.Elements.{All-contains_itself, recursion_from_All}
use Rattle.rpl_syntax.specs.Expression.{Expr}
use Rattle.rpl_syntax.specs.Modules.{ParsedModule}
use Rattle.rpl_syntax.specs.declared.module.Import.{Import}
use Rattle.rpl_syntax.specs.declared.name.QName.{QName}
use Rattle.rpl_scope.specs.Bodies as B
use Rattle.rpl_scope.specs.Faults.{Or, fault}
use Rattle.rpl_scope.specs.Imports.{take_in}
use Rattle.rpl_scope.specs.Packages.{first_of}
use Rattle.rpl_scope.specs.Statements.{statements}
use Rattle.rpl_scope.specs.declared.fault.LoadKind.TheVariants.{ImportCycle, TooManyPackages, Duplicate}
use Rattle.rpl_names.specs.Steps.{at_once, and_then, each_in_turn}
use Rattle.rpl_names.specs.Goals.{ReadsGoal, pattern_file}
use Rattle.rpl_names.specs.Loading.{World, Walk, Stock, State, world, search, fresh, known_or, load_import, brought}
use Rattle.rpl_names.specs.Loading.{import_entry}
use Rattle.rpl_names.specs.Loading.{import_entries, is_loading, is_taken, taken_up, said_of, with_text, checks}
use Rattle.rpl_names.specs.Loading.{own_text, label_of, label_at, walk}
use Rattle.rpl_names.specs.Patterns.{put, bring, needed_at, pattern_name}
use Rattle.rpl_names.specs.Patterns.{pattern_fault, checked, enter_pattern}
use Rattle.rpl_names.specs.Patterns.{goal_entered, load_pattern}
use Rattle.rpl_names.specs.Roots.{Roots, Rooted, Packages, top_head, with_root, named_root, root_text, read_root}
use Rattle.rpl_names.specs.Roots.{file_root}
use Rattle.rpl_names.specs.Roots.{asked_root, root_by, given_name, root_entry, counted, load_roots, begun, finish_set}
use Rattle.rpl_names.specs.Roots.{load}
use Rattle.rpl_names.specs.Texts.{module_text}
use Rattle.rpl_names.specs.declared.roots.Root.{Root}
use Rattle.rpl_names.specs.declared.roots.Root.TheVariants.{File, Given}
use Rattle.rpl_names.specs.declared.stock.Head.{Head}
use Rattle.rpl_names.specs.Built.{IsSaid, IsGoal, InGoal, IsAsked, Becomes, same, on, text, said}
use Rattle.rpl_names.specs.Built.{rooted, Makes, Loads, Reaches}
use Rattle.rpl_names.specs.Built.{IsBuilt, by_name, packages, StaysBuilt, opened, headed}
use Rattle.rpl_names.specs.Built as T
use Rattle.rpl_names.proofs.Building.{asks_at, asks_by, brings, none_of}
use Rattle.rpl_expand.specs.LoadLaws.{IsLoaded, by_roots, by_pattern}
use Rattle.rpl_expand.proofs.Steps.{both, passed, unless_fault, else_fault}

-- ---- texts

pub read_so : (f bytes : List ℕ) (t : ParsedModule) → module_text f bytes ≡ Ok t → IsSaid t
read_so f bytes t h = record { file = f; bytes = bytes; read = h }

-- ---- the walk

pub record IsBuiltWalk (below : Walk) : Type 0 where
  pub each : (s : Stock) (hs : List Head) (f path bytes : List ℕ) (t : State) → (below s hs f path bytes).answer ≡ Ok t
      → Loads hs path s t

module _ (w : World) (below : Walk) (built : IsBuiltWalk below) (hs : List Head) (f : List ℕ) (i : Import) where
  fresh_reached : (s : Stock) (o : Option (List ℕ × List ℕ)) (r : ℕ × Stock)
      → (fresh w below hs f i s o).answer ≡ Ok r → Reaches hs i.path s r
  fresh_reached s None r e = absurd (cc)
  fresh_reached s (Some g) r e =
      let room = else_fault (nat_lt (length s.modules + length hs) w.most) f i.at TooManyPackages
      (and_then (below s hs g.0 i.path g.1) (λ t. at_once (Ok (taken_up t)))) r e in
      let c = both (below s hs g.0 i.path g.1).answer (λ t. Ok (taken_up t)) r room in
      let is : r ≡ taken_up c.0 = (let k = c.2 in cc) in
      inr (c.0, built.each s hs g.0 i.path g.1 c.0 c.1, is)

  known_reached : (s : Stock) (o : Option ℕ) (r : ℕ × Stock) → first_of i.path s.paths ≡ o
      → (known_or o w below hs f i s).answer ≡ Ok r → Reaches hs i.path s r
  known_reached s (Some j) r k e =
      let is : ◌≡◌ {A = ℕ × Stock} (j, s) r = cc in
      subst (Reaches hs i.path s) is (inl (k, refl))
  known_reached s None r k e =
      let c = both (search w i.path).answer (λ o. (fresh w below hs f i s o).answer) r e in
      fresh_reached s c.0 r c.2

  pub reached : (s : Stock) (r : ℕ × Stock) → (load_import w below hs f i s).answer ≡ Ok r → Reaches hs i.path s r
  reached s r e =
      known_reached s (first_of i.path s.paths) r refl
      (unless_fault (is_loading i.path hs) f i.at (ImportCycle i.path)
      (known_or (first_of i.path s.paths) w below hs f i s) r e)

  brought_in : (s : State) (r : ℕ × Stock) (t : State) → IsAsked i → Reaches hs i.path s.stock r
      → (brought f i s.own r).answer ≡ Ok t → Becomes hs s t
  brought_in s r t asked k e =
      let c = both (take_in f i r.0 r.1.modules s.own) (λ n. Ok (record { stock = r.1; own = n })) t e in
      let is : ◌≡◌ {A = State} (record { stock = r.1; own = c.0 }) t = (let g = c.2 in cc) in
      subst (Becomes hs s) is (brings hs f i s r c.0 asked k c.1)

  entry_in : (s t : State) → IsAsked i → (import_entry w below hs f i s).answer ≡ Ok t → Becomes hs s t
  entry_in s t asked e =
      let c = both (load_import w below hs f i s.stock).answer (λ r. (brought f i s.own r).answer) t e in
      brought_in s c.0 t asked (reached s.stock c.0 c.1) c.2

-- each import of a text is asked for
asked_in : (t : ParsedModule) → IsSaid t → AllByRecursion IsAsked t.imports
asked_in t is = recursion_from_All IsAsked t.imports (asks_by t t.imports is refl)

module _ (w : World) (below : Walk) (built : IsBuiltWalk below) (hs : List Head) (f : List ℕ) where
  entries_in : (is : List Import) (s t : State) → AllByRecursion IsAsked is
      → (import_entries w below hs f is s).answer ≡ Ok t → Becomes hs s t
  entries_in [] s t asked e = let k : s ≡ t = cc in subst (Becomes hs s) k (same hs s)
  entries_in (i ∷ is) s t asked e =
      let c = both (import_entry w below hs f i s).answer (λ u. (import_entries w below hs f is u).answer) t e in
      on hs s c.0 t (entry_in w below built hs f i s c.0 asked.0 c.1) (entries_in is c.0 t asked.1 c.2)

  said_in : (k : ℕ) (t : ParsedModule) (s u : State) → IsSaid t → (said_of f k t s).answer ≡ Ok u → Becomes hs s u
  said_in k t s u is e =
      let ms = s.stock.modules in
      let c = both (statements f k ms t.items s.own) (λ m. Ok (record { stock = s.stock; own = m })) u e in
      let here : ◌≡◌ {A = State} (record { stock = s.stock; own = c.0 }) u = (let g = c.2 in cc) in
      subst (Becomes hs s) here (said hs s f k t c.0 is c.1)

  checked_in : (t : ParsedModule) (s u : State) → IsSaid t → (checks w below hs f t s).answer ≡ Ok u → Becomes hs s u
  checked_in t s u is e =
      let now : State = record { stock = s.stock; own = with_text s.own f } in
      let c = both (import_entries w below hs f t.imports now).answer
      (λ v. (said_of f (length s.own.texts) t v).answer) u e in
      on hs s now u (text hs s f)
      (on hs now c.0 u (entries_in t.imports now c.0 (asked_in t is) c.1) (said_in (length s.own.texts) t c.0 u is c.2))

module _ (w : World) (below : Walk) (built : IsBuiltWalk below) (s : Stock) (hs : List Head) (f : List ℕ)
    (path : Option (List ℕ)) (label : List ℕ) (t : ParsedModule) (u : State) (is : IsSaid t) where
  by_name_of : (b : Bool) → is_taken label hs s ≡ b
      → (if b then at_once (fault f (label_at t.name) (Duplicate label))
      else checks w below (headed hs path label) f t (opened s path label)).answer ≡ Ok u → Makes hs path label s u
  by_name_of true k e = absurd (cc)
  by_name_of false k e = record {
    free = k;
    comes = checked_in w below built (headed hs path label) f t (opened s path label) u is e;
  }

  own_in : (own_text w below s hs f path label t).answer ≡ Ok u → Makes hs path label s u
  own_in e = by_name_of (is_taken label hs s) refl e

-- what a pattern and its set come of: the expression that is read, and what its names bring
goal_made : (w : World) (p q : Packages) (r : Or Expr) (e : Expr) → (load_pattern w p r).answer ≡ Ok (e, q) → (x : Expr)
    × (r ≡ Ok x) × (s : Stock) × ((enter_pattern w pattern_file p.top p.stock x).answer ≡ Ok s)
    × (◌≡◌ {A = Expr × Packages} (x, record { stock = s; top = p.top; roots = p.roots }) (e, q))
goal_made w p q r e is =
    let last = λ (t : Expr × Stock). (at_once {A = Expr × Packages}
    (Ok (t.0, record { stock = t.1; top = p.top; roots = p.roots }))).answer in
    let c = both (goal_entered w p.top p.stock r).answer last (e, q) is in
    let d = both r (λ x. (and_then (enter_pattern w pattern_file p.top p.stock x) (λ t. at_once (Ok (x, t)))).answer)
    c.0 c.1 in
    let g = both (enter_pattern w pattern_file p.top p.stock d.0).answer
    (λ t. (at_once {A = Expr × Stock} (Ok (d.0, t))).answer) c.0 d.2 in
    (d.0, d.1, g.0, g.1, (let x = g.2 in let y = c.2 in cc))

module _ (w : World) (reads : (f bytes : List ℕ) (t : ParsedModule) → w.text f bytes ≡ Ok t → IsSaid t) where
  pub walks : (n : ℕ) → IsBuiltWalk (walk w n)
  walks zero = record { each = λ s hs f path bytes t e. absurd (cc) }
  walks (suc n) = record {
    each = λ s hs f path bytes t e.
        let c =
        both (w.text f bytes) (λ x. (own_text w (walk w n) s hs f (Some path) (label_of x.name path) x).answer) t e in
        let is = reads f bytes c.0 c.1 in
        record {
          text = c.0;
          said = is;
          makes = own_in w (walk w n) (walks n) s hs f (Some path) (label_of c.0.name path) c.0 t is c.2;
        };
  }

  -- ---- roots

  module _ (f : List ℕ) (t : ParsedModule) (q : QName) (s : State) (r : Rooted) (is : IsSaid t) (name :
      t.name ≡ Some q) where
    by_prefix : (b : Bool) → is_some (first_of q.name s.own.prefixes) ≡ b
        → (if b then at_once (fault f q.at (Duplicate q.name))
        else and_then (own_text w (walk w w.most) s.stock (top_head ∷ []) f None q.name t)
        (λ u. at_once (Ok (with_root q.name s.own u)))).answer ≡ Ok r → Becomes (top_head ∷ []) s r.1
    by_prefix true k e = absurd (cc)
    by_prefix false k e =
        let c = both (own_text w (walk w w.most) s.stock (top_head ∷ []) f None q.name t).answer
        (λ u. Ok (with_root q.name s.own u)) r e in
        let m = own_in w (walk w w.most) (walks w.most) s.stock (top_head ∷ []) f None q.name t c.0 is c.1 in
        let here : with_root q.name s.own c.0 ≡ r = (let g = c.2 in cc) in
        subst (λ x. Becomes (top_head ∷ []) s x.1) here
        (rooted (top_head ∷ []) s c.0 t q is name (none_of (first_of q.name s.own.prefixes) k) m.free m.comes)

  text_in : (f : List ℕ) (t : ParsedModule) (o : Option QName) (s : State) (r : Rooted) → IsSaid t → t.name ≡ o
      → (root_text w f t o s).answer ≡ Ok r → Becomes (top_head ∷ []) s r.1
  text_in f t None s r is name e =
      let c = both (checks w (walk w w.most) (top_head ∷ []) f t s).answer
      (λ u. (at_once {A = Rooted} (Ok (None, u))).answer) r e in
      let here : ◌≡◌ {A = Rooted} (None, c.0) r = (let g = c.2 in cc) in
      subst (λ x. Becomes (top_head ∷ []) s x.1) here
      (checked_in w (walk w w.most) (walks w.most) (top_head ∷ []) f t s c.0 is c.1)
  text_in f t (Some q) s r is name e =
      by_prefix f t q s r is name (is_some (first_of q.name s.own.prefixes)) refl
      (else_fault (nat_lt (length s.stock.modules + 1) w.most) f q.at TooManyPackages (named_root w f t q s) r e)

  read_in : (f bytes : List ℕ) (s : State) (r : Rooted) → (read_root w f bytes s).answer ≡ Ok r
      → Becomes (top_head ∷ []) s r.1
  read_in f bytes s r e =
      let c = both (w.text f bytes) (λ t. (root_text w f t t.name s).answer) r e in
      text_in f c.0 c.0.name s r (reads f bytes c.0 c.1) refl c.2

  file_in : (p : List ℕ) (s : State) (o : Option (List ℕ)) (r : Rooted) → (file_root w p s o).answer ≡ Ok r
      → Becomes (top_head ∷ []) s r.1
  file_in p s None r e = absurd (cc)
  file_in p s (Some bytes) r e = read_in p bytes s r e

  root_in : (k : ℕ) (x : Root) (s : State) (r : Rooted) → (root_by w k x s).answer ≡ Ok r
      → Becomes (top_head ∷ []) s r.1
  root_in k (File p) s r e =
      let c = both (asked_root w p).answer (λ o. (file_root w p s o).answer) r e in
      file_in p s c.0 r c.2
  root_in k (Given t) s r e = read_in (given_name k) (encode_utf8_all t) s r e

  roots_in : (xs : List (ℕ × Root)) (s t : Roots) → (each_in_turn (root_entry w) xs s).answer ≡ Ok t
      → Becomes (top_head ∷ []) s.state t.state
  roots_in [] s t e =
      let is : s ≡ t = cc in
      subst (λ x. Becomes (top_head ∷ []) s.state x.state) is (same (top_head ∷ []) s.state)
  roots_in (x ∷ xs) s t e =
      let c = both (root_entry w x s).answer (λ u. (each_in_turn (root_entry w) xs u).answer) t e in
      let d = both (root_by w x.0 x.1 s.state).answer
      (λ r. (at_once {A = Roots} (Ok (record { roots = s.roots ++ r.0 ∷ []; state = r.1 }))).answer) c.0 c.1 in
      let is : ◌≡◌ {A = Roots} (record { roots = s.roots ++ d.0.0 ∷ []; state = d.0.1 }) c.0 = (let g = d.2 in cc) in
      on (top_head ∷ []) s.state c.0.state t.state
      (subst (λ y. Becomes (top_head ∷ []) s.state y.state) is (root_in x.0 x.1 s.state d.0 d.1))
      (roots_in xs c.0 t c.2)

  loaded : (rs : List Root) (p : Packages) → (load w rs).answer ≡ Ok p → IsBuilt p
  loaded rs p e =
      let c = both (load_roots w rs begun).answer (λ s. Ok (finish_set s)) p e in
      let is : finish_set c.0 ≡ p = (let g = c.2 in cc) in
      subst IsBuilt is (T.by_roots c.0.state c.0.roots (roots_in (counted 0 rs) begun c.0 c.1))

  -- ---- a pattern

  wants_in : (f : List ℕ) (i : ℕ) (s t : Stock) (o : Option Import) → ((x : Import) → o ≡ Some x → IsAsked x)
      → (bring w f i s o).answer ≡ Ok t → StaysBuilt i s t
  wants_in f i s t None asked e = λ rs b. let k : s ≡ t = cc in subst (λ x. IsBuilt (packages x i rs)) k b
  wants_in f i s t (Some x) asked e = λ rs b.
      let c = both (load_import w (walk w w.most) [] f x s).answer (λ r. (put f x i r).answer) t e in
      by_name s t i rs f x c.0 b (asked x refl) (reached w (walk w w.most) (walks w.most) [] f x s c.0 c.1) c.2

  names_in : (f : List ℕ) (i : ℕ) (e : Expr) (qs : List QName) (s t : Stock) → IsGoal e
      → AllByRecursion (Contains (B.names e)) qs → (each_in_turn (pattern_name w f i) qs s).answer ≡ Ok t
      → StaysBuilt i s t
  names_in f i e [] s t g all is = λ rs b. let k : s ≡ t = cc in subst (λ x. IsBuilt (packages x i rs)) k b
  names_in f i e (q ∷ qs) s t g all is = λ rs b.
      let c = both (pattern_name w f i q s).answer (λ u. (each_in_turn (pattern_name w f i) qs u).answer) t is in
      let m = slice_get s.modules i in
      let stands : InGoal q = record { goal = e; read = g; stands = all.0 } in
      let here = wants_in f i s c.0 (needed_at q m) (λ x k. asks_at q m x stands k) c.1 in
      names_in f i e qs c.0 t g all.1 c.2 rs (here rs b)

  entered : (f : List ℕ) (i : ℕ) (e : Expr) (s t : Stock) → IsGoal e → (enter_pattern w f i s e).answer ≡ Ok t
      → StaysBuilt i s t
  entered f i e s t g is =
      let c = both (each_in_turn (pattern_name w f i) (B.names e) s).answer (λ u. (checked f e i u).answer) t is in
      let p = passed (pattern_fault f e c.0.modules (slice_get c.0.modules i)) c.0 t c.2 in
      let all = recursion_from_All (Contains (B.names e)) (B.names e) (All-contains_itself (B.names e)) in
      subst (StaysBuilt i s) p.1 (names_in f i e (B.names e) s c.0 g all c.1)

  goal_loaded : (p q : Packages) (r : Or Expr) (e : Expr) → ((x : Expr) → r ≡ Ok x → IsGoal x) → IsBuilt p
      → (load_pattern w p r).answer ≡ Ok (e, q) → IsBuilt q
  goal_loaded p q r e reads b is =
      let m = goal_made w p q r e is in
      let came = entered pattern_file p.top m.0 p.stock m.2 (reads m.0 m.1) m.3 in
      subst (λ x. IsBuilt x.1) m.4 (came p.roots b)

-- what comes of a pattern is the expression that its text was read as
pub pattern_said : (w : World) (p q : Packages) (r : Or Expr) (e : Expr) → (load_pattern w p r).answer ≡ Ok (e, q)
    → r ≡ Ok e
pattern_said w p q r e is =
    let m = goal_made w p q r e is in
    m.1 ∙ ap (λ (x : Expr × Packages). Ok x.0) m.4

goal_read : (fixed find : Bool) (bytes : List ℕ) (r : Or Expr) → ReadsGoal fixed find bytes r → (x : Expr) → r ≡ Ok x
    → IsGoal x
goal_read fixed find bytes r h x e = record {
  fixed = fixed;
  find = find;
  text = bytes;
  read = subst (ReadsGoal fixed find bytes) e h;
}

-- every set that is loaded of a told tree is built
pub told_is_built : (tree : List (List ℕ × List ℕ)) (folders : List (List ℕ)) (p : Packages) → IsLoaded tree folders p
    → IsBuilt p
told_is_built tree folders p (by_roots roots q h) = loaded (world tree folders) read_so roots q h
told_is_built tree folders p (by_pattern o q fixed find bytes read e reads l h) =
    goal_loaded (world tree folders) read_so o q read e (goal_read fixed find bytes read reads)
    (told_is_built tree folders o l) h
