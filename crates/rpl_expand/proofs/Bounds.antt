-- The bound on files that are read one inside the other is never met: that on modules is met before it.
use Rattle.std.proofs.Common.{◌≡◌, ◌≤◌, ◌<◌, inl, inr, ℕ, zero, suc, ◌+◌, List, [], ◌∷◌, ◌++◌, length, Option, Some}
use Rattle.std.proofs.Common.{None, refl}
use Rattle.std.proofs.Common.{ap, ◌∙◌, arith}
use Rattle.std.specs.Prelude.{Bool, true, false, nat_lt, if◌then◌else◌, Ok, Err, slice_get}
use Rattle.std.proofs.lemmas.Bool.{ltb-true}
use Rattle.std.proofs.lemmas.List.{length-append}
use Rattle.rpl_syntax.specs.Modules.{ParsedModule}
use Rattle.rpl_syntax.specs.declared.module.Import.{Import}
use Rattle.rpl_scope.specs.Faults.{Or, ◌>>=◌, fault}
use Rattle.rpl_scope.specs.Imports.{take_in}
use Rattle.rpl_scope.specs.Packages.{Module, first_of}
use Rattle.rpl_scope.specs.declared.fault.LoadKind.TheVariants.{ImportCycle, TooManyPackages, Duplicate}
use Rattle.rpl_names.proofs.Numbering.{nth_within}
use Rattle.rpl_names.specs.Steps.{Outcome, at_once, and_then, asked_then}
use Rattle.rpl_names.specs.Built.{Loads, Reaches, headed, opened}
use Rattle.rpl_names.specs.Loading.{World, Walk, Stock, State, world, search, fresh, known_or, load_import, brought}
use Rattle.rpl_names.specs.Loading.{import_entry, import_entries, is_loading, is_taken, taken_up, said_of, with_text}
use Rattle.rpl_names.specs.Loading.{checks}
use Rattle.rpl_names.specs.Loading.{own_text, label_of, label_at, walk}
use Rattle.rpl_names.specs.declared.stock.Head.{Head}
use Rattle.rpl_expand.proofs.Distinct.{stays}
use Rattle.rpl_expand.proofs.Lists.{nth_found}
use Rattle.rpl_expand.proofs.Steps.{both}
use Rattle.rpl_expand.proofs.Told.{IsBuiltWalk, read_so, reached, walks}
use Rattle.rpl_expand.specs.LoadLaws.{WalksAreWhole}

-- ---- modules only come

longer : (a b : List Module) → ((i : ℕ) (m : Module) → slice_get a i ≡ Some m → slice_get b i ≡ Some m)
    → length a ≤ length b
longer a b f = by (length a) refl
  where
    by : (n : ℕ) → length a ≡ n → length a ≤ length b
    by zero e = omega (arith, e)
    by (suc n) e =
        let g = nth_found a n (omega (arith, e)) in
        let k = nth_within b n g.0 (f n g.0 g.1) in
        omega (arith, e, k)

loads_grow : (hs : List Head) (path : List ℕ) (s : Stock) (u : State) → Loads hs path s u
    → length s.modules ≤ length u.stock.modules
loads_grow hs path s u l =
    let label = label_of l.text.name path in
    longer s.modules u.stock.modules
    (stays (headed hs (Some path) label) (opened s (Some path) label) u l.makes.comes)

reaches_grow : (hs : List Head) (path : List ℕ) (s : Stock) (r : ℕ × Stock) → Reaches hs path s r
    → length s.modules ≤ length r.1.modules
reaches_grow hs path s r (inl h) =
    let e : length r.1.modules ≡ length s.modules = ap (λ x. length x.modules) h.1 in omega (arith, e)
reaches_grow hs path s r (inr h) =
    let u = h.0 in
    let le = loads_grow hs path s u h.1 in
    let e : length r.1.modules ≡ length (u.stock.modules ++ u.own ∷ []) = ap (λ x. length x.1.modules) h.2 in
    let n = length-append u.stock.modules (u.own ∷ []) in
    omega (arith, e, n, le)

entry_grows : (w : World) (below : Walk) → IsBuiltWalk below → (hs : List Head) (f : List ℕ) (i : Import) (s t : State)
    → (import_entry w below hs f i s).answer ≡ Ok t → length s.stock.modules ≤ length t.stock.modules
entry_grows w below built hs f i s t e =
    let c = both (load_import w below hs f i s.stock).answer (λ r. (brought f i s.own r).answer) t e in
    let r = c.0 in
    let le = reaches_grow hs i.path s.stock r (reached w below built hs f i s.stock r c.1) in
    let d = both (take_in f i r.0 r.1.modules s.own) (λ n. Ok (record { stock = r.1; own = n })) t c.2 in
    let is : ◌≡◌ {A = State} (record { stock = r.1; own = d.0 }) t = (let g = d.2 in cc) in
    let n : length r.1.modules ≡ length t.stock.modules = ap (λ x. length x.stock.modules) is in
    omega (arith, le, n)

-- ---- the same steps, one after the other

and_then_on : {A B : Type 0} (x : Outcome A) (k l : A → Outcome B) → ((y : A) → x.answer ≡ Ok y → k y ≡ l y)
    → and_then x k ≡ and_then x l
and_then_on {A = A} {B = B} x k l f = by x.answer refl
  where
    by : (r : Or A) → x.answer ≡ r
        → ◌≡◌ {A = Outcome B} (record { asked = x.asked ++ asked_then r k; answer = r >>= λ y. (k y).answer })
        (record { asked = x.asked ++ asked_then r l; answer = r >>= λ y. (l y).answer })
    by (Ok y) e = ap (λ (o : Outcome B). record { asked = x.asked ++ o.asked; answer = o.answer }) (f y e)
    by (Err g) e = refl

-- two walks of what is imported are the same where so many modules are loaded and there is room for one more
abbrev Agree : World → Walk → Walk → List Head → ℕ → Type 0
Agree w a b hs least =
    (s : Stock) (f path bytes : List ℕ) → least ≤ length s.modules → length s.modules + length hs < w.most
    → a s hs f path bytes ≡ b s hs f path bytes

module _ (w : World) (a b : Walk) (built : IsBuiltWalk b) (hs : List Head) (least : ℕ) (agree : Agree w a b hs least)
    (f : List ℕ) where
  abbrev taken : Outcome State → Outcome (ℕ × Stock)
  taken x = and_then x (λ t. at_once (Ok (taken_up t)))

  fresh_same : (i : Import) (s : Stock) (o : Option (List ℕ × List ℕ)) → least ≤ length s.modules
      → fresh w a hs f i s o ≡ fresh w b hs f i s o
  fresh_same i s None le = refl
  fresh_same i s (Some g) le = by (nat_lt (length s.modules + length hs) w.most) refl
    where
      by : (t : Bool) → nat_lt (length s.modules + length hs) w.most ≡ t
          → (if t then taken (a s hs g.0 i.path g.1) else at_once (fault f i.at TooManyPackages))
          ≡ (if t then taken (b s hs g.0 i.path g.1) else at_once (fault f i.at TooManyPackages))
      by true e = ap taken (agree s g.0 i.path g.1 le (ltb-true _ _ e))
      by false e = refl

  known_same : (i : Import) (s : Stock) (o : Option ℕ) → least ≤ length s.modules
      → known_or o w a hs f i s ≡ known_or o w b hs f i s
  known_same i s (Some j) le = refl
  known_same i s None le =
      and_then_on (search w i.path) (fresh w a hs f i s) (fresh w b hs f i s) (λ o e. fresh_same i s o le)

  import_same : (i : Import) (s : Stock) → least ≤ length s.modules
      → load_import w a hs f i s ≡ load_import w b hs f i s
  import_same i s le =
      ap (λ (x : Outcome (ℕ × Stock)). if is_loading i.path hs then at_once (fault f i.at (ImportCycle i.path)) else x)
      (known_same i s (first_of i.path s.paths) le)

  entry_same : (i : Import) (s : State) → least ≤ length s.stock.modules
      → import_entry w a hs f i s ≡ import_entry w b hs f i s
  entry_same i s le = ap (λ (x : Outcome (ℕ × Stock)). and_then x (brought f i s.own)) (import_same i s.stock le)

  entries_same : (is : List Import) (s : State) → least ≤ length s.stock.modules
      → import_entries w a hs f is s ≡ import_entries w b hs f is s
  entries_same [] s le = refl
  entries_same (i ∷ is) s le =
      ap (λ (x : Outcome State). and_then x (import_entries w a hs f is)) (entry_same i s le)
      ∙ and_then_on (import_entry w b hs f i s) (import_entries w a hs f is) (import_entries w b hs f is)
      (λ t e. let more = entry_grows w b built hs f i s t e in entries_same is t (omega (arith, le, more)))

  checks_same : (t : ParsedModule) (s : State) → least ≤ length s.stock.modules
      → checks w a hs f t s ≡ checks w b hs f t s
  checks_same t s le =
      ap (λ (x : Outcome State). and_then x (said_of f (length s.own.texts) t))
      (entries_same t.imports (record { stock = s.stock; own = with_text s.own f }) le)

own_same : (w : World) (a b : Walk) → IsBuiltWalk b → (s : Stock) (hs : List Head) (f path label : List ℕ)
    (t : ParsedModule) → Agree w a b (headed hs (Some path) label) (length s.modules)
    → own_text w a s hs f (Some path) label t ≡ own_text w b s hs f (Some path) label t
own_same w a b built s hs f path label t agree =
    ap (λ (x : Outcome State). if is_taken label hs s then at_once (fault f (label_at t.name) (Duplicate label)) else x)
    (checks_same w a b built (headed hs (Some path) label) (length s.modules) agree f t
    (opened s (Some path) label) (omega arith))

-- ---- one file more inside the others

module _ (w : World) (all_built : (n : ℕ) → IsBuiltWalk (walk w n)) where
  one_more : (n : ℕ) (s : Stock) (hs : List Head) (f path bytes : List ℕ) → length s.modules + length hs < w.most
      → w.most ≤ n + (length s.modules + length hs) → walk w (suc n) s hs f path bytes ≡ walk w n s hs f path bytes
  one_more zero s hs f path bytes lt le = absurd (omega (arith, lt, le))
  one_more (suc n) s hs f path bytes lt le =
      and_then_on (at_once (w.text f bytes))
      (λ t. own_text w (walk w (suc n)) s hs f (Some path) (label_of t.name path) t)
      (λ t. own_text w (walk w n) s hs f (Some path) (label_of t.name path) t)
      (λ t e. own_same w (walk w (suc n)) (walk w n) (all_built n) s hs f path (label_of t.name path) t
      (λ q g p c more room.
      let grown = length-append hs (record { path = Some path; label = label_of t.name path } ∷ []) in
      one_more n q (headed hs (Some path) (label_of t.name path)) g p c room (omega (arith, le, more, grown))))

  more : (k : ℕ) (s : Stock) (hs : List Head) (f path bytes : List ℕ) → length s.modules + length hs < w.most
      → walk w (k + w.most) s hs f path bytes ≡ walk w w.most s hs f path bytes
  more zero s hs f path bytes lt =
      let e : 0 + w.most ≡ w.most = omega arith in ap (λ n. walk w n s hs f path bytes) e
  more (suc k) s hs f path bytes lt =
      let e : suc k + w.most ≡ suc (k + w.most) = omega arith in
      ap (λ n. walk w n s hs f path bytes) e
      ∙ one_more (k + w.most) s hs f path bytes lt (omega (arith, lt)) ∙ more k s hs f path bytes lt

pub walks_are_whole : WalksAreWhole
walks_are_whole tree folders k s hs f path bytes lt =
    more (world tree folders) (walks (world tree folders) read_so) k s hs f path bytes lt
