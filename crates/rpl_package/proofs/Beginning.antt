-- The text of an import, read, and its module.
use Rattle.std.proofs.Common.{◌≡◌, ◌≢◌, ◌-◌, ℕ, List, [], ◌∷◌, ◌++◌, Bool, Some, None, true, false, refl}
use Rattle.std.proofs.Common.{sym, ap, ap₂, subst, ◌∙◌, arith}
use Rattle.std.proofs.Math.Seq.{take-append_seam}
use Rattle.std.proofs.lemmas.List.{append_assoc, length-append}
use Rattle.std.specs.Prelude.{if◌then◌else◌, nat_lt, ◌+◌, length, take, Ok}
use Rattle.rpl_syntax.specs.Modules.{ParsedModule, said}
use Rattle.rpl_syntax.specs.declared.module.Import.{Import}
use Rattle.rpl_scope.specs.Faults.{Or, ◌>>=◌, fault, StopIs}
use Rattle.rpl_scope.specs.Packages.{first_of}
use Rattle.rpl_scope.specs.declared.fault.LoadKind.TheVariants.{Duplicate}
use Rattle.rpl_scope.specs.declared.fault.Stop.{Stop}
use Rattle.rpl_scope.specs.declared.fault.Stop.TheVariants.{Memory, Fault}
use Rattle.rpl_package.specs.Asking.{IsTold, Outcome, at_once, and_then, asked_then, in_bytes}
use Rattle.rpl_package.specs.inside.Stopping.{Comes, MayStop}
use Rattle.rpl_names.specs.Built.{IsSaid, Loads, Becomes, opened}
use Rattle.rpl_names.specs.Loading.{World, Walk, Stock, State, find, checks, own_text, is_taken, is_loading, label_at}
use Rattle.rpl_names.specs.Loading.{label_of, paths_tried, taken_up, walk, world, load_import}
use Rattle.rpl_package.specs.declared.opening.ImportedText.{ImportedText}
use Rattle.rpl_names.specs.declared.stock.Head.{Head}
use Rattle.rpl_package.specs.inside.Opening.{Begins, imported_head, own_begun}
use Rattle.rpl_names.proofs.Building.{makes_by, loads_by}
use Rattle.rpl_package.proofs.Outcomes.{Follows, comes_lead, out_first, same, there, trail, may, step_on, step_stops}
use Rattle.rpl_package.proofs.Walking.{own_free, read_leads, room_leads}

-- ---- a module that begins

free_by : (b : Bool) (f : List ℕ) (at : ℕ) (l : List ℕ) (v u : State)
    → (if b then fault f at (Duplicate l) else Ok v) ≡ Ok u
    → (b ≡ false) × (u ≡ v)
free_by true f at l v u h = absurd (cc)
free_by false f at l v u h = (refl, cc)

pub begun_free : (s : Stock) (hs : List Head) (f : List ℕ) (h : Head) (t : ParsedModule) (u : State)
    → own_begun s hs f h t ≡ Ok u
    → (is_taken h.label hs s ≡ false) × (u ≡ opened s h.path h.label)
begun_free s hs f h t u e = free_by (is_taken h.label hs s) f (label_at t.name) h.label (opened s h.path h.label) u e

pub begins_by : (hs : List Head) (path : List ℕ) (s : Stock) (t : ParsedModule) (f : List ℕ) (h : Head) (now :
    List Head) (u : State)
    → IsSaid t → h ≡ imported_head t.name path → own_begun s hs f h t ≡ Ok u → now ≡ hs ++ h ∷ []
    → Begins hs path s t now u
begins_by hs path s t f h now u is e begun held =
    let head = imported_head t.name path in
    let b = begun_free s hs f head t u (subst (λ x. own_begun s hs f x t ≡ Ok u) e begun) in
    record { said = is; free = b.0; held = held ∙ ap (λ x. hs ++ x ∷ []) e; state = b.1 }

-- what keeps a module from beginning stops its text
stops_by : {l : List (List ℕ)} (b : Bool) (s : Stop) (r : Or State) (v : State) (o : Outcome State)
    → StopIs s (if b then r else Ok v)
    → MayStop l l s (if b then at_once r else o)
stops_by true s r v o h = may s r h
stops_by false Memory r v o h = out_first o
stops_by false (Fault f) r v o h = absurd (let e = h.1 in cc)

pub own_stops : {l : List (List ℕ)} (w : World) (below : Walk) (s : Stock) (hs : List Head) (f : List ℕ) (h :
    Head) (t : ParsedModule) (stop : Stop)
    → StopIs stop (own_begun s hs f h t) → MayStop l l stop (own_text w below s hs f h.path h.label t)
own_stops w below s hs f h t stop is =
    stops_by (is_taken h.label hs s) stop (fault f (label_at t.name) (Duplicate h.label)) (opened s h.path h.label)
    (checks w below (hs ++ record { path = h.path; label = h.label } ∷ []) f t (opened s h.path h.label)) is

-- and one that begins goes on with its text
pub own_goes : {l : List (List ℕ)} (w : World) (below : Walk) (s : Stock) (hs : List Head) (f : List ℕ) (h : Head) (t :
    ParsedModule) (now : List Head) (u : State)
    → own_begun s hs f h t ≡ Ok u → now ≡ hs ++ h ∷ []
    → Follows l l (checks w below now f t u) (own_text w below s hs f h.path h.label t)
own_goes w below s hs f h t now u begun held =
    let b = begun_free s hs f h t u begun in
    same _ _ (ap₂ (λ x y. checks w below x f t y) held b.1 ∙ sym (own_free w below s hs f h.path h.label t b.0))

-- what stops the text of a module that begins stops its loading
module _ (K : Type 0) (w : World) (below : Walk) (s : Stock) (hs : List Head) (f : List ℕ) (h : Head) (t :
    ParsedModule) (now : List Head) (u : State) (begun : own_begun s hs f h t ≡ Ok u) (held : now ≡ hs ++ h ∷ [])
    (told : IsTold K (and_then (own_text w below s hs f h.path h.label t) (λ v. at_once (Ok (taken_up v)))).asked) where
  abbrev own : Outcome State
  own = own_text w below s hs f h.path h.label t

  pub own_text_stops : {l n : List (List ℕ)} (stop : Stop)
      → (IsTold K (checks w below now f t u).asked → MayStop l n stop (checks w below now f t u))
      → MayStop l n stop (and_then own (λ v. at_once (Ok (taken_up v))))
  own_text_stops = step_stops K (checks w below now f t u) own (λ v. at_once (Ok (taken_up v))) _
      (own_goes w below s hs f h t now u begun held) (same _ _ refl) told

  -- and where it has been read, the module is taken up
  pub own_text_taken : {l n : List (List ℕ)} (v : State)
      → (IsTold K (checks w below now f t u).asked → Comes l n v (checks w below now f t u))
      → Comes l n (taken_up v) (and_then own (λ v. at_once (Ok (taken_up v))))
  own_text_taken v e =
      comes_lead (taken_up v) _ _ (step_on K (checks w below now f t u) own (λ v. at_once (Ok (taken_up v))) _
      (own_goes w below s hs f h t now u begun held) (same _ _ refl) told v e) (there (taken_up v) _ refl)

-- ---- an import's text

-- what leads to a step leads to what follows it
pub then_lead : {A B : Type 0} {l n : List (List ℕ)} (a b : Outcome A) (next : A → Outcome B) → Follows n l a b
    → Follows n l (and_then a next) (and_then b next)
then_lead a b next h =
    record {
      answer = ap (λ r. r >>= λ x. (next x).answer) h.answer;
      since = h.since;
      asked = h.asked;
      rest = ap (λ x. x ++ asked_then b.answer next) h.rest
          ∙ append_assoc h.since a.asked (asked_then b.answer next)
          ∙ ap (λ r. h.since ++ (a.asked ++ asked_then r next)) (sym h.answer);
    }

-- a file that is found and read goes on with its text
pub import_goes : {l m : List (List ℕ)} (w : World) (n : ℕ) (hs : List Head) (f : List ℕ) (i : Import) (s : Stock)
    (g bytes : List ℕ) (t :
    ParsedModule) (now : List Head) (u : State)
    → is_loading i.path hs ≡ false → first_of i.path s.paths ≡ None → find w.tree w.folders i.path ≡ Some (g, bytes)
    → nat_lt (length s.modules + length hs) w.most ≡ true
    → n ≢ 0 → w.text g bytes ≡ Ok t → Begins hs i.path s t now u
    → m ≡ l ++ in_bytes (paths_tried w.tree w.folders i.path)
    → Follows m l (and_then (checks w (walk w (n - 1)) now g t u) (λ x. at_once (Ok (taken_up x))))
    (load_import w (walk w n) hs f i s)
import_goes w n hs f i s g bytes t now u free new found room deep read b asked =
    let label = label_of t.name i.path in
    let k : State → Outcome (ℕ × Stock) = λ x. at_once (Ok (taken_up x)) in
    trail _ _ _
    (then_lead (checks w (walk w (n - 1)) now g t u) (walk w n s hs g i.path bytes) k
    (trail _ _ _
    (same _ _ (ap₂ (λ x y. checks w (walk w (n - 1)) x g t y) b.held b.state
    ∙ sym (own_free w (walk w (n - 1)) s hs g (Some i.path) label t b.free)))
    (read_leads w n s hs g i.path bytes t i.path label deep read refl refl)))
    (room_leads w (walk w n) hs f i s g bytes free new found room asked)

-- the module of an import that began and went on
pub begins_on : (hs : List Head) (path : List ℕ) (s : Stock) (t : ParsedModule) (now : List Head) (u v : State)
    → Begins hs path s t now u
    → Becomes now u v → Loads hs path s v
begins_on hs path s t now u v b h =
    loads_by hs path s v t (Some path) (label_of t.name path) b.said refl refl
    (makes_by hs now (Some path) (label_of t.name path) s u v b.free b.held b.state h)

-- ---- what is left of the files

-- ---- the heads

-- those that are being loaded without the last of them
pub held_back : (xs ys : List Head) (h : Head) → ys ≡ xs ++ h ∷ [] → take (length ys - 1) ys ≡ xs
held_back xs ys h e =
    let n = length-append xs (h ∷ []) in
    let last : length (xs ++ h ∷ []) - 1 ≡ length xs = omega (arith, n) in
    ap (λ l. take (length l - 1) l) e ∙ ap (λ k. take k (xs ++ h ∷ [])) last ∙ take-append_seam xs (h ∷ [])

-- ---- a text that is read for an import

module _ {l m : List (List ℕ)} (T U : List (List ℕ × List ℕ)) (ds : List (List ℕ)) (d : ℕ) (hs : List Head) (s v :
    State) (r fr tr : ImportedText) (whole : Outcome (ℕ × Stock))
    (tree : U ≡ T) (own : v ≡ s) (file : fr ≡ r) (text : tr ≡ r)
    (goes : Follows m l (and_then (checks (world T ds) (walk (world T ds) d) hs r.file (said r.text) s)
    (λ u. at_once (Ok (taken_up u)))) whole) where
  inner_leads : Follows m m (checks (world U ds) (walk (world U ds) d) hs fr.file (said tr.text) v)
      (checks (world T ds) (walk (world T ds) d) hs r.file (said r.text) s)
  inner_leads =
      trail _ _ _ (same _ _ (ap₂ (λ t o. checks (world t ds) (walk (world t ds) d) hs fr.file (said tr.text) o) tree
      own))
      (same _ _ (ap₂ (λ x y. checks (world T ds) (walk (world T ds) d) hs x.file (said y.text) s) file text))

  abbrev inner : Outcome State
  inner = checks (world U ds) (walk (world U ds) d) hs fr.file (said tr.text) v

  -- what stops it stops the import
  pub inner_stops : {n : List (List ℕ)} (K : Type 0) → IsTold K whole.asked → (stop : Stop)
      → (IsTold K inner.asked → MayStop m n stop inner) → MayStop l n stop whole
  inner_stops K told =
      step_stops K inner (checks (world T ds) (walk (world T ds) d) hs r.file (said r.text) s)
      (λ u. at_once (Ok (taken_up u))) whole inner_leads goes told

  -- and where it has been read, its module is taken up
  pub inner_taken : {n : List (List ℕ)} (K : Type 0) → IsTold K whole.asked → (u : State)
      → (IsTold K inner.asked → Comes m n u inner) → Comes l n (taken_up u) whole
  inner_taken K told u h =
      comes_lead (taken_up u) _ _
      (step_on K inner (checks (world T ds) (walk (world T ds) d) hs r.file (said r.text) s)
      (λ u. at_once (Ok (taken_up u))) whole inner_leads goes told u h) (there (taken_up u) _ refl)
