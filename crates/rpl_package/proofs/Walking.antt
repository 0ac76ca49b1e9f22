-- Steps of the walk.
use Rattle.std.proofs.Common.{◌≡◌, ◌≢◌, ℕ, zero, suc, ◌+◌, ◌-◌, List, [], ◌∷◌, ◌++◌, length, Option, Some, None}
use Rattle.std.proofs.Common.{refl, sym, ap, ap₂, subst, ◌∙◌, true, false, arith}
use Rattle.std.specs.Prelude.{nat_lt, if◌then◌else◌, Ok}
use Rattle.rpl_syntax.specs.Modules.{ParsedModule}
use Rattle.rpl_syntax.specs.declared.module.Import.{Import}
use Rattle.rpl_scope.specs.Faults.{fault, fault_at, IsStop, StopIs}
use Rattle.rpl_scope.specs.Packages.{Module, first_of}
use Rattle.rpl_scope.specs.declared.fault.Stop.{Stop}
use Rattle.rpl_scope.proofs.Stops.{told}
use Rattle.rpl_scope.specs.declared.fault.LoadKind.TheVariants.{ImportCycle, ImportMissing, TooManyPackages, Duplicate}
use Rattle.rpl_scope.specs.declared.fault.Stop.TheVariants.{Memory}
use Rattle.rpl_package.specs.Asking.{IsTold, Outcome, at_once, and_then, in_bytes}
use Rattle.rpl_package.specs.inside.Stopping.{Comes, MayStop}
use Rattle.rpl_names.specs.Loading.{World, Walk, Stock, find, search, paths_tried, fresh, known_or, load_import}
use Rattle.rpl_names.specs.Loading.{State, is_loading, is_taken, taken_up, own_text, checks, empty_module}
use Rattle.rpl_names.specs.Loading.{import_entries, said_of, with_text}
use Rattle.rpl_names.specs.Loading.{label_of, label_at, walk}
use Rattle.rpl_names.specs.declared.stock.Head.{Head}
use Rattle.rpl_package.proofs.Outcomes.{Follows, same, trail, then_follows, there, may, may_lead, may_then}
use Rattle.rpl_package.proofs.Outcomes.{out_last, step_on, step_stops, told_then}

pub own_free : (w : World) (below : Walk) (s : Stock) (hs : List Head) (f : List ℕ) (path : Option (List ℕ)) (label :
    List ℕ) (t : ParsedModule) → is_taken label hs s ≡ false
    → own_text w below s hs f path label t ≡ checks w below (hs ++ record { path = path; label = label } ∷ []) f t
    (record { stock = s; own = empty_module path label })
own_free w below s hs f path label t h =
    ap (λ b. if b then at_once (fault f (label_at t.name) (Duplicate label))
    else checks w below (hs ++ record { path = path; label = label } ∷ []) f t (record {
      stock = s;
      own = empty_module path label;
    })) h

pub walk_is : (w : World) (n : ℕ) (s : Stock) (hs : List Head) (f path bytes : List ℕ) → n ≢ 0
    → walk w n s hs f path bytes
    ≡ and_then (at_once (w.text f bytes)) (λ t. own_text w (walk w (n - 1)) s hs f (Some path) (label_of t.name path)
    t)
walk_is w zero s hs f path bytes h = absurd (h refl)
walk_is w (suc n) s hs f path bytes h = let e : suc n - 1 ≡ n = omega arith in rw e refl

-- an imported file that is read as t goes on as a text of its own
pub read_leads : {m : List (List ℕ)} (w : World) (n : ℕ) (s : Stock) (hs : List Head) (f path bytes : List ℕ) (t :
    ParsedModule) (p l : List ℕ)
    → n ≢ 0 → w.text f bytes ≡ Ok t → p ≡ path → l ≡ label_of t.name path
    → Follows m m (own_text w (walk w (n - 1)) s hs f (Some p) l t) (walk w n s hs f path bytes)
read_leads w n s hs f path bytes t p l deep read copied label =
    trail _ _ _ (same _ _ (ap₂ (λ q k. own_text w (walk w (n - 1)) s hs f (Some q) k t) copied label))
    (trail _ _ _ (then_follows (at_once (w.text f bytes)) t
    (λ x. own_text w (walk w (n - 1)) s hs f (Some path) (label_of x.name path) x) (there t (w.text f bytes) read))
    (same _ _ (sym (walk_is w n s hs f path bytes deep))))

-- and one that isn't read stops there
pub unread_stops : {m : List (List ℕ)} (w : World) (n : ℕ) (s : Stock) (hs : List Head) (f path bytes : List ℕ)
    → n ≢ 0 → (stop : Stop)
    → StopIs stop (w.text f bytes)
    → MayStop m m stop (walk w n s hs f path bytes)
unread_stops w n s hs f path bytes deep stop h =
    may_lead stop _ _ (same _ _ (sym (walk_is w n s hs f path bytes deep)))
    (may_then stop (at_once (w.text f bytes))
    (λ x. own_text w (walk w (n - 1)) s hs f (Some path) (label_of x.name path) x) (may stop (w.text f bytes) h))

-- a path that is neither being loaded nor loaded is searched, and so its files are told where the import is
pub reach_new : (w : World) (below : Walk) (hs : List Head) (f : List ℕ) (i : Import) (s : Stock)
    → is_loading i.path hs ≡ false → first_of i.path s.paths ≡ None
    → and_then (search w i.path) (fresh w below hs f i s) ≡ load_import w below hs f i s
reach_new w below hs f i s free new =
    sym (ap (λ b. if b then at_once (fault f i.at (ImportCycle i.path))
    else known_or (first_of i.path s.paths) w below hs f i s) free
    ∙ ap (λ o. known_or o w below hs f i s) new)

pub told_file : (T : Type 0) (w : World) (below : Walk) (hs : List Head) (f : List ℕ) (i : Import) (s : Stock)
    → is_loading i.path hs ≡ false → first_of i.path s.paths ≡ None
    → IsTold T (load_import w below hs f i s).asked → IsTold T (paths_tried w.tree w.folders i.path)
told_file T w below hs f i s free new h =
    told_then T (search w i.path) (fresh w below hs f i s)
    (subst (λ o. IsTold T o.asked) (sym (reach_new w below hs f i s free new)) h)

pub found_leads : {m n : List (List ℕ)} (w : World) (below : Walk) (hs : List Head) (f : List ℕ) (i : Import) (s :
    Stock) (o : Option (List ℕ × List ℕ))
    → is_loading i.path hs ≡ false → first_of i.path s.paths ≡ None → find w.tree w.folders i.path ≡ o
    → n ≡ m ++ in_bytes (paths_tried w.tree w.folders i.path)
    → Follows n m (fresh w below hs f i s o) (load_import w below hs f i s)
found_leads w below hs f i s o free new found asked =
    trail _ _ _
    (then_follows (search w i.path) o (fresh w below hs f i s) (record { answer = ap Ok found; asked = asked }))
    (same _ _ (reach_new w below hs f i s free new))

pub room_leads : {m n : List (List ℕ)} (w : World) (below : Walk) (hs : List Head) (f : List ℕ) (i : Import) (s :
    Stock) (g bytes : List ℕ)
    → is_loading i.path hs ≡ false → first_of i.path s.paths ≡ None → find w.tree w.folders i.path ≡ Some (g, bytes)
    → nat_lt (length s.modules + length hs) w.most ≡ true → n ≡ m ++ in_bytes (paths_tried w.tree w.folders i.path)
    → Follows n m (and_then (below s hs g i.path bytes) (λ t. at_once (Ok (taken_up t)))) (load_import w below hs f i s)
room_leads w below hs f i s g bytes free new found room asked =
    trail (and_then (below s hs g i.path bytes) (λ t. at_once (Ok (taken_up t))))
    (fresh w below hs f i s (Some (g, bytes))) (load_import w below hs f i s)
    (same _ _ (sym (ap (λ b. if b then and_then (below s hs g i.path bytes) (λ t. at_once (Ok (taken_up t)))
    else at_once (fault f i.at TooManyPackages)) room)))
    (found_leads w below hs f i s (Some (g, bytes)) free new found asked)

pub full_leads : {m n : List (List ℕ)} (w : World) (below : Walk) (hs : List Head) (f : List ℕ) (i : Import) (s :
    Stock) (g bytes : List ℕ)
    → is_loading i.path hs ≡ false → first_of i.path s.paths ≡ None → find w.tree w.folders i.path ≡ Some (g, bytes)
    → nat_lt (length s.modules + length hs) w.most ≡ false → n ≡ m ++ in_bytes (paths_tried w.tree w.folders i.path)
    → Follows n m (at_once (fault f i.at TooManyPackages)) (load_import w below hs f i s)
full_leads w below hs f i s g bytes free new found room asked =
    trail (at_once (fault f i.at TooManyPackages)) (fresh w below hs f i s (Some (g, bytes)))
    (load_import w below hs f i s)
    (same _ _ (sym (ap (λ b. if b then and_then (below s hs g i.path bytes) (λ t. at_once (Ok (taken_up t)))
    else at_once (fault f i.at TooManyPackages)) room)))
    (found_leads w below hs f i s (Some (g, bytes)) free new found asked)

-- ---- how a walk stops

-- the module is being loaded
pub reach_cycle : {m : List (List ℕ)} (w : World) (below : Walk) (hs : List Head) (f : List ℕ) (i : Import) (s : Stock)
    → is_loading i.path hs ≡ true → (stop : Stop) → IsStop stop (fault_at f i.at (ImportCycle i.path))
    → MayStop m m stop (load_import w below hs f i s)
reach_cycle w below hs f i s loading stop is =
    may_lead stop _ _ (same _ _
    (sym (ap (λ b. if b then at_once (fault f i.at (ImportCycle i.path))
    else known_or (first_of i.path s.paths) w below hs f i s) loading))) (may stop _ (told _ stop _ is refl))

module _ {m n : List (List ℕ)} (w : World) (below : Walk) (hs : List Head) (f : List ℕ) (i : Import) (s : Stock)
    (free : is_loading i.path hs ≡ false) (new : first_of i.path s.paths ≡ None) (stop : Stop) where
  -- what stops the search stops the import
  pub reach_unread : MayStop m n stop (search w i.path) → MayStop m n stop (load_import w below hs f i s)
  reach_unread h =
      may_lead stop _ _ (same _ _ (reach_new w below hs f i s free new))
      (may_then stop (search w i.path) (fresh w below hs f i s) h)

  module _ (asked : n ≡ m ++ in_bytes (paths_tried w.tree w.folders i.path)) where
    -- memory runs out after it
    pub reach_out : MayStop m n Memory (load_import w below hs f i s)
    reach_out =
        may_lead Memory _ _ (same _ _ (reach_new w below hs f i s free new))
        (may_then Memory (search w i.path) (fresh w below hs f i s)
        (out_last (find w.tree w.folders i.path) (search w i.path) (record { answer = refl; asked = asked })))

    pub reach_missing : find w.tree w.folders i.path ≡ None → IsStop stop (fault_at f i.at (ImportMissing i.path))
        → MayStop m n stop (load_import w below hs f i s)
    reach_missing found is =
        may_lead stop _ _ (found_leads w below hs f i s None free new found asked) (may stop _ (told _ stop _ is refl))

    module _ (g bytes : List ℕ) (found : find w.tree w.folders i.path ≡ Some (g, bytes)) where
      pub reach_full : nat_lt (length s.modules + length hs) w.most ≡ false
          → IsStop stop (fault_at f i.at TooManyPackages) → MayStop m n stop (load_import w below hs f i s)
      reach_full room is =
          may_lead stop _ _ (full_leads w below hs f i s g bytes free new found room asked)
          (may stop _ (told _ stop _ is refl))

      pub reach_stopped : nat_lt (length s.modules + length hs) w.most ≡ true
          → MayStop n n stop (below s hs g i.path bytes) → MayStop m n stop (load_import w below hs f i s)
      reach_stopped room h =
          may_lead stop _ _ (room_leads w below hs f i s g bytes free new found room asked)
          (may_then stop (below s hs g i.path bytes) (λ t. at_once (Ok (taken_up t))) h)

-- ---- the import entries of a text

module _ (K : Type 0) (w : World) (below : Walk) (hs : List Head) (f : List ℕ) (t : ParsedModule) (s : State) (is :
    List Import) (own : Module) (imports : is ≡ t.imports) (text : own ≡ with_text s.own f)
    (told : IsTold K (checks w below hs f t s).asked) where
  abbrev entries : List Import → Module → Outcome State
  entries js o = import_entries w below hs f js (record { stock = s.stock; own = o })

  -- what stops them stops the text
  pub entries_stop : {m n : List (List ℕ)} (stop : Stop)
      → (IsTold K (entries is own).asked → MayStop m n stop (entries is own))
      → MayStop m n stop (checks w below hs f t s)
  entries_stop = step_stops K (entries is own) (entries t.imports (with_text s.own f))
      (said_of f (length s.own.texts) t) _ (same _ _ (ap₂ entries imports text)) (same _ _ refl) told

  -- after them its statements are left
  pub entries_on : {m n : List (List ℕ)} (u : State)
      → (IsTold K (entries is own).asked → Comes m n u (entries is own))
      → Follows n m (said_of f (length s.own.texts) t u) (checks w below hs f t s)
  entries_on = step_on K (entries is own) (entries t.imports (with_text s.own f)) (said_of f (length s.own.texts) t) _
      (same _ _ (ap₂ entries imports text)) (same _ _ refl) told
