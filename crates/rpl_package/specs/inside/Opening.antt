-- Loading what an importer imports: the text that is read, and its module before anything of that text.
use Rattle.std.specs.Prelude.{◌≡◌, ℕ, ◌-◌, false, if◌then◌else◌, List, Option, Some, Ok}
use Rattle.rpl_syntax.specs.Modules.{said}
use Rattle.rpl_syntax.specs.Parsed.{ParsedModule}
use Rattle.rpl_syntax.specs.declared.module.Import.{Import}
use Rattle.rpl_syntax.specs.declared.name.QName.{QName}
use Rattle.rpl_scope.specs.Results.{Or, fault}
use Rattle.rpl_scope.specs.declared.fault.LoadKind.TheVariants.{Duplicate}
use Rattle.rpl_scope.specs.declared.fault.Stop.{Stop}
use Rattle.rpl_package.specs.Asking.{IsTold, Outcome, at_once, and_then}
use Rattle.rpl_names.specs.Built.{IsSaid, Makes, headed, opened}
use Rattle.rpl_names.specs.Loading.{World, Walk, Stock, State, world, walk, checks, own_text, is_taken, label_at}
use Rattle.rpl_names.specs.Loading.{label_of, taken_up, paths_tried}
use Rattle.rpl_package.specs.declared.opening.Opened.{Opened}
use Rattle.rpl_package.specs.declared.opening.Walker.{Walker}
use Rattle.rpl_names.specs.Stocks.{state_seen}
use Rattle.rpl_names.specs.declared.stock.Head.{Head}
use Rattle.rpl_names.specs.declared.stock.Stock as D
use Rattle.rpl_package.specs.inside.Following.{Follows}
use Rattle.rpl_package.specs.inside.Stopping.{MayStop}

-- a step for a walker, over these files
abbrev pub under : {A : Type 0} → (World → Walk → List Head → List ℕ → A) → List (List ℕ × List ℕ) → Walker
    → List Head → A
under step tree i hs =
    let w = world tree i.importer.folders.now in
    step w (walk w i.depth) hs i.importer.file.now

abbrev pub imported_head : Option QName → List ℕ → Head
imported_head name path = record { path = Some path; label = label_of name path }

-- the module of a text begins where its package name is free
abbrev pub own_begun : Stock → List Head → List ℕ → Head → ParsedModule → Or State
own_begun s hs f h t =
    if is_taken h.label hs s then fault f (label_at t.name) (Duplicate h.label) else Ok (opened s h.path h.label)

-- t was read for the import of this path: its module, which is being loaded, has nothing of it yet
pub record Begins (hs : List Head) (path : List ℕ) (s : Stock) (t : ParsedModule) (now : List Head) (u : State)
    : Type 0 where
  pub said : IsSaid t
  pub free : is_taken (label_of t.name path) hs s ≡ false
  pub held : now ≡ headed hs (Some path) (label_of t.name path)
  pub state : u ≡ opened s (Some path) (label_of t.name path)

-- it stops the walk of a file of these bytes, before that asks for any path
abbrev pub StopsWalk : Stop → Walker → Stock → List Head → (file path bytes : List ℕ) → Type 0
StopsWalk stop i s hs f path bytes =
    (tree : List (List ℕ × List ℕ)) (asked : List (List ℕ))
    → MayStop asked asked stop (walk (world tree i.importer.folders.now) i.depth s hs f path bytes)

-- the files that may be read to find this import are told
abbrev pub TellsFile : (tells : Type 0) → List (List ℕ × List ℕ) → Walker → Import → Type 0
TellsFile tells tree k i = IsTold tells (paths_tried tree k.importer.folders.now i.path)

-- what comes of the text that is open is what is to come
abbrev pub GoesOn : (now before : List (List ℕ)) → List (List ℕ × List ℕ) → Walker → D.Stock → Opened
    → Outcome (ℕ × Stock) → Type 0
GoesOn now before tree i stock o whole =
    let w = world tree i.importer.folders.now in
    let s = state_seen stock o.own.value in
    let text = checks w (walk w (i.depth - 1)) stock.held.items o.read.value.file (said o.read.value.text) s in
    Follows now before (and_then text (λ u. at_once (Ok (taken_up u)))) whole

-- ---- a text of its own

-- the module of a text, finished: its number
abbrev pub own_loaded : World → Walk → List Head → List ℕ → Head → ParsedModule → Stock → Outcome (ℕ × Stock)
own_loaded w below hs f h t s =
    and_then (own_text w below s hs f h.path h.label t) (λ u. at_once (Ok (taken_up u)))

-- a module of this path and package name was made, and is finished
abbrev pub MakesOne : List Head → Head → Stock → ℕ × Stock → Type 0
MakesOne hs h s r = (u : State) × Makes hs h.path h.label s u × (r ≡ taken_up u)
