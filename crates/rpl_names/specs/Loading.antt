-- The walk over a text and all that it imports.
use Rattle.std.specs.Prelude.{ℕ, zero, suc, ◌+◌, Bool, false, ◌||◌, nat_lt, if◌then◌else◌, List, [], ◌∷◌, ◌++◌}
use Rattle.std.specs.Prelude.{length, Option, Some, None, option_map, Ok, codes, encode_utf8_all, is_some}
use Rattle.std.specs.List.{list_any}
use Rattle.std.specs.Option.{option_map_or, option_or}
use Rattle.std.specs.Str.{bytes_eq}
use Rattle.rosie_io.specs.Opening.{file_of}
use Rattle.rpl_syntax.specs.Parsed.{ParsedModule}
use Rattle.rpl_syntax.specs.declared.module.Import.{Import}
use Rattle.rpl_syntax.specs.declared.name.QName.{QName}
use Rattle.rpl_scope.specs.Results.{Or, fault, ◌>>=◌}
use Rattle.rpl_names.specs.Steps.{Outcome, at_once, and_then, each_in_turn}
use Rattle.rpl_scope.specs.Imports.{last_part, take_in}
use Rattle.rpl_scope.specs.Packages.{Module, first_of, added}
use Rattle.rpl_scope.specs.Statements.{statements}
use Rattle.rpl_names.specs.Texts.{module_text}
use Rattle.rpl_scope.specs.declared.fault.LoadKind.TheVariants.{ImportMissing, ImportCycle, TooManyPackages, Duplicate}
use Rattle.rpl_names.specs.declared.stock.Head.{Head}

-- ---- what is outside

-- the files with their bytes, the folders of the library path, how many modules there may be, and what a file's bytes
-- are read as
pub record World : Type 0 where
  pub tree : List (List ℕ × List ℕ)
  pub folders : List (List ℕ)
  pub most : ℕ
  pub text : (file bytes : List ℕ) → Or ParsedModule

abbrev pub world : List (List ℕ × List ℕ) → List (List ℕ) → World
world tree folders = record { tree = tree; folders = folders; most = 1024; text = module_text }

abbrev pub file_in : List ℕ → List ℕ → List ℕ
file_in folder path = folder ++ 47 ∷ (path ++ codes ".rpl")

abbrev pub found_or : List ℕ → Option (List ℕ) → Option (List ℕ × List ℕ) → Option (List ℕ × List ℕ)
found_or f o rest = option_or (option_map (λ bytes. (f, bytes)) o) rest

-- the file of an import in the first folder that has it, with its bytes
abbrev pub find : List (List ℕ × List ℕ) → List (List ℕ) → List ℕ → Option (List ℕ × List ℕ)
find tree [] path = None
find tree (d ∷ ds) path =
    found_or (file_in d path) (file_of (encode_utf8_all (file_in d path)) tree) (find tree ds path)

abbrev pub paths_tried_then : Option (List ℕ) → List (List ℕ) → List (List ℕ)
paths_tried_then None rest = rest
paths_tried_then (Some bytes) rest = []

-- the paths that are asked for to find it
abbrev pub paths_tried : List (List ℕ × List ℕ) → List (List ℕ) → List ℕ → List (List ℕ)
paths_tried tree [] path = []
paths_tried tree (d ∷ ds) path =
    file_in d path ∷ paths_tried_then (file_of (encode_utf8_all (file_in d path)) tree) (paths_tried tree ds path)

abbrev pub search : World → List ℕ → Outcome (Option (List ℕ × List ℕ))
search w path = record { asked = paths_tried w.tree w.folders path; answer = Ok (find w.tree w.folders path) }

-- ---- modules

-- the modules that are loaded, in the order in which their loading finished, with their paths and package names
pub record Stock : Type 0 where
  pub modules : List Module
  pub paths : List (List ℕ × ℕ)
  pub labels : List (List ℕ × ℕ)

-- and the one at work
pub record State : Type 0 where
  pub stock : Stock
  pub own : Module

abbrev pub with_path : Option (List ℕ) → ℕ → List (List ℕ × ℕ) → List (List ℕ × ℕ)
with_path None i ps = ps
with_path (Some p) i ps = added p i ps

-- one module more
abbrev pub finished : Stock → Module → Stock
finished s m = record {
  modules = s.modules ++ m ∷ [];
  paths = with_path m.path (length s.modules) s.paths;
  labels = added m.label (length s.modules) s.labels;
}

abbrev pub empty_module : Option (List ℕ) → List ℕ → Module
empty_module p n = record { path = p; label = n; texts = []; rules = []; prefixes = []; names = [] }

abbrev pub with_text : Module → List ℕ → Module
with_text m f = record m { texts = m.texts ++ f ∷ [] }

-- ---- modules that are being loaded

abbrev pub has_path : List ℕ → Option (List ℕ) → Bool
has_path p path = option_map_or (λ (q : List ℕ). bytes_eq q p) path false

abbrev pub is_loading : List ℕ → List Head → Bool
is_loading p = list_any (λ h. has_path p h.path)

abbrev pub is_held : List ℕ → List Head → Bool
is_held n = list_any (λ h. bytes_eq h.label n)

-- a module has that package name already
abbrev pub is_taken : List ℕ → List Head → Stock → Bool
is_taken n hs s = is_held n hs || is_some (first_of n s.labels)

-- ---- import entries

-- the walk of an import's file: the modules loaded and being loaded, its file, its path and its bytes
abbrev pub Walk : Type 0
Walk = Stock → List Head → (file path bytes : List ℕ) → Outcome State

-- the module of a file that is walked, with its number
abbrev pub taken_up : State → ℕ × Stock
taken_up t = (length t.stock.modules, finished t.stock t.own)

abbrev pub fresh : World → Walk → List Head → List ℕ → Import → Stock → Option (List ℕ × List ℕ) → Outcome (ℕ × Stock)
fresh w below hs f i s None = at_once (fault f i.at (ImportMissing i.path))
fresh w below hs f i s (Some g) =
    if nat_lt (length s.modules + length hs) w.most
    then and_then (below s hs g.0 i.path g.1) (λ t. at_once (Ok (taken_up t)))
    else at_once (fault f i.at TooManyPackages)

abbrev pub known_or : Option ℕ → World → Walk → List Head → List ℕ → Import → Stock → Outcome (ℕ × Stock)
known_or (Some j) w below hs f i s = at_once (Ok (j, s))
known_or None w below hs f i s = and_then (search w i.path) (fresh w below hs f i s)

-- the number of the module that an entry names, which is loaded now
abbrev pub load_import : World → Walk → List Head → List ℕ → Import → Stock → Outcome (ℕ × Stock)
load_import w below hs f i s =
    if is_loading i.path hs then at_once (fault f i.at (ImportCycle i.path))
    else known_or (first_of i.path s.paths) w below hs f i s

-- what the entry brings of it
abbrev pub brought : List ℕ → Import → Module → ℕ × Stock → Outcome State
brought f i m r = at_once (take_in f i r.0 r.1.modules m >>= λ n. Ok (record { stock = r.1; own = n }))

abbrev pub import_entry : World → Walk → List Head → List ℕ → Import → State → Outcome State
import_entry w below hs f i s = and_then (load_import w below hs f i s.stock) (brought f i s.own)

abbrev pub import_entries : World → Walk → List Head → List ℕ → List Import → State → Outcome State
import_entries w below hs f is s = each_in_turn (import_entry w below hs f) is s

-- ---- one text

abbrev pub said_of : List ℕ → ℕ → ParsedModule → State → Outcome State
said_of f k t s =
    at_once (statements f k s.stock.modules t.items s.own >>= λ m. Ok (record { stock = s.stock; own = m }))

-- its imports, and then its statements
abbrev pub checks : World → Walk → List Head → List ℕ → ParsedModule → State → Outcome State
checks w below hs f t s =
    and_then (import_entries w below hs f t.imports (record { stock = s.stock; own = with_text s.own f }))
    (said_of f (length s.own.texts) t)

abbrev pub label_of : Option QName → List ℕ → List ℕ
label_of name path = option_map_or (λ (q : QName). q.name) name (last_part [] path)

abbrev pub label_at : Option QName → ℕ
label_at name = option_map_or (λ (q : QName). q.at) name 0

-- a text that is a module of its own: its package name first
abbrev pub own_text : World → Walk → Stock → List Head → List ℕ → Option (List ℕ) → List ℕ → ParsedModule
    → Outcome State
own_text w below s hs f path label t =
    if is_taken label hs s then at_once (fault f (label_at t.name) (Duplicate label))
    else checks w below (hs ++ record { path = path; label = label } ∷ []) f t
    (record { stock = s; own = empty_module path label })

-- an imported file; no more than n files are read one inside the other
abbrev pub walk : World → ℕ → Walk
walk w zero s hs f path bytes = at_once (fault f 0 TooManyPackages)
walk w (suc n) s hs f path bytes =
    and_then (at_once (w.text f bytes))
    (λ t. own_text w (walk w n) s hs f (Some path) (label_of t.name path) t)
