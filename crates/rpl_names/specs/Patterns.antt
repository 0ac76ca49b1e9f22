-- The pattern, after all roots: it imports the prefixes that the top module hasn't, and then come its names and macros.
use Rattle.std.specs.Prelude.{◌≡◌, ℕ, List, [], ◌∷◌, length, Option, Some, None, option_and_then, Ok}
use Rattle.std.specs.Prelude.{slice_get, slice_set}
use Rattle.rpl_syntax.specs.Expression.{Expr}
use Rattle.rpl_syntax.specs.declared.module.Import.{Import}
use Rattle.rpl_syntax.specs.declared.module.ImportAs.TheVariants.{Last}
use Rattle.rpl_syntax.specs.declared.name.QName.{QName}
use Rattle.rpl_scope.specs.Bodies.{names, uses, names_fault, macros_fault}
use Rattle.rpl_scope.specs.Results.{Or, ◌>>=◌, ◌orelse◌, unless}
use Rattle.rpl_scope.specs.Imports.{add_prefix}
use Rattle.rpl_scope.specs.Packages.{Module, first_of}
use Rattle.rpl_scope.specs.declared.fault.LoadFault.{LoadFault}
use Rattle.rpl_scope.specs.declared.module.Prefix.{Prefix}
use Rattle.rpl_names.specs.Steps.{Outcome, at_once, and_then, each_in_turn}
use Rattle.rpl_names.specs.Loading.{World, Stock, load_import, walk}
use Rattle.rpl_names.specs.Goals.{pattern_file}
use Rattle.rpl_names.specs.Roots.{Packages}

abbrev pub needed_unless : Option Prefix → List ℕ → ℕ → Option Import
needed_unless None p at = Some (record { path = p; at = at; name = Last })
needed_unless (Some x) p at = None

abbrev pub needed_by : Module → ℕ → Option (List ℕ) → Option Import
needed_by m at None = None
needed_by m at (Some []) = None
needed_by m at (Some (c ∷ p)) = needed_unless (first_of (c ∷ p) m.prefixes) (c ∷ p) at

-- the import that a name asks for: none where it has no prefix, or the module has the prefix
abbrev pub needed_import : Module → QName → Option Import
needed_import m q = needed_by m q.at q.prefix

-- the module i in another form
abbrev pub with_module : Stock → ℕ → Module → Stock
with_module s i m = record { modules = slice_set s.modules i m; paths = s.paths; labels = s.labels }

abbrev pub put_by : List ℕ → Import → (j i : ℕ) → Stock → Option Module → Or Stock
put_by f e j i s None = Ok s
put_by f e j i s (Some m) = add_prefix f e.at e.path j m >>= λ n. Ok (with_module s i n)

-- the prefix of an import, for the module that it reaches, in the top module, which has the number i
abbrev pub put : List ℕ → Import → ℕ → ℕ × Stock → Outcome Stock
put f e i r = at_once (put_by f e r.0 i r.1 (slice_get r.1.modules i))

-- no module is being loaded then: the top module is in the list
abbrev pub bring : World → List ℕ → ℕ → Stock → Option Import → Outcome Stock
bring w f i s None = at_once (Ok s)
bring w f i s (Some e) = and_then (load_import w (walk w w.most) [] f e s) (put f e i)

abbrev pub needed_at : QName → Option Module → Option Import
needed_at q = option_and_then (λ m. needed_import m q)

abbrev pub pattern_name : World → List ℕ → ℕ → QName → Stock → Outcome Stock
pattern_name w f i q s = bring w f i s (needed_at q (slice_get s.modules i))

abbrev pub pattern_fault : List ℕ → Expr → List Module → Option Module → Option LoadFault
pattern_fault f e ms None = None
pattern_fault f e ms (Some m) = names_fault f ms m (length m.rules) (names e) orelse macros_fault f (uses e)

-- nothing is wrong with the pattern e: each of its names stands for something that is to be seen at the end of the top
-- module, and each of its macros is used as it may be
abbrev pub HasNoFault : Expr → Packages → Type 0
HasNoFault e p = pattern_fault pattern_file e p.stock.modules (slice_get p.stock.modules p.top) ≡ None

abbrev pub checked : List ℕ → Expr → ℕ → Stock → Outcome Stock
checked f e i s = at_once (unless (pattern_fault f e s.modules (slice_get s.modules i)) s)

-- a pattern that is read as e, in the top module i
abbrev pub enter_pattern : World → List ℕ → ℕ → Stock → Expr → Outcome Stock
enter_pattern w f i s e = and_then (each_in_turn (pattern_name w f i) (names e) s) (checked f e i)

-- a pattern whose text is read as r: its expression, and the modules with it
abbrev pub goal_entered : World → ℕ → Stock → Or Expr → Outcome (Expr × Stock)
goal_entered w i s r =
    and_then (at_once r) (λ e. and_then (enter_pattern w pattern_file i s e) (λ t. at_once (Ok (e, t))))

abbrev pub load_pattern : World → Packages → Or Expr → Outcome (Expr × Packages)
load_pattern w p r =
    and_then (goal_entered w p.top p.stock r)
    (λ t. at_once (Ok (t.0, record { stock = t.1; top = p.top; roots = p.roots })))
