-- The roots of a command, one after the other, and the packages that they make.
use Rattle.std.specs.Prelude.{ℕ, ◌+◌, ◌<◌, nat_lt, if◌then◌else◌, List, [], ◌∷◌, ◌++◌, length, Option, Some, None, Ok}
use Rattle.std.specs.Prelude.{codes, encode_utf8_all, is_some}
use Rattle.std.specs.List.{Contains}
use Rattle.std.specs.Fmt.{decimal}
use Rattle.rosie_io.specs.Opening.{file_of}
use Rattle.rpl_syntax.specs.Parsed.{ParsedModule}
use Rattle.rpl_syntax.specs.declared.name.QName.{QName}
use Rattle.rpl_scope.specs.Results.{fault}
use Rattle.rpl_scope.specs.Imports.{with_prefix}
use Rattle.rpl_scope.specs.Packages.{Module, first_of}
use Rattle.rpl_scope.specs.declared.fault.LoadKind.TheVariants.{TooManyPackages, Duplicate, RootMissing}
use Rattle.rpl_names.specs.Steps.{Outcome, at_once, and_then, each_in_turn}
use Rattle.rpl_names.specs.Loading.{World, Stock, State, checks, own_text, walk, finished, empty_module}
use Rattle.rpl_names.specs.declared.roots.Root.{Root}
use Rattle.rpl_names.specs.declared.roots.Root.TheVariants.{File, Given}
use Rattle.rpl_names.specs.declared.stock.Head.{Head}

-- the top module is the first one, and is being loaded all the time
abbrev pub top_head : Head
top_head = record { path = None; label = [] }

-- the number of the module that a root was read into, unless it is the top module, and the state after it
abbrev pub Rooted : Type 0
Rooted = Option ℕ × State

-- a root's own module, finished, has its package name as a prefix in the top module
abbrev pub with_root : List ℕ → Module → State → Rooted
with_root n top u =
    let i = length u.stock.modules in (
      Some i,
      record {
        stock = finished u.stock u.own;
        own = with_prefix top n (record { since = length top.rules; number = i });
      },
    )

abbrev pub named_root : World → List ℕ → ParsedModule → QName → State → Outcome Rooted
named_root w f t q s =
    if is_some (first_of q.name s.own.prefixes) then at_once (fault f q.at (Duplicate q.name))
    else and_then (own_text w (walk w w.most) s.stock (top_head ∷ []) f None q.name t)
    (λ u. at_once (Ok (with_root q.name s.own u)))

-- a root without a package statement goes on with the top module
abbrev pub root_text : World → List ℕ → ParsedModule → Option QName → State → Outcome Rooted
root_text w f t None s = and_then (checks w (walk w w.most) (top_head ∷ []) f t s) (λ u. at_once (Ok (None, u)))
root_text w f t (Some q) s =
    if nat_lt (length s.stock.modules + 1) w.most then named_root w f t q s
    else at_once (fault f q.at TooManyPackages)

abbrev pub read_root : World → List ℕ → List ℕ → State → Outcome Rooted
read_root w f bytes s = and_then (at_once (w.text f bytes)) (λ t. root_text w f t t.name s)

abbrev pub file_root : World → List ℕ → State → Option (List ℕ) → Outcome Rooted
file_root w p s None = at_once (fault p 0 RootMissing)
file_root w p s (Some bytes) = read_root w p bytes s

abbrev pub asked_root : World → List ℕ → Outcome (Option (List ℕ))
asked_root w p = record { asked = p ∷ []; answer = Ok (file_of (encode_utf8_all p) w.tree) }

-- the name of the text of the k-th root that is given itself
abbrev pub given_name : ℕ → List ℕ
given_name k = codes "(rpl " ++ (decimal k ++ codes ")")

-- how many roots are given themselves, up to this one
abbrev pub next : ℕ → Root → ℕ
next k (File p) = k
next k (Given t) = k + 1

abbrev pub counted : ℕ → List Root → List (ℕ × Root)
counted k [] = []
counted k (r ∷ rs) = (next k r, r) ∷ counted (next k r) rs

-- a root that is the file at this path
abbrev pub root_at : World → List ℕ → State → Outcome Rooted
root_at w p s = and_then (asked_root w p) (file_root w p s)

abbrev pub root_by : World → ℕ → Root → State → Outcome Rooted
root_by w k (File p) s = root_at w p s
root_by w k (Given t) s = read_root w (given_name k) (encode_utf8_all t) s

-- the roots so far, each with its module as `Rooted` says, and the state after them
pub record Roots : Type 0 where
  pub roots : List (Option ℕ)
  pub state : State

abbrev pub root_entry : World → ℕ × Root → Roots → Outcome Roots
root_entry w r s =
    and_then (root_by w r.0 r.1 s.state)
    (λ t. at_once (Ok (record { roots = s.roots ++ t.0 ∷ []; state = t.1 })))

abbrev pub load_roots : World → List Root → Roots → Outcome Roots
load_roots w rs s = each_in_turn (root_entry w) (counted 0 rs) s

-- the loaded modules, the number of the top module, which finishes with the last root, and the modules of the roots
pub record Packages : Type 0 where
  pub stock : Stock
  pub top : ℕ
  pub roots : List (Option ℕ)

-- the module of each root is one of the first n, unless it is the top module
abbrev pub AreWithin : List (Option ℕ) → ℕ → Type 0
AreWithin roots n = (i : ℕ) → Contains roots (Some i) → i < n

abbrev pub begun : Roots
begun = record {
  roots = [];
  state = record { stock = record { modules = []; paths = []; labels = [] }; own = empty_module None [] };
}

abbrev pub finish_set : Roots → Packages
finish_set s =
    record { stock = finished s.state.stock s.state.own; top = length s.state.stock.modules; roots = s.roots }

abbrev pub load : World → List Root → Outcome Packages
load w rs = and_then (load_roots w rs begun) (λ s. at_once (Ok (finish_set s)))
