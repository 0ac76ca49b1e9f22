-- What the names of packages stand for, by number, and what is known of each rule.
use Rattle.std.specs.Prelude.{ℕ, zero, suc, ◌+◌, Bool, true, false, List, length, Option, Some, None, slice_get}
use Rattle.std.specs.Prelude.{Result, Ok, Err, codes, not}
use Rattle.rpl_text.specs.Options.{◌>>=◌}
use Rattle.rpl_syntax.specs.Expression.{Expr}
use Rattle.rpl_syntax.specs.declared.name.QName.{QName}
use Rattle.rpl_scope.specs.Packages.{Rule, Module, bound, first_of, first_rule}
use Rattle.rpl_scope.specs.declared.module.Entry.{Entry}
use Rattle.rpl_scope.specs.declared.module.Referent.{Referent}
use Rattle.rpl_scope.specs.declared.module.Referent.TheVariants.{Own, Of, BuiltIn}
use Rattle.rpl_scope.specs.declared.scope.Found.{Found}
use Rattle.rpl_scope.specs.declared.scope.Found.TheVariants.{To, Unknown, Hidden}
use Rattle.rpl_names.specs.Roots.{Packages}
use Rattle.rpl_names.specs.Tables.{boundary_name, rows}
use Rattle.rpl_names.specs.declared.table.Row.{Row}
use Rattle.rpl_names.specs.declared.targets.NameFault.{NameFault}
use Rattle.rpl_names.specs.declared.targets.NameFault.TheVariants as F
use Rattle.rpl_names.specs.declared.targets.Target.{Target}

-- ---- rules

-- the k-th rule of the module i
abbrev pub rule_in : List Module → (i k : ℕ) → Option Rule
rule_in ms i k = slice_get ms i >>= (λ m. slice_get m.rules k)

-- the row of a rule that a statement made
abbrev pub row_at : Packages → ℕ → Option Row
row_at p zero = None
row_at p (suc zero) = None
row_at p (suc (suc n)) = slice_get (rows p.stock.modules) n

abbrev pub rule_at : Packages → ℕ → Option Rule
rule_at p n = row_at p n >>= (λ r. rule_in p.stock.modules r.from r.place)

-- ---- names

-- where a referent means no rule, the name is unknown; the laws say that no name of loaded packages does
abbrev pub target_by : ℕ → Option Rule → Result Target NameFault
target_by n None = Err F.Unknown
target_by n (Some r) = Ok (record { rule = n; captures = not r.alias })

-- the target that is the k-th rule of the module i
abbrev pub target_in : List Module → (i k : ℕ) → Result Target NameFault
target_in ms i k = target_by (first_rule ms i + k) (rule_in ms i k)

abbrev pub target_of : List Module → ℕ → Referent → Result Target NameFault
target_of ms i (Own k) = target_in ms i k
target_of ms i (Of j k) = target_in ms j k
target_of ms i BuiltIn = Ok (record { rule = 1; captures = false })

abbrev pub target : List Module → ℕ → Found → Result Target NameFault
target ms i (To r) = target_of ms i r
target ms i Unknown = Err F.Unknown
target ms i Hidden = Err F.Hidden

-- what a name stands for in the module i, in a statement with this start
abbrev pub resolved_in : List Module → (i start : ℕ) → QName → Option Module → Result Target NameFault
resolved_in ms i start q None = Err F.Unknown
resolved_in ms i start q (Some m) = target ms i (bound ms m start q)

-- where a statement stands: its module, and its start
pub record Site : Type 0 where
  pub owner : ℕ
  pub start : ℕ

abbrev pub size_of : Option Module → ℕ
size_of None = 0
size_of (Some m) = length m.rules

-- the pattern stands after all statements of the top module
abbrev pub pattern_site : Packages → Site
pattern_site p = record { owner = p.top; start = size_of (slice_get p.stock.modules p.top) }

abbrev pub rule_site : Packages → Option Row → Option Site
rule_site p row =
    (row >>= (λ w. rule_in p.stock.modules w.from w.place >>= (λ r. Some (record { owner = w.from; start = r.start }))))

-- where the statement of a rule, or the pattern, stands
abbrev pub site : Packages → Option ℕ → Option Site
site p None = Some (pattern_site p)
site p (Some n) = rule_site p (row_at p n)

abbrev pub resolved_at : Packages → QName → Option Site → Result Target NameFault
resolved_at p q None = Err F.Unknown
resolved_at p q (Some s) = resolved_in p.stock.modules s.owner s.start q (slice_get p.stock.modules s.owner)

-- the target of a name in the statement of a rule, or in the pattern
abbrev pub resolved : Packages → Option ℕ → QName → Result Target NameFault
resolved p n q = resolved_at p q (site p n)

-- ---- the boundary in force

abbrev pub boundary_mark : QName
boundary_mark = record { prefix = None; name = boundary_name; at = 0 }

abbrev pub rule_of : Result Target NameFault → ℕ
rule_of (Ok t) = t.rule
rule_of (Err f) = 0

-- that of the last statement that gives its module one, or the first rule
abbrev pub boundary : Packages → Option ℕ → Option ℕ
boundary p n = site p n >>= (λ s. Some (rule_of (resolved_at p boundary_mark (Some s))))

-- ---- what is known of a rule

abbrev pub is_own : Referent → Bool
is_own (Own k) = true
is_own _ = false

pub record Head : Type 0 where
  pub name : List ℕ
  pub from : ℕ
  pub block : Option ℕ
  pub captures : Bool

-- a statement of the module binds the name
abbrev pub binds : Option Entry → Bool
binds None = false
binds (Some e) = is_own e.referent

-- the full name of the built-in `halt`, which isn't that of a statement of the top module
abbrev pub halt_by : Bool → List ℕ
halt_by true = codes "*.halt"
halt_by false = codes "halt"

-- a statement of the top module binds the name `halt`
abbrev pub binds_halt : Packages → Bool
binds_halt p = binds (slice_get p.stock.modules p.top >>= (λ m. first_of (codes "halt") m.names))

abbrev pub halt_name : Packages → List ℕ
halt_name p = halt_by (binds_halt p)

abbrev pub head_of : Packages → Row → Rule → Head
head_of p w r = record { name = w.name; from = w.from; block = w.block; captures = not r.alias }

abbrev pub head_by : Packages → Option Row → Option Head
head_by p row = row >>= (λ w. rule_in p.stock.modules w.from w.place >>= (λ r. Some (head_of p w r)))

-- the full name, the module, the block and the mark of a node of the n-th rule
abbrev pub head : Packages → ℕ → Option Head
head p zero = Some (record { name = boundary_name; from = p.top; block = None; captures = false })
head p (suc zero) = Some (record { name = halt_name p; from = p.top; block = None; captures = false })
head p (suc (suc n)) = head_by p (slice_get (rows p.stock.modules) n)

-- the full name of a rule that a statement made
abbrev pub full_name : Packages → ℕ → Option (List ℕ)
full_name p n = row_at p n >>= (λ w. Some w.name)

-- the file and the place of a rule's statement
abbrev pub spot_of : Option Module → Rule → Option (List ℕ × ℕ)
spot_of m r = m >>= (λ o. slice_get o.texts r.text >>= (λ file. Some (file, r.at)))

abbrev pub spot : Packages → ℕ → Option (List ℕ × ℕ)
spot p n = row_at p n >>= (λ w. rule_in p.stock.modules w.from w.place >>= (spot_of (slice_get p.stock.modules w.from)))

-- the expression of a rule's statement
abbrev pub body : Packages → ℕ → Option Expr
body p n = rule_at p n >>= (λ r. Some r.body)
