-- The package set: plain lists, searched from the front, and what a name stands for in it.
use Rattle.std.specs.Prelude.{ℕ, zero, suc, ◌+◌, Bool, ◌&&◌, ◌||◌, nat_lt, if◌then◌else◌, List, [], ◌∷◌, ◌++◌, length}
use Rattle.std.specs.Prelude.{Option, Some, None, codes, slice_get}
use Rattle.std.specs.Str.{bytes_eq}
use Rattle.rpl_syntax.specs.Expression.{Expr}
use Rattle.rpl_syntax.specs.declared.name.QName.{QName}
use Rattle.rpl_scope.specs.declared.module.Entry.{Entry}
use Rattle.rpl_scope.specs.declared.module.Prefix.{Prefix}
use Rattle.rpl_scope.specs.declared.module.Referent.{Referent}
use Rattle.rpl_scope.specs.declared.module.Referent.TheVariants.{Own, Of, BuiltIn}
use Rattle.rpl_scope.specs.declared.scope.Found.{Found}
use Rattle.rpl_scope.specs.declared.scope.Found.TheVariants.{To, Unknown, Hidden}

-- A rule, which a binding makes: the number of its text among those of its module, the place of its first token, and
-- two numbers that say where its name is seen. `start` is how many rules its module has before its statement, a block
-- being one statement. `since` is the first start at which the name is seen: that of its block, whose rules see one
-- another; or one more for a binding alone, which only later statements see. A hidden rule is seen at just that start,
-- so in its block alone. `StatementsSee` and `RulesAreLaid` in Laws.antt say the same without the numbers.
pub record Rule : Type 0 where
  pub name : List ℕ
  pub text : ℕ
  pub at : ℕ
  pub start : ℕ
  pub since : ℕ
  pub local : Bool
  pub alias : Bool
  pub hidden : Bool
  pub body : Expr

-- A module: its path where it has one, its package name, the texts that it was read from, its rules, the prefixes of
-- its imports, and its names, each with what it stands for. No name and no prefix is there twice.
pub record Module : Type 0 where
  pub path : Option (List ℕ)
  pub label : List ℕ
  pub texts : List (List ℕ)
  pub rules : List Rule
  pub prefixes : List (List ℕ × Prefix)
  pub names : List (List ℕ × Entry)

-- what stands under a name
abbrev pub first_of : {A : Type 0} → List ℕ → List (List ℕ × A) → Option A
first_of n [] = None
first_of n (p ∷ ps) = if bytes_eq n p.0 then Some p.1 else first_of n ps

-- one name more at the end, where it isn't there
abbrev pub added_at : {A : Type 0} → Option A → List ℕ → A → List (List ℕ × A) → List (List ℕ × A)
added_at None n x ps = ps ++ (n, x) ∷ []
added_at (Some y) n x ps = ps

abbrev pub added : {A : Type 0} → List ℕ → A → List (List ℕ × A) → List (List ℕ × A)
added n x ps = added_at (first_of n ps) n x ps

-- ---- names without a prefix

-- an entry in a statement with this start: not bound there yet; hidden, for its block has ended; or its rule
abbrev pub meant : ℕ → Entry → Found
meant start e =
    if nat_lt start e.since then Unknown else if e.hidden && nat_lt e.since start then Hidden else To e.referent

-- where nothing else has the name `halt`, it is the built-in one
abbrev pub halt_or : List ℕ → Found → Found
halt_or n Unknown = if bytes_eq n (codes "halt") then To BuiltIn else Unknown
halt_or n (To r) = To r
halt_or n Hidden = Hidden

abbrev pub plain : List ℕ → ℕ → Option Entry → Found
plain n start None = halt_or n Unknown
plain n start (Some e) = halt_or n (meant start e)

-- ---- names with a prefix

-- what an entry of the module i is to those who import it: what was imported itself isn't passed on
abbrev pub offered : ℕ → Entry → Referent → Found
offered i e (Own k) = if e.local || e.hidden then Hidden else To (Of i k)
offered i e _ = Unknown

abbrev pub shared : ℕ → Option Entry → Found
shared i None = Unknown
shared i (Some e) = offered i e e.referent

abbrev pub shared_of : ℕ → List ℕ → Option Module → Found
shared_of i n None = Unknown
shared_of i n (Some m) = shared i (first_of n m.names)

abbrev pub prefixed : List Module → ℕ → List ℕ → Option Prefix → Found
prefixed ms start n None = Unknown
prefixed ms start n (Some p) = if nat_lt start p.since then Unknown else shared_of p.number n (slice_get ms p.number)

-- ---- all names

-- What a name stands for in a module, in a statement with this start: how many rules the module has before it. No text
-- spells the empty prefix.
abbrev pub bound_by : List Module → Module → ℕ → List ℕ → Option (List ℕ) → Found
bound_by ms m start n None = plain n start (first_of n m.names)
bound_by ms m start n (Some []) = To BuiltIn
bound_by ms m start n (Some (c ∷ p)) = prefixed ms start n (first_of (c ∷ p) m.prefixes)

abbrev pub bound : List Module → Module → ℕ → QName → Found
bound ms m start q = bound_by ms m start q.name q.prefix

-- ---- the rule table

-- the number of a module's first rule, after the boundary and the built-in `halt`
abbrev pub first_rule : List Module → ℕ → ℕ
first_rule [] i = 2
first_rule (m ∷ ms) zero = 2
first_rule (m ∷ ms) (suc i) = length m.rules + first_rule ms i

-- the number of what is meant in the module i
abbrev pub place : List Module → ℕ → Referent → ℕ
place ms i (Own k) = first_rule ms i + k
place ms i (Of j k) = first_rule ms j + k
place ms i BuiltIn = 1
