-- The names and macros of an expression, from left to right, and their first faults.
use Rattle.std.specs.Prelude.{ℕ, List, [], ◌∷◌, ◌++◌, Option, Some, None, option_map}
use Rattle.rpl_macro.specs.Kinds.{kind_of}
use Rattle.rpl_macro.specs.Uses.{use_fault}
use Rattle.rpl_macro.specs.declared.fault.MacroFault.{MacroFault}
use Rattle.rpl_syntax.specs.Expression as M
use Rattle.rpl_syntax.specs.Expression.{Expr, Exprs, Nil, Cons}
use Rattle.rpl_syntax.specs.declared.name.QName.{QName}
use Rattle.rpl_scope.specs.Results.{fault_at, first_fault}
use Rattle.rpl_scope.specs.Packages.{Module, bound}
use Rattle.rpl_scope.specs.declared.fault.LoadFault.{LoadFault}
use Rattle.rpl_scope.specs.declared.fault.LoadKind.TheVariants.{UnknownName, HiddenName, Macro}
use Rattle.rpl_scope.specs.declared.scope.Found.{Found}
use Rattle.rpl_scope.specs.declared.scope.Found.TheVariants.{To, Unknown, Hidden}

-- a use of a macro: its name and its argument
pub record Use : Type 0 where
  pub name : QName
  pub arg : Expr

abbrev mutual
  pub names : Expr → List QName
  names (M.Name q) = q ∷ []
  names (M.Cooked ps) = names_all ps
  names (M.Raw ps) = names_all ps
  names (M.Choice ps) = names_all ps
  names (M.Both p q) = names p ++ names q
  names (M.Prefix s p) = names p
  names (M.Repeat p l m) = names p
  names (M.Macro q p) = names p
  names (M.Marked m p) = names p
  names _ = []

  pub names_all : Exprs → List QName
  names_all Nil = []
  names_all (Cons p ps) = names p ++ names_all ps

abbrev mutual
  pub uses : Expr → List Use
  uses (M.Cooked ps) = uses_all ps
  uses (M.Raw ps) = uses_all ps
  uses (M.Choice ps) = uses_all ps
  uses (M.Both p q) = uses p ++ uses q
  uses (M.Prefix s p) = uses p
  uses (M.Repeat p l m) = uses p
  uses (M.Macro q p) = record { name = q; arg = p } ∷ uses p
  uses (M.Marked m p) = uses p
  uses _ = []

  pub uses_all : Exprs → List Use
  uses_all Nil = []
  uses_all (Cons p ps) = uses p ++ uses_all ps

-- a name as it is written
abbrev pub written : Option (List ℕ) → List ℕ → List ℕ
written None n = n
written (Some p) n = p ++ 46 ∷ n

abbrev pub name_fault : List ℕ → QName → Found → Option LoadFault
name_fault f q (To r) = None
name_fault f q Unknown = Some (fault_at f q.at (UnknownName (written q.prefix q.name)))
name_fault f q Hidden = Some (fault_at f q.at (HiddenName (written q.prefix q.name)))

abbrev pub named_fault : List ℕ → List Module → Module → ℕ → QName → Option LoadFault
named_fault f ms m start q = name_fault f q (bound ms m start q)

-- the first of these names that stands for nothing, in statements of the module m with this start
abbrev pub names_fault : List ℕ → List Module → Module → ℕ → List QName → Option LoadFault
names_fault f ms m start qs = first_fault (named_fault f ms m start) qs

abbrev pub macro_fault : List ℕ → QName → Option MacroFault → Option LoadFault
macro_fault f q = option_map (λ e. fault_at f q.at (Macro q.name e))

abbrev pub used_fault : List ℕ → Use → Option LoadFault
used_fault f u = macro_fault f u.name (use_fault (kind_of u.name.name) u.arg)

abbrev pub macros_fault : List ℕ → List Use → Option LoadFault
macros_fault f us = first_fault (used_fault f) us
