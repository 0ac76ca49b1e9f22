-- The results of the steps of a preparation.
use Rattle.std.specs.Prelude.{◌≡◌, List, Option, None, Some, Result, Ok, Err, string_bytes}
use Rattle.rosie_prepare.specs.Lines.{Line, load_line}
use Rattle.rosie_prepare.specs.Prepared.{Ready}
use Rattle.rosie_run.specs.declared.unready.Unready.{Unready}
use Rattle.rosie_run.specs.declared.unready.Unready.TheVariants.{NoMemory, Refused, ReadFault}
use Rattle.rpl_check.specs.Goal.{peg_of}
use Rattle.rpl_check.specs.declared.checked.CheckedPeg.{CheckedPeg}
use Rattle.rpl_core.specs.View.{core_of}
use Rattle.rpl_core.specs.declared.rules.Rule.{Rule}
use Rattle.rpl_forms.specs.Rows.{rows_of}
use Rattle.rpl_package.specs.Asking.{Outcome}
use Rattle.rpl_names.specs.Roots.{Packages}
use Rattle.rpl_scope.specs.declared.fault.LoadFault.{LoadFault}
use Rattle.rpl_scope.specs.declared.fault.LoadKind.{LoadKind}
use Rattle.rpl_scope.specs.declared.fault.LoadKind.TheVariants as K
use Rattle.rpl_syntax.specs.Expression.{Expr}

-- a refusal has this line, if there is one; no read failed
abbrev pub Tells : Option Line → Unready → Type 0
Tells due NoMemory = Unit {0}
Tells due (Refused line) = due ≡ Some (string_bytes line)
Tells due (ReadFault path) = ⊥

-- a step that reads no file is done only where no line is due
abbrev pub Finds : {X : Type 0} → Option Line → Result X Unready → Type 0
Finds due (Ok x) = due ≡ None
Finds due (Err u) = Tells due u

-- a failed read is that of the fault's file; any other fault is reported by its line
abbrev pub TellsKind : LoadKind → LoadFault → Unready → Type 0
TellsKind K.NoMemory f u = u ≡ NoMemory
TellsKind K.ReadFault f u = u ≡ ReadFault f.file
TellsKind _ f u = Tells (Some (load_line f)) u

abbrev pub TellsLoad : LoadFault → Unready → Type 0
TellsLoad f u = TellsKind f.kind f u

-- a refusal has the line of the first fault of the loading
abbrev pub StopsWith : {A : Type 0} → Unready → Outcome A → Type 0
StopsWith NoMemory o = Unit {0}
StopsWith (Refused line) o = (f : LoadFault) × (o.answer ≡ Err f) × (load_line f ≡ string_bytes line)
StopsWith (ReadFault path) o = Unit {0}

-- it gives the answer, as it is seen, or stops so
abbrev pub Leads : {X A : Type 0} → (X → A) → Result X Unready → Outcome A → Type 0
Leads view (Ok x) o = o.answer ≡ Ok (view x)
Leads view (Err u) o = StopsWith u o

-- no read failed
abbrev pub IsOwn : Unready → Type 0
IsOwn NoMemory = Unit {0}
IsOwn (Refused line) = Unit {0}
IsOwn (ReadFault path) = ⊥

-- the rule table and the core of a pattern, seen with its packages and its expression
abbrev pub both_seen : Packages → Expr → List Rule × CheckedPeg → Ready
both_seen p e both = record { packages = p; expr = e; rules = rows_of both.0; goal = core_of (peg_of both.1) }
