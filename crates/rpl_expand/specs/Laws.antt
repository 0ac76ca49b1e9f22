-- What holds of every core.
use Rattle.std.specs.Prelude.{◌≡◌, ℕ, Bool, true, false, ◌&&◌, not, List, Option, Some, encode_utf8_all}
use Rattle.regex_class.specs.Ranges.{Range}
use Rattle.rpl_classes.specs.Algebra.{folded, widened}
use Rattle.rpl_core.specs.Core.{Core, Seq, NoMore}
use Rattle.rpl_core.specs.Lengths.{has_call}
use Rattle.rpl_core.specs.Parts.{some_inside}
use Rattle.rpl_core.specs.Core as C
use Rattle.rpl_forms.specs.Forms.{copies, halt_rule}
use Rattle.rpl_forms.specs.Inlining.{Inners}
use Rattle.rpl_macro.specs.Kinds.{kind_of}
use Rattle.rpl_macro.specs.declared.kind.Macro.{Macro}
use Rattle.rpl_macro.specs.Laws.{HasNoLetters}
use Rattle.rpl_macro.specs.Macros.{applied, halt}
use Rattle.rpl_macro.specs.declared.casing.Casing.{Casing}
use Rattle.rpl_macro.specs.declared.casing.Casing.TheVariants.{Plain, Folded}
use Rattle.rpl_macro.specs.declared.kind.Macro.TheVariants.{Error}
use Rattle.rpl_names.specs.Roots.{Packages}
use Rattle.rpl_syntax.specs.Braces.{again, plain, unplaced}
use Rattle.rpl_syntax.specs.Expression.{Expr, Text, Class, Any, Start, End, Boundary, Name, Cooked, Raw, Choice, Both}
use Rattle.rpl_syntax.specs.Expression.{Prefix, Repeat, Marked, Note, Exprs, Nil, Cons, one}
use Rattle.rpl_syntax.specs.Expression as X
use Rattle.rpl_syntax.specs.Printed.{printed}
use Rattle.rpl_syntax.specs.Readable.{Good}
use Rattle.rpl_syntax.specs.Texts.{HasFewTokens, IsReadAs, Writable}
use Rattle.rpl_syntax.specs.declared.name.QName.{QName}
use Rattle.rpl_expand.specs.Expansion.{Scope, core, is_cooked}
use Rattle.rpl_expand.specs.Sets.{goal_of}

-- a group of one item is that item
abbrev pub GroupOfOne : Type 0
GroupOfOne = (c : Casing) (s : Scope) (p : Expr) → core c s (Raw (one p)) ≡ core c s p

-- the core of exactly n turns is a sequence of n copies, unless the body is a `( )` group
abbrev pub ExactlyTurns : Type 0
ExactlyTurns =
    (c : Casing) (s : Scope) (p : Expr) (n : ℕ) → is_cooked p ≡ false
    → core c s (Repeat p n (Some n)) ≡ Seq (copies n (core c s p) NoMore)

-- the macro is `error`
abbrev pub is_error : Option Macro → Bool
is_error (Some Error) = true
is_error _ = false

-- No name, `~` or `error` stands in the expression, no items stand side by side in `( )`, and no `( )` is repeated.
abbrev mutual
  pub is_still : Expr → Bool
  is_still (Text t) = true
  is_still (Class s negated) = true
  is_still Any = true
  is_still Start = true
  is_still End = true
  is_still Boundary = false
  is_still (Name q) = false
  is_still (Cooked Nil) = true
  is_still (Cooked (Cons p Nil)) = is_still p
  is_still (Cooked (Cons p (Cons q ps))) = false
  is_still (Raw ps) = all_still ps
  is_still (Choice ps) = all_still ps
  is_still (Both p q) = is_still p && is_still q
  is_still (Prefix s p) = is_still p
  is_still (Repeat p l m) = not (is_cooked p) && is_still p
  is_still (X.Macro q p) = not (is_error (kind_of q.name)) && is_still p
  is_still (Marked m p) = is_still p
  is_still (Note t) = true

  pub all_still : Exprs → Bool
  all_still Nil = true
  all_still (Cons p ps) = is_still p && all_still ps

-- the core of such an expression calls nothing
abbrev pub StillCallsNothing : Type 0
StillCallsNothing = (c : Casing) (s : Scope) (p : Expr) → is_still p ≡ true → has_call (core c s p) ≡ false

-- `uci` of a text whose characters each fold only to themselves has the core of that text
abbrev pub UciKeepsOthers : Type 0
UciKeepsOthers =
    (s : Scope) (t : List ℕ) → HasNoLetters t → core Folded s (Text t) ≡ core Plain s (Text t)

-- a choice without parts
abbrev pub is_hollow : Core → Bool
is_hollow (C.Choice NoMore) = true
is_hollow _ = false

-- every choice in a core has a part, as in each core of a loaded set (LoadLaws)
abbrev pub HasParts : Core → Type 0
HasParts p = some_inside is_hollow p ≡ false

-- Folding twice is folding once, and the fold of a set has both cases of its ASCII letters, whichever the set has.
pub record FoldsOnce : Type 0 where
  pub again : (r : List Range) → folded (folded r) ≡ folded r
  pub cases_in : (r : List Range) → folded (widened r) ≡ folded r
  pub cases_out : (r : List Range) → widened (folded r) ≡ folded r

-- The macro that a name means has the core of the expression that its equation gives, where the name that `error` uses
-- stands for the built-in rule, as it does wherever an expression of a loaded set stands (LoadLaws).
abbrev pub MacroIsEquation : Type 0
MacroIsEquation =
    (c : Casing) (s : Scope) (q : QName) (p : Expr) (k : Macro) → kind_of q.name ≡ Some k → s.rule halt ≡ halt_rule
    → core c s (X.Macro q p) ≡ core c s (applied k p)

-- the braces that printing adds change no core
abbrev pub BracesKeepCores : Type 0
BracesKeepCores = (c : Casing) (s : Scope) (p : Expr) → core c s (again p) ≡ core c s p

-- what a name stands for has nothing to do with its place in the text
abbrev pub IgnoresPlaces : (QName → ℕ) → Type 0
IgnoresPlaces rule = (q : QName) → rule (unplaced q) ≡ rule q

-- So what differs from an expression in those braces and in the places of its names alone has the same core. That is
-- what is read of its printed text, as `printed_reads_back` of `rpl_syntax` says.
abbrev pub PrintingKeepsCores : Type 0
PrintingKeepsCores =
    (c : Casing) (s : Scope) (p q : Expr) → IgnoresPlaces s.rule → plain q ≡ plain (again p)
    → core c s q ≡ core c s p

-- And the printed text of a pattern, unless it has too many tokens for a text, is read as a pattern with the same core.
abbrev pub PrintingKeepsPatterns : Type 0
PrintingKeepsPatterns =
    (p : Packages) (I : Inners) (e : Expr) → Good e → Writable e → HasFewTokens e
    → (y : Expr) × IsReadAs (encode_utf8_all (printed e)) y × (goal_of p I y ≡ goal_of p I e)
