-- The core of an expression.
use Rattle.std.specs.Prelude.{ℕ, Bool, true, false}
use Rattle.rpl_core.specs.Core.{Core, Set, Choice, Not, And, Call, Capture, Note, Cores, NoMore, Then}
use Rattle.rpl_core.specs.Core as C
use Rattle.rpl_syntax.specs.Expression.{Expr, Exprs, Nil, Cons}
use Rattle.rpl_syntax.specs.Expression as X
use Rattle.rpl_syntax.specs.declared.expr.Sign.{Sign}
use Rattle.rpl_syntax.specs.declared.expr.Sign.TheVariants as S
use Rattle.rpl_syntax.specs.declared.name.QName.{QName}
use Rattle.rpl_macro.specs.Sets.{set_in}
use Rattle.rpl_macro.specs.declared.casing.Casing.{Casing}
use Rattle.rpl_macro.specs.Kinds.{kind_of}
use Rattle.rpl_macro.specs.Uses.{text_of}
use Rattle.rpl_forms.specs.Inlining.{Inners, inlined}
use Rattle.rpl_forms.specs.Forms.{behind, pair, seq_of, text_core, signed, any, spaced_by, repeated, mark_name}
use Rattle.rpl_forms.specs.Forms.{macro_core, casing_under}

-- Where an expression stands: the rule that each name stands for, the boundary in force, and what stands for the
-- earlier rules in a look-behind.
pub record Scope : Type 0 where
  pub rule : QName → ℕ
  pub boundary : ℕ
  pub inners : Inners

abbrev pub is_prefix : Expr → Bool
is_prefix (X.Prefix s p) = true
is_prefix _ = false

abbrev pub is_cooked : Expr → Bool
is_cooked (X.Cooked ps) = true
is_cooked _ = false

-- a predicate of a core
abbrev pub signed_by : Inners → Sign → Core → Core
signed_by I S.Not p = Not p
signed_by I S.Ahead p = And p
signed_by I S.Behind p = behind (inlined I p)

-- The core of an expression in a casing. What a macro makes of its argument is had from the argument's core, and for
-- the changes of case by expanding the argument in another casing.
abbrev mutual
  pub core : Casing → Scope → Expr → Core
  core c s (X.Text t) = text_core c t
  core c s (X.Class r negated) = Set (signed negated (set_in c r))
  core c s X.Any = Set any
  core c s X.Start = C.Start
  core c s X.End = C.End
  core c s X.Boundary = Call s.boundary
  core c s (X.Name q) = Call (s.rule q)
  core c s (X.Cooked ps) = seq_of (spaced c s ps)
  core c s (X.Raw ps) = seq_of (cores c s ps)
  core c s (X.Choice ps) = Choice (cores c s ps)
  core c s (X.Both p q) = pair (And (core c s p)) (core c s q)
  core c s (X.Prefix sign p) = signed_by s.inners sign (core c s p)
  core c s (X.Repeat p l m) = repeated (is_cooked p) (Call s.boundary) (core c s p) l m
  core c s (X.Macro q p) =
      macro_core (kind_of q.name) (text_of p) (core (casing_under (kind_of q.name) c) s p)
  core c s (X.Marked m p) = Capture (mark_name m) (core c s p)
  core c s (X.Note t) = Note t

  -- each of some expressions
  pub cores : Casing → Scope → Exprs → Cores
  cores c s Nil = NoMore
  cores c s (Cons p ps) = Then (core c s p) (cores c s ps)

  -- the items of a cooked group, with the boundary between them
  pub spaced : Casing → Scope → Exprs → Cores
  spaced c s Nil = NoMore
  spaced c s (Cons p ps) = spaced_by (is_prefix p) (Call s.boundary) (core c s p) (spaced c s ps)
