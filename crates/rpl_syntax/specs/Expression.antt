-- What an expression is.
use Rattle.std.specs.Prelude.{ℕ, Bool, true, false, List, Option}
use Rattle.regex_class.specs.Ranges.{Range}
use Rattle.rpl_syntax.specs.declared.expr.Mark.{Mark}
use Rattle.rpl_syntax.specs.declared.expr.Sign.{Sign}
use Rattle.rpl_syntax.specs.declared.name.QName.{QName}

-- A text is its characters in turn, a class one character of its ranges or, where it is negated, one that is in
-- none of them. `Any`, `Start`, `End` and `Boundary` are `.`, `^`, `$` and `~`. A cooked group is its items in turn
-- with the boundary between them, a raw one its items alone. A choice is the first of two or more parts that
-- matches; `Both p q` is q where p matches too. A prefix is a predicate. A macro is what the macro of that name
-- makes of its argument. `Marked` and `Note` are made by macros alone.
mutual
  pub data Expr : Type 0 where
    Text : (chars : List ℕ) → Expr
    Class : (ranges : List Range) (negated : Bool) → Expr
    Any : Expr
    Start : Expr
    End : Expr
    Boundary : Expr
    Name : (q : QName) → Expr
    Cooked : (items : Exprs) → Expr
    Raw : (items : Exprs) → Expr
    Choice : (parts : Exprs) → Expr
    Both : (p q : Expr) → Expr
    Prefix : (s : Sign) (p : Expr) → Expr
    Repeat : (p : Expr) (least : ℕ) (most : Option ℕ) → Expr
    Macro : (q : QName) (p : Expr) → Expr
    Marked : (m : Mark) (p : Expr) → Expr
    Note : (chars : List ℕ) → Expr

  -- expressions in their order
  pub data Exprs : Type 0 where
    Nil : Exprs
    Cons : (p : Expr) (rest : Exprs) → Exprs

-- one expression alone
abbrev pub one : Expr → Exprs
one p = Cons p Nil

abbrev pub wrapped : (raw : Bool) → Exprs → Expr
wrapped true items = Raw items
wrapped false items = Cooked items

-- a sequence of one item is that item
abbrev pub joined : (raw : Bool) → Exprs → Expr
joined raw (Cons p Nil) = p
joined raw Nil = wrapped raw Nil
joined raw (Cons p (Cons q rest)) = wrapped raw (Cons p (Cons q rest))

-- a choice of one part is that part
abbrev pub chosen : Exprs → Expr
chosen (Cons p Nil) = p
chosen Nil = Choice Nil
chosen (Cons p (Cons q rest)) = Choice (Cons p (Cons q rest))
