-- What is true of the changes of case.
use Rattle.rpl_classes.specs.Algebra.{folded}
use Rattle.std.specs.Prelude.{◌≡◌, ℕ, false, List, [], ◌∷◌}
use Rattle.rpl_syntax.specs.Expression.{Expr, Text, Class, Raw, Exprs, Nil, Cons}
use Rattle.rpl_macro.specs.Casings.{recased, single}
use Rattle.rpl_macro.specs.declared.casing.Casing.TheVariants.{Ascii, Folded}

-- applying `ci` twice has the same result as applying it once
abbrev pub CiIsOnce : Type 0
CiIsOnce = (p : Expr) → recased Ascii (recased Ascii p) ≡ recased Ascii p

-- each character folds only to itself
abbrev pub HasNoLetters : List ℕ → Type 0
HasNoLetters [] = Unit {0}
HasNoLetters (c ∷ cs) = (folded (single c) ≡ single c) × HasNoLetters cs

-- the characters of a text, each as a class that contains no other character
abbrev pub each_alone : List ℕ → Exprs
each_alone [] = Nil
each_alone (c ∷ cs) = Cons (Class (single c) false) (each_alone cs)

-- a text as the sequence of its characters
abbrev pub spelled : List ℕ → Expr
spelled [] = Text []
spelled (c ∷ cs) = Raw (each_alone (c ∷ cs))

-- if each character of a text folds only to itself, `uci` of the text is the sequence of its characters
abbrev pub UciKeepsOthers : Type 0
UciKeepsOthers = (t : List ℕ) → HasNoLetters t → recased Folded (Text t) ≡ spelled t
