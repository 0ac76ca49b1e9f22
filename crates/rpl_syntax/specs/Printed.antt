-- The printed text of an expression, as characters.
use Rattle.std.specs.Prelude.{ℕ, zero, suc, ◌+◌, ◌-◌, ◌/◌, ◌%◌, Bool, true, false, ◌||◌, nat_eq, nat_lt, List, [], ◌∷◌}
use Rattle.std.specs.Prelude.{◌++◌, Option, Some, None, if◌then◌else◌}
use Rattle.std.specs.Fmt.{decimal}
use Rattle.regex_class.specs.Ranges.{Range}
use Rattle.rpl_syntax.specs.declared.expr.Sign.{Sign}
use Rattle.rpl_syntax.specs.declared.expr.Sign.TheVariants.{Not, Ahead, Behind}
use Rattle.rpl_syntax.specs.declared.name.QName.{QName}
use Rattle.rpl_syntax.specs.Expression.{Expr, Text, Class, Any, Start, End, Boundary, Name, Cooked, Raw, Choice, Both}
use Rattle.rpl_syntax.specs.Expression.{Prefix, Repeat, Macro, Marked, Note, Exprs, Nil, Cons}

-- a hexadecimal digit, where ten is this letter
abbrev pub digit_char : (letter : ℕ) → ℕ → ℕ
digit_char letter d = if nat_lt d 10 then 48 + d else letter + (d - 10)

-- a character between quotes: `\"`, `\\`, `\n`, `\r` and `\t`; other controls as `\xHH` in lower case
abbrev pub quoted_char : ℕ → List ℕ
quoted_char c =
    if nat_eq c 34 then 92 ∷ 34 ∷ []
    else (if nat_eq c 92 then 92 ∷ 92 ∷ []
    else (if nat_eq c 10 then 92 ∷ 110 ∷ []
    else (if nat_eq c 13 then 92 ∷ 114 ∷ []
    else (if nat_eq c 9 then 92 ∷ 116 ∷ []
    else (if nat_lt c 32 || nat_eq c 127 then 92 ∷ 120 ∷ digit_char 97 (c / 16) ∷ digit_char 97 (c % 16) ∷ []
    else c ∷ [])))))

abbrev pub quoted : List ℕ → List ℕ
quoted [] = []
quoted (c ∷ cs) = quoted_char c ++ quoted cs

abbrev pub literal_text : List ℕ → List ℕ
literal_text s = 34 ∷ quoted s ++ 34 ∷ []

-- `\UXXXXXXXX`, in upper case
abbrev pub four_digits : ℕ → List ℕ
four_digits n =
    digit_char 65 (n / 4096) ∷ digit_char 65 (n / 256 % 16) ∷ digit_char 65 (n / 16 % 16) ∷ digit_char 65 (n % 16) ∷ []

unfoldable pub point_text : ℕ → List ℕ
point_text c = 92 ∷ 85 ∷ four_digits (c / 65536) ++ four_digits (c % 65536)

unfoldable pub range_text : (low high : ℕ) → List ℕ
range_text low high = 91 ∷ point_text low ++ 45 ∷ point_text high ++ 93 ∷ []

abbrev pub ranges_text : List Range → List ℕ
ranges_text [] = []
ranges_text (r ∷ rs) = range_text r.0 r.1 ++ ranges_text rs

-- the members of a bracket; of the empty set the one member that is nothing but all characters
abbrev pub members_text : List Range → List ℕ
members_text [] = 91 ∷ 94 ∷ range_text 0 0xd7ff ++ range_text 0xe000 0x10_ffff ++ 93 ∷ []
members_text (r ∷ rs) = ranges_text (r ∷ rs)

abbrev pub caret_text : (negated : Bool) → List ℕ
caret_text true = 94 ∷ []
caret_text false = []

abbrev pub class_text : List Range → (negated : Bool) → List ℕ
class_text ranges negated = 91 ∷ caret_text negated ++ members_text ranges ++ 93 ∷ []

abbrev pub name_text : QName → List ℕ
name_text q = elim q.prefix [ None ↦ q.name | Some p ↦ p ++ 46 ∷ q.name ]

-- `*`, `+`, `?`, `{n}`, `{n,m}` or `{n,}`
abbrev pub bounds_text : (least : ℕ) (most : Option ℕ) → List ℕ
bounds_text l None = 123 ∷ decimal l ++ 44 ∷ 125 ∷ []
bounds_text l (Some m) =
    if nat_eq l m then 123 ∷ decimal l ++ 125 ∷ [] else 123 ∷ decimal l ++ 44 ∷ decimal m ++ 125 ∷ []

abbrev pub quant_text : (least : ℕ) (most : Option ℕ) → List ℕ
quant_text zero None = 42 ∷ []
quant_text (suc zero) None = 43 ∷ []
quant_text zero (Some (suc zero)) = 63 ∷ []
quant_text l m = bounds_text l m

abbrev pub sign_char : Sign → ℕ
sign_char Not = 33
sign_char Ahead = 62
sign_char Behind = 60

-- a choice or an `&`, which stands in braces where it is an item
abbrev pub is_joined : Expr → Bool
is_joined (Choice ps) = true
is_joined (Both p q) = true
is_joined _ = false

-- what stands in braces under a quantifier
abbrev pub is_compound : Expr → Bool
is_compound (Choice ps) = true
is_compound (Both p q) = true
is_compound (Prefix s p) = true
is_compound (Repeat p l m) = true
is_compound (Macro q p) = true
is_compound _ = false

abbrev pub in_braces : Bool → List ℕ → List ℕ
in_braces true t = 123 ∷ t ++ 125 ∷ []
in_braces false t = t

abbrev mutual
  -- standing alone, or as the last part of a choice or of an `&`
  pub printed : Expr → List ℕ
  printed (Text s) = literal_text s
  printed (Class ranges negated) = class_text ranges negated
  printed Any = 46 ∷ []
  printed Start = 94 ∷ []
  printed End = 36 ∷ []
  printed Boundary = 126 ∷ []
  printed (Name q) = name_text q
  printed (Cooked ps) = 40 ∷ items_printed ps ++ 41 ∷ []
  printed (Raw ps) = 123 ∷ items_printed ps ++ 125 ∷ []
  printed (Choice ps) = parts_printed ps
  printed (Both p q) = in_braces (is_joined p) (printed p) ++ 32 ∷ 38 ∷ 32 ∷ printed q
  printed (Prefix s p) = sign_char s ∷ in_braces (is_joined p) (printed p)
  printed (Repeat p l m) = in_braces (is_compound p) (printed p) ++ quant_text l m
  printed (Macro q p) = name_text q ++ 58 ∷ in_braces (is_joined p) (printed p)
  printed (Marked m p) = printed p
  printed (Note s) = literal_text s

  -- the items of a group, one space apart
  pub items_printed : Exprs → List ℕ
  items_printed Nil = []
  items_printed (Cons p Nil) = in_braces (is_joined p) (printed p)
  items_printed (Cons p (Cons q rest)) = in_braces (is_joined p) (printed p) ++ 32 ∷ items_printed (Cons q rest)

  -- the parts of a choice, with ` / ` between
  pub parts_printed : Exprs → List ℕ
  parts_printed Nil = []
  parts_printed (Cons p Nil) = printed p
  parts_printed (Cons p (Cons q rest)) =
      in_braces (is_joined p) (printed p) ++ 32 ∷ 47 ∷ 32 ∷ parts_printed (Cons q rest)
