-- The named classes: those of the POSIX C locale (IEEE Std 1003.1, LC_CTYPE), each by the standard's own words, and
-- beside them what Unicode has a name for.
use Rattle.std.specs.Prelude.{ℕ, Bool, not, ◌&&◌, ◌||◌, nat_eq, nat_le, List, [], ◌∷◌, Option}
use Rattle.std.specs.Prelude.{codes}
use Rattle.std.specs.Option.{option_map, option_or}
use Rattle.rpl_text.specs.Named.{first_named}
use Rattle.rpl_text.specs.Ascii.{is_upper, is_lower, is_digit, is_letter}
use Rattle.regex_class.specs.Ranges.{Range}
use Rattle.rpl_unicode.specs.Named.{members}
use Rattle.rpl_classes.specs.Algebra.{set_of}
use Rattle.rpl_classes.specs.declared.classes.NamedClass.{NamedClass}
use Rattle.rpl_classes.specs.declared.classes.NamedClass.TheVariants.{Alpha, Digit, Alnum, Upper, Lower, Space}
use Rattle.rpl_classes.specs.declared.classes.NamedClass.TheVariants.{Blank, Punct, Xdigit, Cntrl, Graph}
use Rattle.rpl_classes.specs.declared.classes.NamedClass.TheVariants.{Print}

abbrev pub is_alnum : ℕ → Bool
is_alnum c = is_letter c || is_digit c

-- the visible characters of ASCII
abbrev pub is_graph : ℕ → Bool
is_graph c = nat_le 0x21 c && nat_le c 0x7e

-- the characters of a class
abbrev pub in_class : NamedClass → ℕ → Bool
in_class Upper c = is_upper c
in_class Lower c = is_lower c
in_class Digit c = is_digit c
in_class Alpha c = is_letter c
in_class Alnum c = is_alnum c
-- digits, A to F, a to f
in_class Xdigit c = is_digit c || ((nat_le 0x41 c && nat_le c 0x46) || (nat_le 0x61 c && nat_le c 0x66))
in_class Graph c = is_graph c
in_class Punct c = is_graph c && not (is_alnum c)  -- visible, and neither letter nor digit
in_class Print c = is_graph c || nat_eq c 0x20  -- visible, and the space
in_class Blank c = nat_eq c 0x20 || nat_eq c 0x9  -- space and tab
-- space, tab, line feed, vertical tab, form feed, carriage return
in_class Space c = nat_eq c 0x20 || (nat_le 0x9 c && nat_le c 0xd)
in_class Cntrl c = nat_le c 0x1f || nat_eq c 0x7f  -- what ASCII has that isn't printed

-- a class's name between the colons of a bracket
abbrev pub name_of : NamedClass → List ℕ
name_of Alpha = codes "alpha"
name_of Digit = codes "digit"
name_of Alnum = codes "alnum"
name_of Upper = codes "upper"
name_of Lower = codes "lower"
name_of Space = codes "space"
name_of Blank = codes "blank"
name_of Punct = codes "punct"
name_of Xdigit = codes "xdigit"
name_of Cntrl = codes "cntrl"
name_of Graph = codes "graph"
name_of Print = codes "print"

-- the class with a name, where there is one
unfoldable pub class_named : List ℕ → Option NamedClass
class_named =
    first_named name_of
    (Alpha ∷ Digit ∷ Alnum ∷ Upper ∷ Lower ∷ Space ∷ Blank ∷ Punct ∷ Xdigit ∷ Cntrl ∷ Graph ∷ Print ∷ [])

-- the test of the characters that a name stands for: that of the class with just this name, or else what the name
-- stands for in Unicode, where it stands for a set
abbrev pub test_named : List ℕ → Option (ℕ → Bool)
test_named name = option_or (option_map in_class (class_named name)) (members name)

-- the set with a name, where there is one
abbrev pub set_named : List ℕ → Option (List Range)
set_named name = option_map set_of (test_named name)
