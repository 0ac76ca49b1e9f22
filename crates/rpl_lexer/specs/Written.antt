-- How texts, brackets and bounds may be written: as bytes, and a text also as characters.
use Rattle.std.specs.Prelude.{◌≡◌, ℕ, ◌+◌, ◌<◌, Bool, true, false, not, ◌||◌, nat_eq, List, [], ◌∷◌, ◌++◌}
use Rattle.std.specs.Prelude.{Option, Some, None, length, encode_utf8_all}
use Rattle.std.specs.List.{list_all}
use Rattle.rpl_text.specs.Ascii.{is_digit}
use Rattle.rpl_text.specs.Escapes.{escape}
use Rattle.rpl_text.specs.Numbers.{value, narrow}
use Rattle.rpl_lexer.specs.declared.bounds.Bounds.{Bounds}
use Rattle.rpl_lexer.specs.declared.token.TokenKind.TheVariants as K
use Rattle.rpl_lexer.specs.declared.front.Stand.TheVariants.{Found}
use Rattle.rpl_lexer.specs.Braces.{bounds_in}
use Rattle.rpl_lexer.specs.Bytes.{is_space}
use Rattle.rpl_lexer.specs.Fronts.{stands}
use Rattle.rpl_lexer.specs.Payloads.{decoded}

-- no quote, no backslash and no line feed
abbrev pub is_bare : ℕ → Bool
is_bare c = not (nat_eq c 34 || (nat_eq c 92 || nat_eq c 10))

-- between quotes the characters w stand for the characters cs
pub data Writes : (w cs : List ℕ) → Type 0 where
  nothing : Writes [] []
  bare : (c : ℕ) (w cs : List ℕ) → is_bare c ≡ true → Writes w cs → Writes (c ∷ w) (c ∷ cs)
  escaped : (c : ℕ) (e w cs : List ℕ) → escape e ≡ Some (c, length e) → Writes w cs → Writes (92 ∷ e ++ w) (c ∷ cs)

-- what may stand in a text, by its bytes: no quote, no backslash and no line feed, and escapes
pub data InText : List ℕ → Type 0 where
  ending : InText []
  bare_in : (b : ℕ) (u : List ℕ) → is_bare b ≡ true → InText u → InText (b ∷ u)
  escape_in : (c : ℕ) (e u : List ℕ) → escape e ≡ Some (c, length e) → InText u → InText (92 ∷ e ++ u)

-- a text: what may stand in one, between two quotes
pub record IsText (w : List ℕ) : Type 0 where
  pub inner : List ℕ
  pub is : w ≡ 34 ∷ inner ++ 34 ∷ []
  pub written : InText inner

-- what is so written is one text, whatever follows it, and is read as what it stands for
pub record ReadsBack (w cs r : List ℕ) : Type 0 where
  pub token : stands (34 ∷ encode_utf8_all w ++ 34 ∷ r) ≡ Found K.Text (length (encode_utf8_all w) + 2)
  pub text : decoded 0 (w ++ 34 ∷ []) ≡ cs

-- ---- brackets

-- neither a bracket, nor a backslash, nor the line feed
abbrev pub is_inner : ℕ → Bool
is_inner b = not (nat_eq b 10 || (nat_eq b 92 || (nat_eq b 91 || nat_eq b 93)))

-- what may stand in a bracket: such bytes, escapes, and further brackets
pub data InBracket : List ℕ → Type 0 where
  nothing_in : InBracket []
  inner_in : (b : ℕ) (u : List ℕ) → is_inner b ≡ true → InBracket u → InBracket (b ∷ u)
  escaped_in : (c : ℕ) (e u : List ℕ) → escape e ≡ Some (c, length e) → InBracket u → InBracket (92 ∷ e ++ u)
  bracket_in : (v u : List ℕ) → InBracket v → InBracket u → InBracket (91 ∷ v ++ 93 ∷ u)

-- a bracket: what may stand in one, between its two brackets
pub record IsBracket (w : List ℕ) : Type 0 where
  pub inner : List ℕ
  pub is : w ≡ 91 ∷ inner ++ 93 ∷ []
  pub written : InBracket inner

-- ---- bounds

-- digits that spell a number
pub record Spells (n : ℕ) (ds : List ℕ) : Type 0 where
  pub digits : list_all is_digit ds ≡ true
  pub some : 0 < length ds
  pub number : narrow (value 0 ds) ≡ Some n

-- between braces the bytes w stand for the bounds
pub data WritesBounds : (w : List ℕ) → Bounds → Type 0 where
  exactly : (ds : List ℕ) (n : ℕ) → Spells n ds →
      WritesBounds ds (record { least = Some n; comma = false; most = None })
  at_least : (ds : List ℕ) (n : ℕ) → Spells n ds →
      WritesBounds (ds ++ 44 ∷ []) (record { least = Some n; comma = true; most = None })
  between : (ds es : List ℕ) (n m : ℕ) → Spells n ds → Spells m es →
      WritesBounds (ds ++ 44 ∷ es) (record { least = Some n; comma = true; most = Some m })

-- what is so written is one token, whatever follows it, and says those numbers
pub record BoundsBack (w : List ℕ) (b : Bounds) (r : List ℕ) : Type 0 where
  pub token : stands (123 ∷ w ++ 125 ∷ r) ≡ Found K.Bounds (length w + 2)
  pub numbers : bounds_in (w ++ 125 ∷ r) ≡ b

-- what may stand in bounds, with spaces and tabs around each part: a number, or a comma with a number or none on each
-- side
pub data InBounds : List ℕ → Type 0 where
  one_number : (a ds b : List ℕ) → list_all is_space a ≡ true → list_all is_digit ds ≡ true → 0 < length ds
      → list_all is_space b ≡ true → InBounds (a ++ ds ++ b)
  with_comma : (a ds b c es d : List ℕ) → list_all is_space a ≡ true → list_all is_digit ds ≡ true
      → list_all is_space b ≡ true
      → list_all is_space c ≡ true → list_all is_digit es ≡ true → list_all is_space d ≡ true
      → InBounds (a ++ ds ++ b ++ 44 ∷ c ++ es ++ d)

-- bounds: what may stand in some, between two braces
pub record IsBounds (w : List ℕ) : Type 0 where
  pub inner : List ℕ
  pub is : w ≡ 123 ∷ inner ++ 125 ∷ []
  pub written : InBounds inner

-- digits that spell a number, or no digits where there is none
abbrev pub SpellsPart : List ℕ → Option ℕ → Type 0
SpellsPart ds None = ds ≡ []
SpellsPart ds (Some n) = Spells n ds

-- between braces the bytes w say the bounds, with spaces and tabs around each part
pub data SaysBounds : (w : List ℕ) → Bounds → Type 0 where
  says_number : (a ds b : List ℕ) (n : ℕ) → list_all is_space a ≡ true → Spells n ds → list_all is_space b ≡ true →
      SaysBounds (a ++ ds ++ b) (record { least = Some n; comma = false; most = None })
  says_comma : (a ds b c es d : List ℕ) (least most : Option ℕ) → list_all is_space a ≡ true → SpellsPart ds least →
      list_all is_space b ≡ true → list_all is_space c ≡ true → SpellsPart es most → list_all is_space d ≡ true →
      SaysBounds (a ++ ds ++ b ++ 44 ∷ c ++ es ++ d) (record { least = least; comma = true; most = most })

-- digits that spell a number that doesn't fit in 64 bits
pub record IsWide (ds : List ℕ) : Type 0 where
  pub digits : list_all is_digit ds ≡ true
  pub number : narrow (value 0 ds) ≡ None

-- so many bytes come before the first number of the bounds that doesn't fit in 64 bits
pub data WideBounds : (w : List ℕ) → (at : ℕ) → Type 0 where
  wide_number : (a ds b : List ℕ) → list_all is_space a ≡ true → IsWide ds → list_all is_space b ≡ true →
      WideBounds (a ++ ds ++ b) (length a)
  wide_first : (a ds b c es d : List ℕ) → list_all is_space a ≡ true → IsWide ds → list_all is_space b ≡ true →
      list_all is_space c ≡ true → list_all is_digit es ≡ true → list_all is_space d ≡ true →
      WideBounds (a ++ ds ++ b ++ 44 ∷ c ++ es ++ d) (length a)
  wide_second : (a ds b c es d : List ℕ) (least : Option ℕ) → list_all is_space a ≡ true → SpellsPart ds least →
      list_all is_space b ≡ true → list_all is_space c ≡ true → IsWide es → list_all is_space d ≡ true →
      WideBounds (a ++ ds ++ b ++ 44 ∷ c ++ es ++ d) (length (a ++ ds ++ b ++ 44 ∷ c))

-- the bytes say the bounds, between two braces
pub record SaysBetween (w : List ℕ) (b : Bounds) : Type 0 where
  pub inner : List ℕ
  pub is : w ≡ 123 ∷ inner ++ 125 ∷ []
  pub says : SaysBounds inner b
