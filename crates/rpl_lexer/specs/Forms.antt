-- The forms of tokens as spans of a text: which bytes are one of each kind, and where it fits. What stands at a place
-- is the longest that fits there.
use Rattle.std.specs.Prelude.{◌≡◌, ℕ, ◌+◌, ◌<◌, ◌≤◌, Bool, true, false, ◌&&◌, nat_eq, is_some, List, [], ◌∷◌, ◌++◌}
use Rattle.std.specs.Prelude.{Some, None, length, take, drop}
use Rattle.std.specs.List.{list_all}
use Rattle.rpl_text.specs.Ascii.{is_letter, is_digit}
use Rattle.rpl_lexer.specs.declared.token.TokenKind.{TokenKind}
use Rattle.rpl_lexer.specs.declared.token.TokenKind.TheVariants as K
use Rattle.rpl_lexer.specs.declared.enclosed.Enclosure.{Enclosure}
use Rattle.rpl_lexer.specs.declared.enclosed.Enclosure.TheVariants.{Quotes, Brackets}
use Rattle.rpl_lexer.specs.Bytes.{is_word, begins, has}
use Rattle.rpl_lexer.specs.Keywords.{is_keyword}
use Rattle.rpl_lexer.specs.Signs.{punct}
use Rattle.rpl_lexer.specs.Enclosed.{close, bad}
use Rattle.rpl_lexer.specs.Braces.{parts, begins_bounds}

-- a letter, then letters, digits and `_`
abbrev pub is_name : List ℕ → Bool
is_name w = begins is_letter w && list_all is_word w

-- such a name, and whether it is a keyword
pub record IsName (w : List ℕ) (reserved : Bool) : Type 0 where
  pub name : is_name w ≡ true
  pub word : is_keyword w ≡ reserved

-- a name, a dot and a name, neither a keyword
pub record IsPair (w : List ℕ) : Type 0 where
  pub prefix : List ℕ
  pub name : List ℕ
  pub is : w ≡ prefix ++ 46 ∷ name
  pub before : IsName prefix false
  pub behind : IsName name false

-- one digit or more
pub record AreDigits (w : List ℕ) : Type 0 where
  pub some : 0 < length w
  pub digits : list_all is_digit w ≡ true

-- an opening byte, and then bytes of which just the last closes it, without a line feed and with no backslash that
-- begins no escape
pub record IsEnclosed (e : Enclosure) (opening : ℕ) (w : List ℕ) : Type 0 where
  pub rest : List ℕ
  pub is : w ≡ opening ∷ rest
  pub closed : close e 0 false rest ≡ Some (length rest)
  pub escapes : bad false rest ≡ None

-- a brace, and then the parts of bounds up to the closing brace
pub record AreBounds (w : List ℕ) : Type 0 where
  pub rest : List ℕ
  pub is : w ≡ 123 ∷ rest
  pub begun : begins_bounds rest ≡ true
  pub closed : has rest (parts rest).close 125 ≡ true
  pub whole : length rest ≡ (parts rest).close + 1

-- one byte
pub record IsSign (w : List ℕ) : Type 0 where
  pub byte : ℕ
  pub is : w ≡ byte ∷ []
  pub sign : is_some (punct byte) ≡ true

-- the bytes w are a token of the kind, by themselves
abbrev pub Form : TokenKind → List ℕ → Type 0
Form K.Name w = IsName w false
Form K.Qualified w = IsPair w
Form K.Keyword w = IsName w true
Form K.Text w = IsEnclosed Quotes 34 w
Form K.Bracket w = IsEnclosed Brackets 91 w
Form K.Bounds w = AreBounds w
Form K.Number w = AreDigits w
Form K.Sign w = IsSign w

-- and before the bytes r: a name goes as far as it can, and a brace that begins bounds is no sign
abbrev pub MayPrecede : TokenKind → List ℕ → List ℕ → Type 0
MayPrecede K.Name w r = begins is_word r ≡ false
MayPrecede K.Qualified w r = begins is_word r ≡ false
MayPrecede K.Keyword w r = begins is_word r ≡ false
MayPrecede K.Sign w r = (begins (λ b. nat_eq b 123) w && begins_bounds r) ≡ false
MayPrecede _ w r = Unit {0}

-- the first n bytes of s fit as a token of the kind
pub record Fits (kind : TokenKind) (s : List ℕ) (n : ℕ) : Type 0 where
  pub inside : n ≤ length s
  pub form : Form kind (take n s)
  pub end : MayPrecede kind (take n s) (drop n s)

-- of all that fits, the kind and the length are those of the longest
pub record Longest (kind : TokenKind) (s : List ℕ) (n : ℕ) : Type 0 where
  pub fits : Fits kind s n
  pub longest : (k : TokenKind) (m : ℕ) → Fits k s m → m ≤ n
  pub only : (k : TokenKind) → Fits k s n → k ≡ kind
