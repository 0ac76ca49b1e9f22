-- Kinds of bytes, and how far they go. All that decides about a token is ASCII, so bytes stand here for characters.
use Rattle.std.specs.Prelude.{ℕ, suc, ◌+◌, Bool, false, ◌||◌, nat_eq, List, [], ◌∷◌, Some, None}
use Rattle.std.specs.Prelude.{if◌then◌else◌, drop, slice_get}
use Rattle.rpl_text.specs.Ascii.{is_letter, is_digit}
use Rattle.rpl_lexer.specs.declared.bytes.Class.{Class}
use Rattle.rpl_lexer.specs.declared.bytes.Class.TheVariants as C

-- letters, digits and `_`
abbrev pub is_word : ℕ → Bool
is_word b = is_letter b || (is_digit b || nat_eq b 95)

-- spaces and tabs
abbrev pub is_space : ℕ → Bool
is_space b = nat_eq b 32 || nat_eq b 9

-- those, and the carriage return and the line feed
abbrev pub is_blank : ℕ → Bool
is_blank b = is_space b || (nat_eq b 13 || nat_eq b 10)

abbrev pub in_class : Class → ℕ → Bool
in_class C.Word b = is_word b
in_class C.Digit b = is_digit b
in_class C.Space b = is_space b

-- how many bytes at the front pass a test
abbrev pub run : (ℕ → Bool) → List ℕ → ℕ
run p [] = 0
run p (b ∷ bs) = if p b then suc (run p bs) else 0

-- where the run ends that begins at the place i
abbrev pub past : (ℕ → Bool) → List ℕ → ℕ → ℕ
past p bs i = i + run p (drop i bs)

-- the byte at the front passes the test
abbrev pub begins : (ℕ → Bool) → List ℕ → Bool
begins p [] = false
begins p (b ∷ bs) = p b

-- the byte b stands at the place i
abbrev pub has : List ℕ → ℕ → ℕ → Bool
has bs i b = elim (slice_get bs i) [ None ↦ false | Some c ↦ nat_eq c b ]
