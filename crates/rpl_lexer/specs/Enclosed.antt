-- Texts and brackets, from after what opens them: `"` is 34, `[` 91, `]` 93, the backslash 92, the line feed 10.
use Rattle.std.specs.Prelude.{ℕ, ◌+◌, ◌-◌, Bool, false, not, ◌&&◌, nat_eq, is_some, List, [], ◌∷◌, Option, Some, None}
use Rattle.std.specs.Prelude.{if◌then◌else◌, take}
use Rattle.rpl_text.specs.Escapes.{escape}
use Rattle.rpl_lexer.specs.declared.enclosed.Enclosure.{Enclosure}
use Rattle.rpl_lexer.specs.declared.enclosed.Enclosure.TheVariants.{Quotes, Brackets}
use Rattle.rpl_lexer.specs.declared.token.TokenKind.{TokenKind}
use Rattle.rpl_lexer.specs.declared.token.TokenKind.TheVariants as K
use Rattle.rpl_lexer.specs.declared.fault.LexKind.TheVariants.{OpenText, BadEscape}
use Rattle.rpl_lexer.specs.declared.front.Stand.{Stand}
use Rattle.rpl_lexer.specs.declared.front.Stand.TheVariants.{Found, Fault}

-- a number of bytes more
abbrev pub plus : ℕ → Option ℕ → Option ℕ
plus n None = None
plus n (Some k) = Some (n + k)

-- the bytes that open one more, and that close one
abbrev pub opens : Enclosure → ℕ → Bool
opens Quotes b = false
opens Brackets b = nat_eq b 91

abbrev pub closes : Enclosure → ℕ → Bool
closes Quotes b = nat_eq b 34
closes Brackets b = nat_eq b 93

-- a backslash that isn't hidden hides the next byte
abbrev pub hides : (hidden : Bool) → ℕ → Bool
hides hidden b = not hidden && nat_eq b 92

-- the byte closes the outermost, where n more are open
abbrev pub ends : Enclosure → (n : ℕ) → (hidden : Bool) → ℕ → Bool
ends e n hidden b = not hidden && (nat_eq n 0 && closes e b)

-- how many more are open after the byte
abbrev pub depth_after : Enclosure → (n : ℕ) → (hidden : Bool) → ℕ → ℕ
depth_after e n hidden b = if hidden then n else (if opens e b then n + 1 else (if closes e b then n - 1 else n))

-- how many bytes come up to the closing one and with it, where n more are open; none where the line or the text ends
-- before
abbrev pub close : Enclosure → (n : ℕ) → (hidden : Bool) → List ℕ → Option ℕ
close e n hidden [] = None
close e n hidden (b ∷ bs) =
    if nat_eq b 10 then None
    else (if ends e n hidden b then Some 1
    else plus 1 (close e (depth_after e n hidden b) (hides hidden b) bs))

-- the first backslash that begins no escape
abbrev pub bad : (hidden : Bool) → List ℕ → Option ℕ
bad hidden [] = None
bad hidden (b ∷ bs) = if hides hidden b && not (is_some (escape bs)) then Some 0 else plus 1 (bad (hides hidden b) bs)

abbrev pub kind_of : Enclosure → TokenKind
kind_of Quotes = K.Text
kind_of Brackets = K.Bracket

abbrev pub by_bad : TokenKind → ℕ → Option ℕ → Stand
by_bad kind n None = Found kind (1 + n)
by_bad kind n (Some k) = Fault BadEscape (1 + k)

abbrev pub by_close : TokenKind → List ℕ → Option ℕ → Stand
by_close kind bs None = Fault OpenText 0
by_close kind bs (Some n) = by_bad kind n (bad false (take n bs))

-- what stands there whose opening byte stands before bs
abbrev pub enclosed : Enclosure → List ℕ → Stand
enclosed e bs = by_close (kind_of e) bs (close e 0 false bs)
