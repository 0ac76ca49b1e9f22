-- What a token says to the grammar.
use Rattle.std.specs.Prelude.{ℕ, zero, suc, ◌+◌, nat_eq, List, [], ◌∷◌, Option, Some, None, unwrap_or, if◌then◌else◌}
use Rattle.std.specs.Prelude.{drop, slice_range, slice_index, chars}
use Rattle.rpl_text.specs.Escapes.{escape}
use Rattle.rpl_lexer.specs.declared.token.Token.{Token}
use Rattle.rpl_lexer.specs.declared.keyword.Keyword.{Keyword as Word}
use Rattle.rpl_lexer.specs.declared.keyword.Keyword.TheVariants as W
use Rattle.rpl_lexer.specs.declared.punct.Punct.{Punct}
use Rattle.rpl_lexer.specs.declared.punct.Punct.TheVariants as P
use Rattle.rpl_lexer.specs.declared.bounds.Bounds.{Bounds as Numbers}
use Rattle.rpl_lexer.specs.Bytes.{is_word, run}
use Rattle.rpl_lexer.specs.Keywords.{keyword_named}
use Rattle.rpl_lexer.specs.Signs.{punct}
use Rattle.rpl_text.specs.Numbers.{value}
use Rattle.rpl_lexer.specs.Braces.{bounds_in}
use Rattle.rpl_lexer.specs.Fronts.{first_name}

-- the bytes of a token, and those after the first of them
abbrev pub span : List ℕ → Token → List ℕ
span s t = slice_range s t.start t.end

abbrev pub inner : List ℕ → Token → List ℕ
inner s t = slice_range s (t.start + 1) t.end

-- ---- texts

-- the character of an escape, and then what is after its k characters; nothing where there is no escape
abbrev pub unescaped : Option (ℕ × ℕ) → (ℕ → List ℕ) → List ℕ
unescaped None rest = []
unescaped (Some (c, k)) rest = c ∷ rest k

-- the characters up to the closing quote with their escapes read, after k characters that belong to an escape
unfoldable pub decoded : ℕ → List ℕ → List ℕ
decoded k [] = []
decoded (suc k) (c ∷ cs) = decoded k cs
decoded zero (c ∷ cs) =
    if nat_eq c 34 then []
    else (if nat_eq c 92 then unescaped (escape cs) (λ k. decoded k cs)
    else c ∷ decoded 0 cs)

-- ---- what each kind of token says; of another kind it says nothing that is used

-- the characters of a Text
abbrev pub text_of : List ℕ → Token → List ℕ
text_of s t = decoded 0 (chars (inner s t))

-- the name before the dot of a Qualified, and the one after it
abbrev pub prefix_of : List ℕ → Token → List ℕ
prefix_of s t = first_name (span s t)

abbrev pub name_of : List ℕ → Token → List ℕ
name_of s t = drop (run is_word (span s t) + 1) (span s t)

abbrev pub keyword_of : List ℕ → Token → Word
keyword_of s t = unwrap_or (keyword_named (span s t)) W.Rpl

abbrev pub punct_of : List ℕ → Token → Punct
punct_of s t = unwrap_or (punct (slice_index s t.start)) P.OpenBrace

abbrev pub number_of : List ℕ → Token → ℕ
number_of s t = value 0 (span s t)

abbrev pub bounds_of : List ℕ → Token → Numbers
bounds_of s t = bounds_in (inner s t)
