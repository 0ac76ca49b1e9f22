-- Texts as their bytes and as their characters.
use Rattle.std.proofs.Common.{rules, ◌≡◌, ℕ, List, [], ◌∷◌, ◌++◌, append_assoc, sym, ap, ap₂, ◌∙◌}
use Rattle.std.specs.Prelude.{chars, IsUtf8, encode_utf8_all, codes}
use Rattle.std.specs.Str.{bytes_eq, IsAscii}
use Rattle.std.proofs.lemmas.Bool.Decides.{same_from_decides, Decides-like}
use Rattle.std.proofs.lemmas.Slice.Eq.{bytes_eq-Decides}
use Rattle.std.proofs.lemmas.Str.{encodes-chars, chars-append, chars-nil, IsUtf8-nil, IsUtf8-from_ascii, chars-IsAscii}

-- the characters of a UTF-8 text, encoded, are the text
pub encoded : (a : List ℕ) → IsUtf8 a → encode_utf8_all (chars a) ≡ a
encoded a u = encodes-chars a u

pub chars_one : (a b : List ℕ) → IsUtf8 a → IsUtf8 b → chars a ≡ chars b → a ≡ b
chars_one a b u v e = sym (encoded a u) ∙ ap encode_utf8_all e ∙ encoded b v

-- of two texts, the bytes are equal where the characters are
pub same_chars : (a b : List ℕ) → IsUtf8 a → IsUtf8 b → bytes_eq a b ≡ bytes_eq (chars a) (chars b)
same_chars a b u v =
    same_from_decides (bytes_eq a b) (bytes_eq (chars a) (chars b))
    (Decides-like (bytes_eq a b) (ap chars) (chars_one a b u v) (bytes_eq-Decides a b))
    (bytes_eq-Decides (chars a) (chars b))

-- a text of no bytes has no characters, and the other way round
pub no_chars : (a : List ℕ) → IsUtf8 a → chars a ≡ [] → a ≡ []
no_chars a u e = chars_one a [] u IsUtf8-nil (e ∙ sym chars-nil)

-- the name `halt` by its bytes and by its characters
pub named_halt : (a n : List ℕ) → IsUtf8 a → chars a ≡ n → bytes_eq a (codes "halt") ≡ bytes_eq n (codes "halt")
named_halt a n u e =
    same_chars a (codes "halt") u (IsUtf8-from_ascii (codes "halt") (search rules))
    ∙ ap (λ h. bytes_eq (chars a) h) (chars-IsAscii (codes "halt") (search rules))
    ∙ ap (λ m. bytes_eq m (codes "halt")) e

-- the mark of a boundary by its bytes and by its characters
pub named_mark : (a n : List ℕ) → IsUtf8 a → chars a ≡ n → bytes_eq a (codes "~") ≡ bytes_eq n (codes "~")
named_mark a n u e =
    same_chars a (codes "~") u (IsUtf8-from_ascii (codes "~") (search rules))
    ∙ ap (λ h. bytes_eq (chars a) h) (chars-IsAscii (codes "~") (search rules)) ∙ ap (λ m. bytes_eq m (codes "~")) e

-- a name with its prefix
pub dotted : (p n : List ℕ) → IsUtf8 p → chars ((p ++ 46 ∷ []) ++ n) ≡ chars p ++ 46 ∷ chars n
dotted p n u =
    let dot = IsUtf8-from_ascii (46 ∷ []) (search rules) in
    ap chars (append_assoc p (46 ∷ []) n) ∙ chars-append p (46 ∷ n) u
    ∙ ap (λ x. chars p ++ x) (chars-append (46 ∷ []) n dot
    ∙ ap (λ x. x ++ chars n) (chars-IsAscii (46 ∷ []) (search rules)))

-- the path of an import's file
pub placed : (d p : List ℕ) → IsUtf8 d → IsUtf8 p → chars (((d ++ codes "/") ++ p) ++ codes ".rpl") ≡ chars d
    ++ 47 ∷ (chars p ++ codes ".rpl")
placed d p u v =
    let slash = IsUtf8-from_ascii (codes "/") (search rules) in
    let tail = chars-append p (codes ".rpl") v ∙ ap (λ x. chars p ++ x) (chars-IsAscii (codes ".rpl") (search rules)) in
    ap chars (append_assoc (d ++ codes "/") p (codes ".rpl") ∙ append_assoc d (codes "/") (p ++ codes ".rpl"))
    ∙ chars-append d (codes "/" ++ (p ++ codes ".rpl")) u
    ∙ ap (λ x. chars d ++ x) (chars-append (codes "/") (p ++ codes ".rpl") slash
    ∙ ap₂ (λ x y. x ++ y) (chars-IsAscii (codes "/") (search rules)) tail)

-- the name of a root that is given itself
pub counted_name : (n : List ℕ) → IsAscii n → chars (codes "(rpl " ++ (n ++ codes ")")) ≡ codes "(rpl "
    ++ (n ++ codes ")")
counted_name n a =
    let front = IsUtf8-from_ascii (codes "(rpl ") (search rules) in
    chars-append (codes "(rpl ") (n ++ codes ")") front
    ∙ ap₂ (λ x y. x ++ y) (chars-IsAscii (codes "(rpl ") (search rules))
    (chars-append n (codes ")") (IsUtf8-from_ascii n a)
    ∙ ap₂ (λ x y. x ++ y) (chars-IsAscii n a) (chars-IsAscii (codes ")") (search rules)))
