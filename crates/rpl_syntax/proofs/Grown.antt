-- The characters of a text that grows.
use Rattle.std.proofs.Common.{append_assoc, ◌≡◌, ℕ, List, [], ◌∷◌, ◌++◌, sym, ap, ◌∙◌}
use Rattle.std.specs.Prelude.{chars}
use Rattle.std.specs.Char.{IsScalar}
use Rattle.std.specs.Str.{IsUtf8}
use Rattle.regex_class.specs.Ranges.{Range}
use Rattle.rpl_syntax.specs.Printed.{quoted, quoted_char, ranges_text, range_text}
use Rattle.std.proofs.Math.Utf8.{encode}
use Rattle.std.proofs.lemmas.List.{append-nil}
use Rattle.std.proofs.lemmas.Str.{chars-append, chars_past_char, chars-nil, IsUtf8-encode}

-- one character alone
pub chars_one : (c : ℕ) → IsScalar c → chars (encode c) ≡ c ∷ []
chars_one c h = chars_past_char (encode c) [] c (IsUtf8-encode c h) (sym (append-nil (encode c)))
    ∙ ap (λ r. c ∷ r) chars-nil

pub grown : (old more new : List ℕ) → IsUtf8 old → new ≡ old ++ more → chars new ≡ chars old ++ chars more
grown old more new h e = ap chars e ∙ chars-append old more h

-- the text that is seen as `seen` grows by bytes that spell `more`
pub seen_grown : (old more new seen spelled : List ℕ) → IsUtf8 old → chars old ≡ seen → chars more ≡ spelled
    → new ≡ old ++ more → chars new ≡ seen ++ spelled
seen_grown old more new seen spelled h v m e = grown old more new h e
    ∙ (ap (λ x. x ++ chars more) v ∙ ap (λ x. seen ++ x) m)

-- one thing after the other
pub then : (a b c p q : List ℕ) → b ≡ a ++ p → c ≡ b ++ q → c ≡ a ++ (p ++ q)
then a b c p q h k = k ∙ (ap (λ x. x ++ q) h ∙ append_assoc a p q)

pub quoted_more : (cs : List ℕ) (c : ℕ) → quoted (cs ++ c ∷ []) ≡ quoted cs ++ quoted_char c
quoted_more [] c = append-nil (quoted_char c)
quoted_more (d ∷ cs) c = ap (λ x. quoted_char d ++ x) (quoted_more cs c)
    ∙ sym (append_assoc (quoted_char d) (quoted cs) (quoted_char c))

pub ranges_more : (rs : List Range) (r : Range) → ranges_text (rs ++ r ∷ []) ≡ ranges_text rs ++ range_text r.0 r.1
ranges_more [] r = append-nil (range_text r.0 r.1)
ranges_more (q ∷ rs) r = ap (λ x. range_text q.0 q.1 ++ x) (ranges_more rs r)
    ∙ sym (append_assoc (range_text q.0 q.1) (ranges_text rs) (range_text r.0 r.1))
