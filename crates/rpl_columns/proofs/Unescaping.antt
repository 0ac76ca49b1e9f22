-- A text that was spelled is read again.
use Rattle.std.proofs.Common.{◌≡◌, ℕ, List, [], ◌∷◌, ◌++◌, refl, sym, ap, ◌∙◌}
use Rattle.json.specs.Print.{escape, escape_byte}
use Rattle.rpl_columns.specs.Cells.{text_of}
use Rattle.rpl_columns.proofs.Shapes.{first_back}
use Rattle.rpl_columns.proofs.Texts.{text_none, text_step}

pub text_back : (text : List ℕ) → text_of (escape text) ≡ text
text_back [] = text_none [] refl
text_back (b ∷ text) =
    text_step (escape_byte b ++ escape text) b (escape text) (sym (first_back b (escape text)))
    ∙ ap (λ t. b ∷ t) (text_back text)
