-- A text as the list of its characters.
use Rattle.std.specs.Prelude.{ℕ, List, chars}
use Rattle.rpl_text.specs.declared.text.Text.{Text}

-- the characters of the line
abbrev pub text_of : Text → List ℕ
text_of t = chars t.line.now
