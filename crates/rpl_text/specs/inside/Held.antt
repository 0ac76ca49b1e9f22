-- The characters that a text holds.
use Rattle.std.specs.Prelude.{ℕ, List, [], chars, string_bytes}
use Rattle.rpl_text.specs.declared.chars.Held.{Held}
use Rattle.rpl_text.specs.declared.chars.Held.TheVariants.{Nothing, Shared}

-- none, or those of the string that is shared
abbrev pub held : Held → List ℕ
held Nothing = []
held (Shared text) = chars (string_bytes text.value)
