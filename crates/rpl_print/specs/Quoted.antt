-- How a text stands in JSON (RFC 8259, section 7): as `serde_json` writes a string.
use Rattle.std.specs.Prelude.{ℕ, Bool, true, ◌&&◌, not, nat_eq, nat_le, List, [], ◌∷◌}
use Rattle.serde_json.specs.Data.{string}
use Rattle.serde_json.specs.Written.{compact_text}

-- the bytes of the text in quotes, with an escape for each byte that must have one
abbrev pub quoted : List ℕ → List ℕ
quoted text = compact_text (string text)

-- the byte is no control, no quote and no backslash
abbrev pub is_plain_byte : ℕ → Bool
is_plain_byte byte = nat_le 0x20 byte && (not (nat_eq byte 34) && not (nat_eq byte 92))

-- all bytes of the text are plain
abbrev pub is_plain : List ℕ → Bool
is_plain [] = true
is_plain (byte ∷ bytes) = is_plain_byte byte && is_plain bytes
