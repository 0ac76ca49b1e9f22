-- What the tokens of a text say.
use Rattle.std.specs.Prelude.{ℕ, List, chars}
use Rattle.rpl_lexer.specs.declared.token.Token.{Token}
use Rattle.rpl_lexer.specs.declared.token.TokenKind.{TokenKind}
use Rattle.rpl_lexer.specs.declared.token.TokenKind.TheVariants as K
use Rattle.rpl_lexer.specs.declared.keyword.Keyword.{Keyword as Word}
use Rattle.rpl_lexer.specs.declared.punct.Punct.{Punct}
use Rattle.rpl_lexer.specs.declared.bounds.Bounds.{Bounds as Numbers}
use Rattle.rpl_lexer.specs.Payloads.{span, text_of, prefix_of, name_of, keyword_of, punct_of, number_of, bounds_of}

pub data Payload : Type 0 where
  Name : (name : List ℕ) → Payload
  Qualified : (prefix name : List ℕ) → Payload
  Keyword : (word : Word) → Payload
  Text : (text : List ℕ) → Payload
  Bracket : (text : List ℕ) → Payload
  Bounds : (bounds : Numbers) → Payload
  Number : (number : ℕ) → Payload
  Sign : (sign : Punct) → Payload

abbrev pub payload_by : TokenKind → List ℕ → Token → Payload
payload_by K.Name s t = Name (chars (span s t))
payload_by K.Qualified s t = Qualified (chars (prefix_of s t)) (chars (name_of s t))
payload_by K.Keyword s t = Keyword (keyword_of s t)
payload_by K.Text s t = Text (text_of s t)
payload_by K.Bracket s t = Bracket (chars (span s t))
payload_by K.Bounds s t = Bounds (bounds_of s t)
payload_by K.Number s t = Number (number_of s t)
payload_by K.Sign s t = Sign (punct_of s t)

abbrev pub payload : List ℕ → Token → Payload
payload s t = payload_by t.kind s t
