-- A text cut into tokens, up to its end or to its first fault.
use Rattle.std.specs.Prelude.{◌≡◌, ℕ, ◌+◌, ◌-◌, ◌<◌, ◌≤◌, false, List, [], ◌∷◌, length, drop}
use Rattle.rpl_lexer.specs.declared.token.Token.{Token}
use Rattle.rpl_lexer.specs.declared.fault.LexKind.{LexKind}
use Rattle.rpl_lexer.specs.declared.fault.LexKind.TheVariants.{TooManyTokens}
use Rattle.rpl_lexer.specs.declared.front.Stand.{Stand}
use Rattle.rpl_lexer.specs.declared.front.Stand.TheVariants.{Found, Fault}
use Rattle.rpl_lexer.specs.Gaps.{gap}
use Rattle.rpl_lexer.specs.Fronts.{stands}

-- how a cut goes on: the text is done, or it fails at a place
pub data End : Type 0 where
  Done : End
  Fails : (at : ℕ) (kind : LexKind) → End

-- where what follows the place p begins, after blanks and comments
abbrev pub start : List ℕ → ℕ → ℕ
start s p = p + gap false (drop p s)

-- what stands at the place i is the fault of a text with n tokens before it: at most 262144 are allowed
abbrev pub IsFault : (n i : ℕ) → Stand → (at : ℕ) → LexKind → Type 0
IsFault n i (Found k len) at kind = (n ≡ 262144) × (at ≡ i) × (kind ≡ TooManyTokens)
IsFault n i (Fault k skip) at kind = (at ≡ i + skip) × (kind ≡ k)

-- t is a token of the text at its span
pub record IsToken (s : List ℕ) (t : Token) : Type 0 where
  pub forward : t.start < t.end
  pub inside : t.end ≤ length s
  pub stands : stands (drop t.start s) ≡ Found t.kind (t.end - t.start)

-- the token t is the next one after the place p, as one of at most 262144
pub record Next (s : List ℕ) (p n : ℕ) (t : Token) : Type 0 where
  pub few : n < 262144
  pub begins : t.start ≡ start s p
  pub token : IsToken s t

-- after the place p, with n tokens before it, the text consists of these tokens and then ends in this way
abbrev pub Chain : List ℕ → (p n : ℕ) → List Token → End → Type 0
Chain s p n [] Done = start s p ≡ length s
Chain s p n [] (Fails at kind) = (start s p < length s) × IsFault n (start s p) (stands (drop (start s p) s)) at kind
Chain s p n (t ∷ ts) e = Next s p n t × Chain s t.end (n + 1) ts e

-- the text consists of these tokens, with blanks and comments between them
abbrev pub IsCut : List ℕ → List Token → Type 0
IsCut s ts = Chain s 0 0 ts Done

-- the first fault of the text is at this place
abbrev pub FailsAt : List ℕ → ℕ → LexKind → Type 0
FailsAt s at kind = (ts : List Token) × Chain s 0 0 ts (Fails at kind)
