-- Where tokens, faults and parts lie.
use Rattle.std.specs.Prelude.{◌≢◌, ℕ, ◌<◌, ◌≤◌}
use Rattle.rpl_lexer.specs.declared.bounds.Span.{Span}
use Rattle.rpl_lexer.specs.declared.fault.LexKind.TheVariants.{NoMemory}
use Rattle.rpl_lexer.specs.declared.front.Stand.{Stand}
use Rattle.rpl_lexer.specs.declared.front.Stand.TheVariants.{Found, Fault}

-- a token has at least one byte, and at most n; a fault stands before the end
abbrev pub Within : ℕ → Stand → Type 0
Within n (Found kind len) = (0 < len) × (len ≤ n)
Within n (Fault kind skip) = (skip < n) × (kind ≢ NoMemory)

-- the span lies within n bytes
pub record IsWithin (n : ℕ) (p : Span) : Type 0 where
  pub order : p.start ≤ p.end
  pub inside : p.end ≤ n
