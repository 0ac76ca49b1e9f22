-- What a pattern's text is read as.
use Rattle.std.proofs.Common.{◌≡◌, ◌≢◌, ◌⊎◌, inl, inr, ℕ, List, Bool, false, refl, sym, ap, subst, ◌∙◌}
use Rattle.std.specs.Prelude.{Ok, Err}
use Rattle.rpl_lexer.specs.Cutting.{cut_of}
use Rattle.rpl_lexer.specs.declared.fault.LexFault.{LexFault}
use Rattle.rpl_lexer.specs.declared.fault.LexKind.TheVariants as X
use Rattle.rpl_lexer.specs.declared.token.Token.{Token}
use Rattle.rpl_parser.specs.Patterns.{IsPattern, IsPatternFault}
use Rattle.rpl_parser.specs.declared.fault.ParseFault.{ParseFault}
use Rattle.rpl_parser.specs.declared.fault.ParseKind.TheVariants as Y
use Rattle.rpl_syntax.specs.Expression.{Expr}
use Rattle.rpl_scope.specs.Faults.{Or, StopIs, IsStop, fault_at}
use Rattle.rpl_scope.specs.declared.fault.LoadKind.{LoadKind}
use Rattle.rpl_scope.specs.declared.fault.LoadKind.TheVariants.{Lex, Parse}
use Rattle.rpl_scope.specs.declared.fault.Stop.{Stop}
use Rattle.rpl_scope.specs.declared.fault.Stop.TheVariants.{Memory}
use Rattle.rpl_scope.proofs.Stops.{told}
use Rattle.rpl_package.specs.inside.Reading.{IsLoud}
use Rattle.rpl_package.proofs.Causes.{told_loud}
use Rattle.rpl_names.specs.Goals.{ReadsTokens, ReadsCut, ReadsText, pattern_file, sought}
use Rattle.rpl_package.proofs.Readings.{lex_memory, parse_memory}

module _ (find : Bool) (s : List ℕ) (stop : Stop) (f : List ℕ) (here : f ≡ pattern_file) where
  told_there : (r : Or Expr) (at : ℕ) (k : LoadKind) → StopIs {A = Expr} stop (Err (fault_at f at k))
      → r ≡ Err (fault_at pattern_file at k) → StopIs stop r
  told_there r at k h is = subst (StopIs stop) (ap (λ g. Err (fault_at g at k)) here ∙ sym is) h

  by_lex : (e : LexFault) (r : Or Expr) → (e.kind ≡ X.NoMemory) ⊎ (e.kind ≢ X.NoMemory)
      → (e.kind ≢ X.NoMemory → cut_of s ≡ Err e)
      → (e.kind ≢ X.NoMemory → IsStop stop (fault_at f e.at (Lex e.kind))) → (e.kind ≡ X.NoMemory → stop ≡ Memory)
      → ReadsText false find s r → StopIs stop r
  by_lex e r (inl m) cut is memory h = subst (λ x. StopIs x r) (sym (memory m)) tt
  by_lex e r (inr n) cut is memory h =
      told_there r e.at (Lex e.kind) (told _ stop _ (is n) refl) (subst (λ c. ReadsCut find s c r) (cut n) h)

  pub no_tokens : (e : LexFault) (r : Or Expr) → (e.kind ≢ X.NoMemory → cut_of s ≡ Err e)
      → (e.kind ≢ X.NoMemory → IsStop stop (fault_at f e.at (Lex e.kind))) → (e.kind ≡ X.NoMemory → stop ≡ Memory)
      → ReadsText false find s r → StopIs stop r
  no_tokens e r cut is memory h = by_lex e r (lex_memory e.kind) cut is memory h

module _ (find : Bool) (s : List ℕ) (ts : List Token) (cut : cut_of s ≡ Ok ts) where
  module _ (stop : Stop) (f : List ℕ) (here : f ≡ pattern_file) (e : ParseFault)
      (apart : (x : Expr) → IsPattern s ts x → IsPatternFault s ts e → ⊥) (first : (p : ParseFault)
      → IsPatternFault s ts p → IsPatternFault s ts e → p ≡ e) where
    by_tokens : (r : Or Expr) → IsPatternFault s ts e → IsStop stop (fault_at f e.at (Parse e.kind))
        → ReadsTokens find s ts r → StopIs stop r
    by_tokens (Ok x) fault is h = absurd (apart h.0 h.1 fault)
    by_tokens (Err g) fault is h =
        told_there find s stop f here (Err g) e.at (Parse e.kind) (told _ stop _ is refl)
        (h.2 ∙ ap (λ p. Err (fault_at pattern_file p.at (Parse p.kind))) (first h.0 h.1 fault))

    by_parse : (r : Or Expr) → (e.kind ≡ Y.NoMemory) ⊎ (e.kind ≢ Y.NoMemory)
        → (e.kind ≢ Y.NoMemory → IsPatternFault s ts e)
        → (e.kind ≢ Y.NoMemory → IsStop stop (fault_at f e.at (Parse e.kind))) → (e.kind ≡ Y.NoMemory → stop ≡ Memory)
        → ReadsText false find s r → StopIs stop r
    by_parse r (inl m) fault is memory h = subst (λ x. StopIs x r) (sym (memory m)) tt
    by_parse r (inr n) fault is memory h = by_tokens r (fault n) (is n) (subst (λ c. ReadsCut find s c r) cut h)

    pub no_pattern : (r : Or Expr) → (e.kind ≢ Y.NoMemory → IsPatternFault s ts e)
        → (e.kind ≢ Y.NoMemory → IsStop stop (fault_at f e.at (Parse e.kind))) → (e.kind ≡ Y.NoMemory → stop ≡ Memory)
        → ReadsText false find s r → StopIs stop r
    no_pattern r fault is memory h = by_parse r (parse_memory e.kind) fault is memory h

  module _ (x : Expr) (is : IsPattern s ts x) (apart : (p : ParseFault) → IsPattern s ts x → IsPatternFault s ts p
      → ⊥) (only : (y : Expr) → IsPattern s ts y → IsPattern s ts x → y ≡ x) where
    read_tokens : (r : Or Expr) → ReadsTokens find s ts r → r ≡ Ok (sought find x)
    read_tokens (Ok e) h = ap Ok (h.2 ∙ ap (sought find) (only h.0 h.1 is))
    read_tokens (Err g) h = absurd (apart h.0 is h.1)

    pub read_pattern : (r : Or Expr) → ReadsText false find s r → r ≡ Ok (sought find x)
    read_pattern r h = read_tokens r (subst (λ c. ReadsCut find s c r) cut h)

    -- and such an expression is what the text is read as
    pub reads_pattern : (e : Expr) → e ≡ sought find x → ReadsText false find s (Ok e)
    reads_pattern e h = subst (λ c. ReadsCut find s c (Ok e)) (sym cut) (x, is, h)

-- ---- such a stop is no failed read

lex_loud_by : (s : Stop) (f : List ℕ) (e : LexFault) → (e.kind ≡ X.NoMemory) ⊎ (e.kind ≢ X.NoMemory)
    → (e.kind ≢ X.NoMemory → IsStop s (fault_at f e.at (Lex e.kind))) → (e.kind ≡ X.NoMemory → s ≡ Memory) → IsLoud s
lex_loud_by s f e (inl m) is memory = subst IsLoud (sym (memory m)) tt
lex_loud_by s f e (inr n) is memory = told_loud s _ (is n) refl

pub lex_loud : (s : Stop) (f : List ℕ) (e : LexFault) → (e.kind ≢ X.NoMemory → IsStop s (fault_at f e.at (Lex e.kind)))
    → (e.kind ≡ X.NoMemory → s ≡ Memory) → IsLoud s
lex_loud s f e is memory = lex_loud_by s f e (lex_memory e.kind) is memory

parse_loud_by : (s : Stop) (f : List ℕ) (e : ParseFault) → (e.kind ≡ Y.NoMemory) ⊎ (e.kind ≢ Y.NoMemory)
    → (e.kind ≢ Y.NoMemory → IsStop s (fault_at f e.at (Parse e.kind))) → (e.kind ≡ Y.NoMemory → s ≡ Memory) → IsLoud s
parse_loud_by s f e (inl m) is memory = subst IsLoud (sym (memory m)) tt
parse_loud_by s f e (inr n) is memory = told_loud s _ (is n) refl

pub parse_loud : (s : Stop) (f : List ℕ) (e : ParseFault)
    → (e.kind ≢ Y.NoMemory → IsStop s (fault_at f e.at (Parse e.kind))) → (e.kind ≡ Y.NoMemory → s ≡ Memory) → IsLoud s
parse_loud s f e is memory = parse_loud_by s f e (parse_memory e.kind) is memory
