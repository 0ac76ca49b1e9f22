-- What a text is read as.
use Rattle.std.proofs.Common.{◌⊎◌, inl, inr, ◌≡◌, ◌≢◌, ◌<◌, ◌≤◌, ℕ, List, length, sym, ap, subst, ◌∙◌, refl, true}
use Rattle.std.proofs.Common.{false, arith}
use Rattle.std.specs.Prelude.{nat_lt, if◌then◌else◌, Ok, Err, IsUtf8}
use Rattle.std.specs.Str.{is_utf8}
use Rattle.std.proofs.lemmas.Bool.Decides.{nat_tests}
use Rattle.std.proofs.lemmas.Str.{is_utf8-from_IsUtf8}
use Rattle.rpl_lexer.specs.Cutting.{cut_of}
use Rattle.rpl_lexer.specs.declared.fault.LexFault.{LexFault}
use Rattle.rpl_lexer.specs.declared.fault.LexKind.{LexKind}
use Rattle.rpl_lexer.specs.declared.fault.LexKind.TheVariants as X
use Rattle.rpl_lexer.specs.declared.token.Token.{Token}
use Rattle.rpl_parser.specs.Walks.{module_of}
use Rattle.rpl_parser.specs.declared.fault.ParseFault.{ParseFault}
use Rattle.rpl_parser.specs.declared.fault.ParseKind.{ParseKind}
use Rattle.rpl_parser.specs.declared.fault.ParseKind.TheVariants as Y
use Rattle.rpl_scope.specs.Faults.{StopIs, IsStop, fault_at, fault}
use Rattle.rpl_names.specs.Texts.{of_cut, of_parse, parsed, module_text, max_text_bytes}
use Rattle.rpl_scope.specs.declared.fault.LoadKind.TheVariants.{Lex, Parse, FileTooLong, NotText}
use Rattle.rpl_scope.specs.declared.fault.Stop.{Stop}
use Rattle.rpl_scope.specs.declared.fault.Stop.TheVariants.{Memory}
use Rattle.rpl_scope.proofs.Stops.{told}

pub lex_memory : (k : LexKind) → (k ≡ X.NoMemory) ⊎ (k ≢ X.NoMemory)
lex_memory X.NoMemory = inl refl
lex_memory _ = inr (λ e. absurd (cc))

pub parse_memory : (k : ParseKind) → (k ≡ Y.NoMemory) ⊎ (k ≢ Y.NoMemory)
parse_memory Y.NoMemory = inl refl
parse_memory _ = inr (λ e. absurd (cc))

by_lex : (s : Stop) (f text : List ℕ) (e : LexFault) → (e.kind ≡ X.NoMemory) ⊎ (e.kind ≢ X.NoMemory)
    → (e.kind ≢ X.NoMemory → cut_of text ≡ Err e) → (e.kind ≢ X.NoMemory → IsStop s (fault_at f e.at (Lex e.kind)))
    → (e.kind ≡ X.NoMemory → s ≡ Memory) → StopIs s (parsed f text)
by_lex s f text e (inl m) cut stop memory = subst (λ x. StopIs x (parsed f text)) (sym (memory m)) tt
by_lex s f text e (inr n) cut stop memory =
    subst (StopIs s) (sym (ap (of_cut f (module_of text)) (cut n))) (told _ s _ (stop n) refl)

pub no_tokens : (s : Stop) (f text : List ℕ) (e : LexFault) → (e.kind ≢ X.NoMemory → cut_of text ≡ Err e)
    → (e.kind ≢ X.NoMemory → IsStop s (fault_at f e.at (Lex e.kind))) → (e.kind ≡ X.NoMemory → s ≡ Memory)
    → StopIs s (parsed f text)
no_tokens s f text e cut stop memory = by_lex s f text e (lex_memory e.kind) cut stop memory

by_parse : (s : Stop) (f text : List ℕ) (ts : List Token) (e : ParseFault) → (e.kind ≡ Y.NoMemory)
    ⊎ (e.kind ≢ Y.NoMemory) → cut_of text ≡ Ok ts → (e.kind ≢ Y.NoMemory → module_of text ts ≡ Err e)
    → (e.kind ≢ Y.NoMemory → IsStop s (fault_at f e.at (Parse e.kind))) → (e.kind ≡ Y.NoMemory → s ≡ Memory)
    → StopIs s (parsed f text)
by_parse s f text ts e (inl m) cut read stop memory = subst (λ x. StopIs x (parsed f text)) (sym (memory m)) tt
by_parse s f text ts e (inr n) cut read stop memory =
    subst (StopIs s) (sym (ap (of_cut f (module_of text)) cut ∙ ap (of_parse f) (read n))) (told _ s _ (stop n) refl)

pub no_module : (s : Stop) (f text : List ℕ) (ts : List Token) (e : ParseFault) → cut_of text ≡ Ok ts
    → (e.kind ≢ Y.NoMemory → module_of text ts ≡ Err e)
    → (e.kind ≢ Y.NoMemory → IsStop s (fault_at f e.at (Parse e.kind))) → (e.kind ≡ Y.NoMemory → s ≡ Memory)
    → StopIs s (parsed f text)
no_module s f text ts e cut read stop memory = by_parse s f text ts e (parse_memory e.kind) cut read stop memory

-- a text that isn't too long, and is one
pub is_parsed : (f bytes : List ℕ) → length bytes ≤ max_text_bytes → IsUtf8 bytes → parsed f bytes ≡ module_text f bytes
is_parsed f bytes le u =
    let short : nat_lt 1048576 (length bytes) ≡ false = grind (arith, nat_tests, le) in
    let text = is_utf8-from_IsUtf8 bytes u in
    sym (ap (λ b. if b then fault f 0 FileTooLong else (if is_utf8 bytes then parsed f bytes else fault f 0 NotText))
    short ∙ ap (λ b. if b then parsed f bytes else fault f 0 NotText) text)

pub too_long : (f bytes : List ℕ) → max_text_bytes < length bytes → module_text f bytes ≡ fault f 0 FileTooLong
too_long f bytes lt =
    let long : nat_lt 1048576 (length bytes) ≡ true = grind (arith, nat_tests, lt) in
    ap (λ b. if b then fault f 0 FileTooLong else (if is_utf8 bytes then parsed f bytes else fault f 0 NotText)) long
