-- Tokens are seen one by one.
use Rattle.std.proofs.Common.{◌≡◌, ℕ, suc, ◌+◌, ◌<◌, ◌≤◌, List, [], ◌∷◌, ◌++◌, length, get_or, drop, Option, Some, None}
use Rattle.std.proofs.Common.{refl, sym, ap, ◌∙◌, arith}
use Rattle.std.proofs.Math.Seq.{drop-cons}
use Rattle.std.proofs.Math.ListN.{drop_of_length-le}
use Rattle.std.specs.Option.{option_or}
use Rattle.rpl_lexer.specs.declared.token.Token.{Token}
use Rattle.rpl_parser.specs.Tokens.{token_by, tokens_of, fault_by, first_bad}
use Rattle.rpl_parser.specs.declared.fault.ParseFault.{ParseFault}

pub tokens_more : (s : List ℕ) (ts : List Token) (t : Token) → tokens_of s (ts ++ t ∷ []) ≡ tokens_of s ts
    ++ token_by t.kind s t ∷ []
tokens_more s [] t = refl
tokens_more s (u ∷ ts) t = ap (λ x. token_by u.kind s u ∷ x) (tokens_more s ts t)

at_cons : (ts : List Token) (i : ℕ) (d : Token) → i < length ts → drop i ts ≡ get_or ts i d ∷ drop (i + 1) ts
at_cons ts i d lt = let k : suc i ≡ i + 1 = omega arith in drop-cons ts i d lt ∙ ap (λ j. get_or ts i d ∷ drop j ts) k

then_then : (a b c : Option ParseFault) → option_or (option_or a b) c ≡ option_or a (option_or b c)
then_then (Some f) b c = refl
then_then None b c = refl

-- one token more, and what is bad so far
pub bad_more : (s : List ℕ) (ts : List Token) (i : ℕ) (d : Token) (b f : Option ParseFault) → i < length ts
    → f ≡ fault_by (get_or ts i d).kind s (get_or ts i d) → option_or (option_or b f) (first_bad s (drop (i + 1) ts))
    ≡ option_or b (first_bad s (drop i ts))
bad_more s ts i d b f lt e =
    then_then b f (first_bad s (drop (i + 1) ts))
    ∙ (ap (λ g. option_or b (option_or g (first_bad s (drop (i + 1) ts)))) e
    ∙ ap (λ us. option_or b (first_bad s us)) (sym (at_cons ts i d lt)))

then_none : (b : Option ParseFault) → option_or b None ≡ b
then_none (Some f) = refl
then_none None = refl

pub bad_all : (s : List ℕ) (ts : List Token) (i : ℕ) (b : Option ParseFault) → length ts ≤ i
    → option_or b (first_bad s (drop i ts)) ≡ b
bad_all s ts i b le = ap (λ us. option_or b (first_bad s us)) (drop_of_length-le ts le) ∙ then_none b
