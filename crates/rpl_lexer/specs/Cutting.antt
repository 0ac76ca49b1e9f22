-- The cut of a text as a function, for definitions that go on from the tokens of a text. The law `cut_computes` says
-- that it gives just the tokens of `IsCut`, and else just the first fault.
use Rattle.std.specs.Prelude.{ℕ, zero, suc, ◌+◌, nat_eq, if◌then◌else◌, List, [], ◌∷◌, length, drop, Result, Ok, Err}
use Rattle.rpl_lexer.specs.Cut.{start}
use Rattle.rpl_lexer.specs.Fronts.{stands}
use Rattle.rpl_lexer.specs.declared.fault.LexFault.{LexFault}
use Rattle.rpl_lexer.specs.declared.fault.LexKind.TheVariants.{TooManyTokens}
use Rattle.rpl_lexer.specs.declared.front.Stand.{Stand}
use Rattle.rpl_lexer.specs.declared.front.Stand.TheVariants.{Found, Fault}
use Rattle.rpl_lexer.specs.declared.token.Token.{Token}

abbrev pub put_first : Token → Result (List Token) LexFault → Result (List Token) LexFault
put_first t (Ok ts) = Ok (t ∷ ts)
put_first t (Err e) = Err e

-- what stands at the place i, after n tokens, and then the rest
abbrev pub cut_by : (ℕ → ℕ → Result (List Token) LexFault) → (i n : ℕ) → Stand → Result (List Token) LexFault
cut_by rest i n (Fault k skip) = Err (record { at = i + skip; kind = k })
cut_by rest i n (Found k len) =
    if nat_eq n 262144 then Err (record { at = i; kind = TooManyTokens })
    else put_first (record { kind = k; start = i; end = i + len }) (rest (i + len) (n + 1))

-- after the place p, with n tokens before it; fewer than d follow
abbrev pub cut_from : (d : ℕ) → List ℕ → (p n : ℕ) → Result (List Token) LexFault
cut_from zero s p n = Ok []
cut_from (suc d) s p n =
    if nat_eq (start s p) (length s) then Ok []
    else cut_by (cut_from d s) (start s p) n (stands (drop (start s p) s))

-- the tokens of a text, or its first fault
abbrev pub cut_of : List ℕ → Result (List Token) LexFault
cut_of s = cut_from (suc (length s)) s 0 0
