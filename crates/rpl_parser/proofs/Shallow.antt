-- What is answered for tokens that are not nested too deep.
use Rattle.std.proofs.Common.{◌≡◌, ◌≢◌, ℕ, List, Option, Some, None, Result, refl, sym, subst}
use Rattle.std.specs.Prelude.{IfOk, IfErr}
use Rattle.rpl_lexer.specs.declared.token.Token.{Token as Lexeme}
use Rattle.rpl_syntax.specs.Reading.{read}
use Rattle.rpl_syntax.specs.View.{expr_of}
use Rattle.rpl_syntax.specs.declared.expr.Expr.{Expr}
use Rattle.rpl_parser.specs.inside.Gives.{Fails}
use Rattle.rpl_parser.specs.Levels.{ground_level, too_deep}
use Rattle.rpl_parser.specs.Patterns.{IsPattern, IsPatternFault}
use Rattle.rpl_parser.specs.Tokens.{tokens_of, first_place, first_bad}
use Rattle.rpl_parser.specs.Walks.{by_bad}
use Rattle.rpl_parser.specs.declared.fault.ParseFault.{ParseFault}
use Rattle.rpl_parser.specs.declared.fault.ParseKind.TheVariants.{NoMemory}
use Rattle.rpl_parser.specs.declared.refusal.Refusal.{Refusal}
use Rattle.rpl_parser.specs.declared.refusal.Refusal.TheVariants.{Memory, Syntax}
use Rattle.rpl_parser.specs.inside.Refusals.{fault_at}
use Rattle.rpl_parser.proofs.Faults.{bad_fault, no_memory}

-- the three clauses of a reading
pub record Answered (s : List ℕ) (ts : List Lexeme) (r : Result Expr ParseFault) : Type 0 where
  pub ok : IfOk r (λ x. IsPattern s ts (expr_of x))
  pub err : IfErr r (λ f. f.kind ≢ NoMemory → IsPatternFault s ts f)
  pub memory : IfErr r (λ f. f.kind ≡ NoMemory → f.at ≡ 0)

answered : (s : List ℕ) (ts : List Lexeme) (x : Expr) (o : Option ParseFault) → too_deep s ground_level ts ≡ None
    → read (tokens_of s ts) ≡ Some (expr_of x) → first_bad s ts ≡ o → Answered s ts (by_bad x o)
answered s ts x None d r e = record { ok = record { shallow = d; reads = r; good = e }; err = tt; memory = tt }
answered s ts x (Some f) d r e = record {
  ok = tt;
  err = λ _. bad_fault s ts f (expr_of x) d r e;
  memory = λ h. absurd (no_memory s ts f e h);
}

pub read_answered : (s : List ℕ) (ts : List Lexeme) (x : Expr) (o : Option ParseFault) (r : Result Expr ParseFault)
    → too_deep s ground_level ts ≡ None → read (tokens_of s ts) ≡ Some (expr_of x) → o ≡ first_bad s ts → r ≡ by_bad x o
    → Answered s ts r
read_answered s ts x o r d e b h =
    subst (Answered s ts) (sym h) (answered s ts x o d e (sym b))

-- the fault of tokens that are refused
pub refused : (s : List ℕ) (ts : List Lexeme) (e : Refusal) (at : ℕ) → too_deep s ground_level ts ≡ None
    → Fails e (read (tokens_of s ts)) → at ≡ first_place ts → (fault_at e at).kind ≢ NoMemory
    → IsPatternFault s ts (fault_at e at)
refused s ts Memory at d h a ne = absurd (ne refl)
refused s ts Syntax at d h a ne = (d, h, a)
