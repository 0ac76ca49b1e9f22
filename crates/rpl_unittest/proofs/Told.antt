-- What the words of a comment tell.
use Rattle.std.proofs.Common.{◌≡◌, ℕ, Bool, true, false, List, map, Option, Some, None, refl, subst, inl, inr}
use Rattle.std.specs.Prelude.{Result, Ok, Err, IfOk}
use Rattle.rpl_lexer.specs.Cut.{FailsAt, IsCut}
use Rattle.rpl_lexer.specs.Cutting.{cut_of}
use Rattle.rpl_lexer.specs.declared.token.Token.{Token}
use Rattle.rpl_lexer.specs.declared.fault.LexFault.{LexFault}
use Rattle.rpl_lexer.specs.declared.fault.LexKind.{LexKind}
use Rattle.rpl_lexer.proofs.Computing.{cuts, fails}
use Rattle.rpl_unittest.specs.Comments as S
use Rattle.rpl_unittest.specs.Comments.{Reading, reading_of, reading_in, word_in}
use Rattle.rpl_unittest.specs.inside.Words.{tests_said, Adds, Tells}
use Rattle.rpl_unittest.specs.declared.test.Test.{Test}

told_by : (n : ℕ) (rest : List ℕ) (ts : List Token) (old new : List Test) (done : Bool) (o : Option Reading) →
    cut_of rest ≡ Ok ts → reading_in rest ts ≡ o → Adds old new (tests_said n o) done → Tells n rest old new done
told_by n rest ts old new true None cut e h = absurd (cc)
told_by n rest ts old new false None cut e h = inr (ts, cut, e)
told_by n rest ts old new true (Some r) cut e h = (S.tests_by n r, (ts, r, cut, e, refl), h.1)
told_by n rest ts old new false (Some r) cut e h = absurd (cc)

pub told : {E : Type 0} (n : ℕ) (rest : List ℕ) (ts : List Token) (old new : List Test) (r : Result Bool E)
    (ws : List S.Word) → IsCut rest ts → ws ≡ map (word_in rest) ts → IfOk r
    (λ done. Adds old new (tests_said n (reading_of ws)) done) → IfOk r (λ done. Tells n rest old new done)
told n rest ts old new (Ok done) ws cut e h =
    told_by n rest ts old new done (reading_in rest ts) (cuts rest ts cut) refl
    (subst (λ x. Adds old new (tests_said n (reading_of x)) done) e h)
told n rest ts old new (Err x) ws cut e h = tt

-- a comment whose text has no tokens is bad
pub failed : (n : ℕ) (rest : List ℕ) (old new : List Test) (at : ℕ) (kind : LexKind) → FailsAt rest at kind
    → Tells n rest old new false
failed n rest old new at kind h =
    let fault : LexFault = record { at = at; kind = kind } in inl (fault, fails rest fault h)
