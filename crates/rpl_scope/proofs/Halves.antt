-- What is gathered of two halves of a block.
use Rattle.std.proofs.Common.{◌≡◌, List, [], ◌∷◌, ◌++◌, refl, sym, ap, ◌∙◌, append_assoc}
use Rattle.rpl_syntax.specs.Modules as S
use Rattle.rpl_scope.specs.Bodies.{names, uses}
use Rattle.rpl_scope.specs.Statements.{names_of, uses_of}

-- the names that two halves of a block mention are those of the first and then those of the second
pub names_append : (h v : List S.Rule) → names_of (h ++ v) ≡ names_of h ++ names_of v
names_append [] v = refl
names_append (b ∷ h) v = ap (λ x. names b.body ++ x) (names_append h v)
    ∙ sym (append_assoc (names b.body) (names_of h) (names_of v))

pub uses_append : (h v : List S.Rule) → uses_of (h ++ v) ≡ uses_of h ++ uses_of v
uses_append [] v = refl
uses_append (b ∷ h) v = ap (λ x. uses b.body ++ x) (uses_append h v)
    ∙ sym (append_assoc (uses b.body) (uses_of h) (uses_of v))
