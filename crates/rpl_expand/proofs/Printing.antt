-- The printed text of some cores, one after the other.
use Rattle.std.proofs.Common.{◌≡◌, ℕ, ◌+◌, ◌<◌, List, [], ◌∷◌, ◌++◌, length, take, get_or, sym, ap, ◌∙◌}
use Rattle.std.proofs.lemmas.List.{append_assoc, append-nil, take_more}
use Rattle.rpl_core.specs.declared.peg.Peg.{Peg}
use Rattle.rpl_core.specs.View.{core_of, cores}
use Rattle.rpl_expand.specs.Printed.{printed, printed_all}

printed_last : (names : List (List ℕ)) (xs : List Peg) (p : Peg)
    → printed_all names (cores (xs ++ p ∷ [])) ≡ printed_all names (cores xs) ++ (32 ∷ printed names (core_of p))
printed_last names [] p = ap (λ l. 32 ∷ l) (append-nil (printed names (core_of p)))
printed_last names (x ∷ xs) p =
    ap (λ l. 32 ∷ (printed names (core_of x) ++ l)) (printed_last names xs p)
    ∙ ap (λ l. 32 ∷ l) (sym (append_assoc (printed names (core_of x)) (printed_all names (cores xs))
    (32 ∷ printed names (core_of p))))

-- one more
pub printed_more : (names : List (List ℕ)) (ps : List Peg) (k : ℕ) (p : Peg) → k < length ps → p ≡ get_or ps k p
    → printed_all names (cores (take (k + 1) ps))
    ≡ printed_all names (cores (take k ps)) ++ (32 ∷ printed names (core_of p))
printed_more names ps k p lt is =
    ap (λ l. printed_all names (cores l)) (take_more ps k p lt)
    ∙ printed_last names (take k ps) (get_or ps k p)
    ∙ ap (λ q. printed_all names (cores (take k ps)) ++ (32 ∷ printed names (core_of q))) (sym is)

-- what was written before, a space and one more
pub turn : (first before out one new more all : List ℕ) → out ≡ first ++ before → one ≡ out ++ 32 ∷ []
    → new ≡ one ++ more → all ≡ before ++ (32 ∷ more) → new ≡ first ++ all
turn first before out one new more all e f g h =
    g ∙ ap (λ l. l ++ more) (f ∙ ap (λ l. l ++ 32 ∷ []) e) ∙ (simp append_assoc) ∙ ap (λ l. first ++ l) (sym h)
