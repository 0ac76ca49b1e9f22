-- A capture list writes out the trees that it is the list of.
use Rattle.std.proofs.Common.{◌≡◌, List, [], ◌∷◌, ◌++◌, refl, sym, ap, ◌∙◌, append_assoc}
use Rattle.std.proofs.lemmas.List.{append-nil}
use Rattle.rpl_core.specs.Forest.{Caught, Begin, Finish, Mark, Forest, NoTree, Tree, Noted, flat, joined}
use Rattle.rosie_jobs.specs.Written.{Behind, before, begun, behind, written}
use Rattle.rosie_jobs.specs.Laws.{WrittenLaw}

joined_none : (f : Forest) → joined f NoTree ≡ f
joined_none NoTree = refl
joined_none (Tree c i j f r) = ap (Tree c i j f) (joined_none r)
joined_none (Noted x i r) = ap (Noted x i) (joined_none r)

-- the trees, and then what comes after them
abbrev put : Forest → Behind → Behind
put f b = record { here = joined f b.here; around = b.around }

read_on : (f : Forest) (cs : List Caught) → behind (flat f ++ cs) ≡ put f (behind cs)
read_on NoTree cs = refl
read_on (Tree c i j f r) cs =
    ap (λ l. before (Begin c i) (behind l)) (append_assoc (flat f) (Finish j ∷ flat r) cs)
    ∙ ap (before (Begin c i)) (read_on f (Finish j ∷ (flat r ++ cs)))
    ∙ ap (λ b. begun c i (joined f NoTree) ((j, b.here) ∷ b.around)) (read_on r cs)
    ∙ ap (λ g. begun c i g ((j, joined r (behind cs).here) ∷ (behind cs).around)) (joined_none f)
read_on (Noted x i r) cs = ap (before (Mark x i)) (read_on r cs)

pub written_holds : WrittenLaw
written_holds f =
    ap written (sym (append-nil (flat f))) ∙ ap (λ b. b.here) (read_on f []) ∙ joined_none f
