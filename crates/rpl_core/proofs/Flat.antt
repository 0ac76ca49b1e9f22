-- The capture list determines the trees.
use Rattle.std.proofs.Common.{◌≡◌, List, [], ◌∷◌, ◌++◌, refl, sym, ap, ◌∙◌, subst, append_assoc}
use Rattle.rpl_core.specs.Forest.{Forest, NoTree, Tree, Noted, Caught, Begin, Finish, Mark, flat}
use Rattle.rpl_core.specs.Laws.{FlatLaw}

-- the list is empty or goes on with the end of a tree
abbrev Closes : List Caught → Type 0
Closes [] = Unit {0}
Closes (Begin c i ∷ cs) = ⊥
Closes (Finish j ∷ cs) = Unit {0}
Closes (Mark x i ∷ cs) = ⊥

-- Trees with such a rest after them can be told apart from the rest.
both_same : (f g : Forest) (r s : List Caught) → Closes r → Closes s → flat f ++ r ≡ flat g ++ s → (f ≡ g) × (r ≡ s)
both_same NoTree NoTree r s c d e = (refl, e)
both_same NoTree (Tree x i j g h) r s c d e = absurd (subst Closes e c)
both_same NoTree (Noted x i h) r s c d e = absurd (subst Closes e c)
both_same (Tree x i j f h) NoTree r s c d e = absurd (subst Closes (sym e) d)
both_same (Noted x i h) NoTree r s c d e = absurd (subst Closes (sym e) d)
both_same (Tree x i j f h) (Noted y k m) r s c d e = absurd (cc)
both_same (Noted x i h) (Tree y k l g m) r s c d e = absurd (cc)
both_same (Noted x i h) (Noted y k m) r s c d e =
    let label : x ≡ y = cc in
    let place : i ≡ k = cc in
    let tail : flat h ++ r ≡ flat m ++ s = cc in
    let rest = both_same h m r s c d tail in
    let trees : Noted x i h ≡ Noted y k m = cc in
    (trees, rest.1)
both_same (Tree x i j f h) (Tree y k l g m) r s c d e =
    let label : x ≡ y = cc in
    let start : i ≡ k = cc in
    let tail : (flat f ++ Finish j ∷ flat h) ++ r ≡ (flat g ++ Finish l ∷ flat m) ++ s = cc in
    let inside = sym (append_assoc (flat f) (Finish j ∷ flat h) r) ∙ tail
    ∙ append_assoc (flat g) (Finish l ∷ flat m) s in
    let subs = both_same f g (Finish j ∷ (flat h ++ r)) (Finish l ∷ (flat m ++ s)) tt tt inside in
    let e1 = subs.1 in
    let end : j ≡ l = cc in
    let behind : flat h ++ r ≡ flat m ++ s = cc in
    let rest = both_same h m r s c d behind in
    let trees : Tree x i j f h ≡ Tree y k l g m = cc (subs.0, rest.0) in
    (trees, rest.1)

pub flat_holds : FlatLaw
flat_holds f g e = (both_same f g [] [] tt tt (ap (λ cs. cs ++ []) e)).0
