-- The captures of a forest.
use Rattle.std.proofs.Common.{◌≡◌, ◌+◌, List, [], ◌∷◌, ◌++◌, refl, ap, ◌∙◌, arith, append_assoc}
use Rattle.rpl_core.specs.Forest.{Forest, NoTree, Tree, Noted, joined, Caught, Begin, Finish, Mark, flat, begins}
use Rattle.rpl_core.specs.Forest.{finishes}

-- the list of joined trees is that of the first and then that of the second
pub flat_joined : (f g : Forest) → flat (joined f g) ≡ flat f ++ flat g
flat_joined NoTree g = refl
flat_joined (Tree c i j f r) g = ap (λ l. Begin c i ∷ (flat f ++ Finish j ∷ l)) (flat_joined r g) ∙ simp append_assoc
flat_joined (Noted x i r) g = ap (λ l. Mark x i ∷ l) (flat_joined r g)

-- the beginnings of two lists
pub begins_append : (a b : List Caught) → begins (a ++ b) ≡ begins a + begins b
begins_append [] b = omega arith
begins_append (Begin c i ∷ a) b = let h = begins_append a b in omega arith
begins_append (Finish i ∷ a) b = begins_append a b
begins_append (Mark x i ∷ a) b = begins_append a b

-- the ends of two lists
pub finishes_append : (a b : List Caught) → finishes (a ++ b) ≡ finishes a + finishes b
finishes_append [] b = omega arith
finishes_append (Begin c i ∷ a) b = finishes_append a b
finishes_append (Finish i ∷ a) b = let h = finishes_append a b in omega arith
finishes_append (Mark x i ∷ a) b = finishes_append a b

-- a forest closes what it opens
pub flat_balanced : (f : Forest) → begins (flat f) ≡ finishes (flat f)
flat_balanced NoTree = refl
flat_balanced (Tree c i j f r) =
    let h = flat_balanced f in let k = flat_balanced r in
    let b = begins_append (flat f) (Finish j ∷ flat r) in
    let e = finishes_append (flat f) (Finish j ∷ flat r) in
    omega arith
flat_balanced (Noted x i r) = flat_balanced r
