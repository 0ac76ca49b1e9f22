-- The shapes of the addresses of a fragment, beside its code.
use Rattle.std.specs.Prelude.{ℕ, zero, suc, ◌+◌, ◌-◌, Bool, if◌then◌else◌, List, [], ◌∷◌, ◌++◌, length, Option, Some}
use Rattle.std.specs.Prelude.{None}
use Rattle.regex_class.specs.Ranges.{Range}
use Rattle.rpl_core.specs.Core.{Core, Set, Seq, Choice, Many, Not, And, Behind, Call, Capture, Note, Start, End, Halt}
use Rattle.rpl_core.specs.Core.{Cores, NoMore, Then}
use Rattle.rpl_core.specs.Head.{head, lone_set}
use Rattle.rpl_core.specs.Code.{Placed, code, size}
use Rattle.rpl_safe.specs.Safe.{Shape, fresh}

-- the shapes of a fragment, for the shape with which a run comes to it and the address where it starts
abbrev pub Shaped : Type 0
Shaped = Shape → ℕ → List Shape

-- an entry more
abbrev pub pushed : ℕ → Shape → Shape
pushed l s = record s { entries = record { address = l; trees = s.trees } ∷ s.entries }

-- a tree more
abbrev pub deeper : Shape → Shape
deeper s = record s { trees = suc s.trees }

-- choice L1; p; commit L2; L1: q; L2:
abbrev pub choice_shapes : Placed → Shaped → Shaped → Shaped
choice_shapes x p q s a =
    let l1 = a + 1 + length (x (a + 1)) + 1 in
    s ∷ (p (pushed l1 s) (a + 1) ++ pushed l1 s ∷ q s l1)

abbrev pub tested_shapes : Option (List Range) → Placed → Shaped → Shaped → Shaped
tested_shapes None x p q s a = choice_shapes x p q s a
tested_shapes (Some k) x p q s a = s ∷ choice_shapes x p q s (a + 1)

-- choice L; p; one instruction more; L:
abbrev pub body_shapes : Placed → Shaped → Shaped
body_shapes x p s a =
    let l = a + 1 + length (x (a + 1)) + 1 in
    s ∷ (p (pushed l s) (a + 1) ++ pushed l s ∷ [])

abbrev pub many_shapes : Option (List Range) → Placed → Shaped → Shaped
many_shapes (Some k) x p s a = s ∷ []
many_shapes None x p s a = body_shapes x p s a

abbrev pub not_shapes : Option (List Range) → Placed → Shaped → Shaped
not_shapes (Some k) x p s a = s ∷ s ∷ []
not_shapes None x p s a = body_shapes x p s a

abbrev pub and_shapes : Placed → Shaped → Shaped
and_shapes x p s a =
    let l = a + 1 + length (x (a + 1)) + 1 in
    s ∷ (p (pushed l s) (a + 1) ++ pushed l s ∷ s ∷ [])

abbrev pub lengths_shapes : Placed → Shaped → ℕ → Shaped
lengths_shapes x p zero s a = s ∷ []
lengths_shapes x p (suc n) s a =
    let next = a + 1 + 1 + length (x (a + 1 + 1)) + 1 in
    s ∷ pushed next s ∷ (p (pushed next s) (a + 1 + 1) ++ pushed next s ∷ lengths_shapes x p n s next)

abbrev pub capture_shapes : Shaped → Shaped
capture_shapes p s a = s ∷ (p (deeper s) (a + 1) ++ deeper s ∷ [])

abbrev mutual
  pub shapes_of : (ℕ → ℕ) → Core → Shaped
  shapes_of at (Set k) s a = s ∷ []
  shapes_of at (Seq ps) s a = shapes_all at ps s a
  shapes_of at (Choice ps) s a = shapes_first at ps s a
  shapes_of at (Many p) s a = many_shapes (lone_set p) (code at p) (shapes_of at p) s a
  shapes_of at (Not p) s a = not_shapes (lone_set p) (code at p) (shapes_of at p) s a
  shapes_of at (And p) s a = and_shapes (code at p) (shapes_of at p) s a
  shapes_of at (Behind l m p) s a = lengths_shapes (code at p) (shapes_of at p) (m + 1 - l) s a
  shapes_of at (Call r) s a = s ∷ []
  shapes_of at (Capture c p) s a = capture_shapes (shapes_of at p) s a
  shapes_of at (Note x) s a = s ∷ []
  shapes_of at Start s a = s ∷ []
  shapes_of at End s a = s ∷ []
  shapes_of at Halt s a = s ∷ []

  pub shapes_all : (ℕ → ℕ) → Cores → Shaped
  shapes_all at NoMore s a = []
  shapes_all at (Then p ps) s a = shapes_of at p s a ++ shapes_all at ps s (a + length (code at p a))

  pub shapes_first : (ℕ → ℕ) → Cores → Shaped
  shapes_first at NoMore s a = s ∷ []
  shapes_first at (Then p NoMore) s a = shapes_of at p s a
  shapes_first at (Then p (Then q ps)) s a =
      tested_shapes (head p) (code at p) (shapes_of at p) (shapes_first at (Then q ps)) s a

-- the shapes of the marked rules, each beside its code and its return
abbrev pub bodies_shapes : (ℕ → Bool) → (ℕ → ℕ) → List Core → ℕ → ℕ → List Shape
bodies_shapes marks at [] k a = []
bodies_shapes marks at (p ∷ ps) k a =
    if marks k then shapes_of at p (fresh a) a ++ fresh a ∷ bodies_shapes marks at ps (k + 1) (a + size p + 1)
    else bodies_shapes marks at ps (k + 1) a
