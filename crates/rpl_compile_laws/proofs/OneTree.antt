-- A match of a capture has one tree.
use Rattle.std.proofs.Common.{◌≡◌, ℕ, zero, suc, List, Some, refl, sym, subst}
use Rattle.std.specs.Prelude.{slice_get}
use Rattle.rpl_core.specs.Core.{Core, Call, Capture}
use Rattle.rpl_core.specs.Forest.{Forest, NoTree, Tree}
use Rattle.rpl_core.specs.Meaning.{Outcome, Open, Fail, At, HaltAt, more, under, called, no_depth, level, peg}
use Rattle.rpl_core.specs.Outcome.{depth, as_match}
use Rattle.rpl_compile_laws.specs.Laws.{IsCapture, itself, by_call, OneTreeLaw}

-- the trees of a match are one tree
abbrev HasOneTree : List ℕ → Outcome → Type 0
HasOneTree c Open = Unit {0}
HasOneTree c (Fail w) = Unit {0}
HasOneTree c (At w j f) = (subs : Forest) × (f ≡ Tree c 0 j subs NoTree)
HasOneTree c (HaltAt w j f) = (subs : Forest) × (f ≡ Tree c 0 j subs NoTree)

-- a capture's are
under_one : (c : List ℕ) (o : Outcome) → HasOneTree c (under c 0 o)
under_one c Open = tt
under_one c (Fail w) = tt
under_one c (At w j f) = (f, refl)
under_one c (HaltAt w j f) = (f, refl)

-- more work leaves them
more_one : (c : List ℕ) (v : ℕ) (o : Outcome) → HasOneTree c o → HasOneTree c (more v o)
more_one c v Open h = tt
more_one c v (Fail w) h = tt
more_one c v (At w j f) h = h
more_one c v (HaltAt w j f) h = h

-- so are they of a capture at every depth
captured : (n : ℕ) (R : List Core) (t : List ℕ) (c : List ℕ) (p : Core) → HasOneTree c (peg n R t (Capture c p) 0)
captured zero R t c p = under_one c (level no_depth R t p 0)
captured (suc n) R t c p = under_one c (level (peg n R t) R t p 0)

-- and of a call
by_calls : (n : ℕ) (R : List Core) (t : List ℕ) (c : List ℕ) (r : ℕ) (p : Core) → slice_get R r ≡ Some (Capture c p)
    → HasOneTree c (peg n R t (Call r) 0)
by_calls zero R t c r p e = subst (λ o. HasOneTree c (called o (λ q. no_depth q 0))) (sym e) tt
by_calls (suc n) R t c r p e =
    subst (λ o. HasOneTree c (called o (λ q. peg n R t q 0))) (sym e)
    (more_one c 1 (peg n R t (Capture c p) 0) (captured n R t c p))

-- and so of each goal that is a capture
goal_one : (n : ℕ) (R : List Core) (t : List ℕ) (c : List ℕ) (g : Core) → IsCapture R c g → HasOneTree c (peg n R t g 0)
goal_one n R t c g (itself p) = captured n R t c p
goal_one n R t c g (by_call r p e) = by_calls n R t c r p e

-- the trees of a match are those of the outcome
matched : (c : List ℕ) (o : Outcome) (w j : ℕ) (f : Forest) → HasOneTree c o → as_match o ≡ At w j f
    → HasOneTree c (At w j f)
matched c Open w j f h e = absurd (cc)
matched c (Fail v) w j f h e = absurd (cc)
matched c (At v k g) w j f h e = subst (HasOneTree c) e h
matched c (HaltAt v k g) w j f h e = subst (HasOneTree c) e h

-- the law
pub one_tree_holds : OneTreeLaw
one_tree_holds R c g t w j f is e = matched c (peg (depth t R) R t g 0) w j f (goal_one (depth t R) R t c g is) e
