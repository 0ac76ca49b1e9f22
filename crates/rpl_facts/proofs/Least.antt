-- Least sets: there is one at most, and what they grow with.
use Rattle.std.proofs.Common.{◌≡◌, ℕ}
use Rattle.std.specs.Prelude.{Bool, true, ◌||◌, ◌&&◌}
use mathlib.Core.Path.{fun_ext}
use Rattle.rpl_core.specs.Core.{Core, Set, Seq, Choice, Many, Not, And, Behind, Call, Capture, Note, Start, End, Halt}
use Rattle.rpl_core.specs.Core.{Cores, NoMore, Then}
use Rattle.rpl_core.specs.Programs.{calls, calls_any}
use Rattle.rpl_compile_laws.specs.Static.{may_be_empty, all_may_be_empty, any_may_be_empty}
use Rattle.rpl_compile_laws.specs.Static.{may_halt, any_may_halt}
use Rattle.rpl_facts.specs.Facts.{IsLeast, calls_here, front_calls_here, any_calls_here}
use Rattle.rpl_core.proofs.Bools.{same_tests, either, left, right, both, paired, eq_self}

-- there is one at most
pub least_unique : (closed : (ℕ → Bool) → Type 0) (m k : ℕ → Bool) → IsLeast closed m → IsLeast closed k → m ≡ k
least_unique closed m k a b = fun_ext (λ r. same_tests (m r) (k r) (a.least k b.solution r) (b.least m a.solution r))

or_grows : (a b c d : Bool) → (a ≡ true → c ≡ true) → (b ≡ true → d ≡ true) → (a || b) ≡ true → (c || d) ≡ true
or_grows a b c d f g e = either a b (λ x. left c d (f x)) (λ x. right c d (g x)) e

and_grows : (a b c d : Bool) → (a ≡ true → c ≡ true) → (b ≡ true → d ≡ true) → (a && b) ≡ true → (c && d) ≡ true
and_grows a b c d f g e = let x = both a b e in paired c d (f x.0) (g x.1)

-- a test that holds with the rules of m holds with those of k, where k has each rule of m that the core calls
module _ (m k : ℕ → Bool) where
  abbrev pub Grows : (ℕ → Bool) → Type 0
  Grows called = (r : ℕ) → called r ≡ true → m r ≡ true → k r ≡ true

  front : (p : Core) (ps : Cores) → Grows (calls_any (Then p ps)) → Grows (calls p)
  front p ps up r c h = up r (left (calls p r) (calls_any ps r) c) h

  rest : (p : Core) (ps : Cores) → Grows (calls_any (Then p ps)) → Grows (calls_any ps)
  rest p ps up r c h = up r (right (calls p r) (calls_any ps r) c) h

  mutual
    pub empty_grows : (e : Core) → Grows (calls e) → may_be_empty m e ≡ true → may_be_empty k e ≡ true
    empty_grows (Set s) up h = h
    empty_grows (Seq ps) up h = all_empty_grow ps up h
    empty_grows (Choice ps) up h = any_empty_grows ps up h
    empty_grows (Many p) up h = h
    empty_grows (Not p) up h = h
    empty_grows (And p) up h = h
    empty_grows (Behind a b p) up h = h
    empty_grows (Call r) up h = up r (eq_self r) h
    empty_grows (Capture x p) up h = empty_grows p up h
    empty_grows (Note x) up h = h
    empty_grows Start up h = h
    empty_grows End up h = h
    empty_grows Halt up h = h

    all_empty_grow : (ps : Cores) → Grows (calls_any ps) → all_may_be_empty m ps ≡ true → all_may_be_empty k ps ≡ true
    all_empty_grow NoMore up h = h
    all_empty_grow (Then p ps) up h =
        and_grows (may_be_empty m p) (all_may_be_empty m ps) (may_be_empty k p) (all_may_be_empty k ps)
        (empty_grows p (front p ps up)) (all_empty_grow ps (rest p ps up)) h

    any_empty_grows : (ps : Cores) → Grows (calls_any ps) → any_may_be_empty m ps ≡ true → any_may_be_empty k ps ≡ true
    any_empty_grows NoMore up h = h
    any_empty_grows (Then p ps) up h =
        or_grows (may_be_empty m p) (any_may_be_empty m ps) (may_be_empty k p) (any_may_be_empty k ps)
        (empty_grows p (front p ps up)) (any_empty_grows ps (rest p ps up)) h

  mutual
    pub halt_grows : (e : Core) → Grows (calls e) → may_halt m e ≡ true → may_halt k e ≡ true
    halt_grows (Set s) up h = h
    halt_grows (Seq ps) up h = any_halt_grows ps up h
    halt_grows (Choice ps) up h = any_halt_grows ps up h
    halt_grows (Many p) up h = halt_grows p up h
    halt_grows (Not p) up h = halt_grows p up h
    halt_grows (And p) up h = halt_grows p up h
    halt_grows (Behind a b p) up h = halt_grows p up h
    halt_grows (Call r) up h = up r (eq_self r) h
    halt_grows (Capture x p) up h = halt_grows p up h
    halt_grows (Note x) up h = h
    halt_grows Start up h = h
    halt_grows End up h = h
    halt_grows Halt up h = h

    any_halt_grows : (ps : Cores) → Grows (calls_any ps) → any_may_halt m ps ≡ true → any_may_halt k ps ≡ true
    any_halt_grows NoMore up h = h
    any_halt_grows (Then p ps) up h =
        or_grows (may_halt m p) (any_may_halt m ps) (may_halt k p) (any_may_halt k ps) (halt_grows p (front p ps up))
        (any_halt_grows ps (rest p ps up)) h

-- a rule that is called before a character is called
module _ (m : ℕ → Bool) (t : ℕ) where
  mutual
    -- a rule that a core calls before a character is one that it calls
    pub here_called : (e : Core) → calls_here m e t ≡ true → calls e t ≡ true
    here_called (Set s) h = h
    here_called (Seq ps) h = front_called ps h
    here_called (Choice ps) h = any_called ps h
    here_called (Many p) h = here_called p h
    here_called (Not p) h = here_called p h
    here_called (And p) h = here_called p h
    here_called (Behind a b p) h = here_called p h
    here_called (Call r) h = h
    here_called (Capture x p) h = here_called p h
    here_called (Note x) h = h
    here_called Start h = h
    here_called End h = h
    here_called Halt h = h

    front_called : (ps : Cores) → front_calls_here m ps t ≡ true → calls_any ps t ≡ true
    front_called NoMore h = h
    front_called (Then p ps) h =
        or_grows (calls_here m p t) (may_be_empty m p && front_calls_here m ps t) (calls p t) (calls_any ps t)
        (here_called p) (λ x. front_called ps (both (may_be_empty m p) (front_calls_here m ps t) x).1) h

    any_called : (ps : Cores) → any_calls_here m ps t ≡ true → calls_any ps t ≡ true
    any_called NoMore h = h
    any_called (Then p ps) h =
        or_grows (calls_here m p t) (any_calls_here m ps t) (calls p t) (calls_any ps t) (here_called p) (any_called ps)
        h
