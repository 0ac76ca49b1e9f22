-- How the facts of a group are found, round by round.
use Rattle.std.specs.Prelude.{◌≡◌, ℕ, ◌<◌, ◌≤◌, Bool, true, List, length, slice_get}
use Rattle.rpl_core.specs.Core.{Core}
use Rattle.rpl_core.specs.Listed.{bodies_in, rules_of}
use Rattle.rpl_core.specs.Marks.{marked}
use Rattle.rpl_facts.specs.declared.facts.Fact as F
use Rattle.rpl_facts.specs.declared.group.Group.{Group}
use Rattle.rpl_facts.specs.Facts.{Solves, passes}
use Rattle.rpl_facts.specs.Tests.{test_of}

-- each rule of m is in every set that solves the test
abbrev pub IsUnder : ((ℕ → Bool) → Core → Bool) → List Core → (ℕ → Bool) → Type 0
IsUnder test R m = (k : ℕ → Bool) → Solves test R k → (r : ℕ) → m r ≡ true → k r ≡ true

-- of the rules from a on and before b, each that passes is in m
abbrev pub IsSettled : ((ℕ → Bool) → Core → Bool) → List Core → (ℕ → Bool) → ℕ → ℕ → Type 0
IsSettled test R m a b = (r : ℕ) → a ≤ r → r < b → passes (test m) (slice_get R r) ≡ true → m r ≡ true

-- marks are added, none of them before a
pub record Grows (a : ℕ) (old new : List Bool) : Type 0 where
  pub long : length new ≡ length old
  pub more : (r : ℕ) → marked old r ≡ true → marked new r ≡ true
  pub before : (r : ℕ) → r < a → marked new r ≡ marked old r

-- the marks are those of the fact for the rules before a, and some of those for the others
pub record AreKnown (test : (ℕ → Bool) → Core → Bool) (R : List Core) (marks : List Bool) (a : ℕ) : Type 0 where
  pub long : length marks ≡ length R
  pub under : IsUnder test R (marked marks)
  pub settled : IsSettled test R (marked marks) 0 a

-- the rules of a group are rules of its table
abbrev pub IsWithin : Group → Type 0
IsWithin g = (g.start ≤ g.end) × (g.end ≤ length (rules_of g.rules.now))

-- the table of a group has a mark for each rule, and the marked rules have the fact
abbrev pub AreSome : F.Fact → Group → List Bool → Type 0
AreSome fact g marks =
    (length marks ≡ length (rules_of g.rules.now)) × IsUnder (test_of fact) (bodies_in g.rules.now) (marked marks)

-- marks are added, none of them before the group, and the marked rules have the fact
abbrev pub Adds : F.Fact → Group → (old new : List Bool) → Type 0
Adds fact g old new = Grows g.start old new × IsUnder (test_of fact) (bodies_in g.rules.now) (marked new)
