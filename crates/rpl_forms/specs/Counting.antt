-- Sizes and depths that stop at one above their limits.
use Rattle.std.specs.Prelude.{◌≡◌, ℕ, ◌+◌, ◌≤◌, Bool, true, false, List, [], ◌∷◌, ◌++◌, length, Option, Some, None, min}
use Rattle.std.specs.Prelude.{max, slice_get}
use Rattle.rpl_core.specs.Core.{Core, Cores}
use Rattle.rpl_forms.specs.Sizes.{nodes, all_nodes, deep, most_deep}
use Rattle.rpl_forms.specs.Inlining.{Inners, inlined, inlined_all}
use Rattle.rpl_forms.specs.declared.size.Count.{Count}
use Rattle.rpl_forms.specs.declared.size.Inner.{Inner}

-- n is the size and the depth of a core
pub record Counts (n : Count) (p : Core) : Type 0 where
  pub size_is : n.size ≡ min 65537 (nodes p)
  pub depth_is : n.depth ≡ min 1025 (deep p)

-- n is the size and the depth of some cores together
pub record CountsAll (n : Count) (ps : Cores) : Type 0 where
  pub size_is : n.size ≡ min 65537 (all_nodes ps)
  pub depth_is : n.depth ≡ min 1025 (most_deep ps)

-- n, and the cores that are left, are together as many as the whole
pub record Adds (n : Count) (rest whole : Cores) : Type 0 where
  pub size_is : min 65537 (n.size + all_nodes rest) ≡ min 65537 (all_nodes whole)
  pub depth_is : min 1025 (max n.depth (most_deep rest)) ≡ min 1025 (most_deep whole)

-- a core as it is, or what stands for it in a look-behind
abbrev pub seen : (in_lookbehind : Bool) → Inners → Core → Core
seen true I p = inlined I p
seen false I p = p

abbrev pub seen_all : (in_lookbehind : Bool) → Inners → Cores → Cores
seen_all true I ps = inlined_all I ps
seen_all false I ps = ps

-- the counts of what stands for a rule with this number, where anything does
pub data CountsOne : Option (Option Inner) → Option (Option Core) → Type 0 where
  beyond : CountsOne None None
  in_block : CountsOne (Some None) (Some None)
  counted : (n : Inner) (p : Core) → Counts n.count p → CountsOne (Some (Some n)) (Some (Some p))

-- what is known of the rule with this number, where anything stands for it
abbrev pub known_of : Option (Option Inner) → Option Inner
known_of None = None
known_of (Some n) = n

-- What is known of what stands for each rule: its counts, and an earlier rule, or that rule itself, for which the same
-- stands.
pub record KnowsInners (known : List (Option Inner)) (I : Inners) : Type 0 where
  pub one : (r : ℕ) → CountsOne (slice_get known r) (slice_get I r)
  pub same : (r : ℕ) (n : Inner) → slice_get known r ≡ Some (Some n)
      → (n.rule ≤ r) × (slice_get I n.rule ≡ slice_get I r)

-- what is known of what stands for the next rule, after those for which I stands
pub data KnowsNext (I : Inners) : Option Inner → Option Core → Type 0 where
  nothing : KnowsNext I None None
  stands : (n : Inner) (p : Core) → Counts n.count p → n.rule ≤ length I
      → slice_get (I ++ Some p ∷ []) n.rule ≡ Some (Some p) → KnowsNext I (Some n) (Some p)

-- r is a rule for which the same stands as for the next one, whose body is p
abbrev pub IsFirst : ℕ → Inners → Core → Type 0
IsFirst r I p = (r ≤ length I) × (slice_get (I ++ Some (inlined I p) ∷ []) r ≡ Some (Some (inlined I p)))
