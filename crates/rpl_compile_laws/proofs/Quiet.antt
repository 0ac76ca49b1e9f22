-- A core that may not halt doesn't, at any depth.
use Rattle.std.proofs.Common.{◌≡◌, ℕ, zero, suc, ◌+◌, ◌-◌, List, length, Option, Some, None, refl}
use Rattle.std.specs.Prelude.{Bool, true, false, nat_eq, nat_le, if◌then◌else◌, slice_get}
use Rattle.rpl_core.specs.Core.{fits, Core, Set, Seq, Choice, Many, Not, And, Behind, Call, Capture, Note, Start, End}
use Rattle.rpl_core.specs.Core.{Halt, Cores, NoMore, Then}
use Rattle.rpl_core.specs.Forest.{Forest, NoTree}
use Rattle.rpl_core.specs.Meaning.{Outcome, Open, Fail, At, HaltAt, more, prefixed, then_do, or_else, turns, if_fails}
use Rattle.rpl_core.specs.Meaning.{if_matches, under, ends_here, lengths, called, level, level_all, level_first}
use Rattle.rpl_core.specs.Meaning.{no_depth, peg}
use Rattle.rpl_compile_laws.specs.Static.{may_halt, any_may_halt}
use Rattle.rpl_compile_laws.proofs.Cases.{Goes}
use Rattle.rpl_compile_laws.proofs.Heads.{or_parts}

-- more work doesn't end the run
goes_more : (v : ℕ) (o : Outcome) → Goes o → Goes (more v o)
goes_more v Open h = tt
goes_more v (Fail w) h = tt
goes_more v (At w j f) h = tt
goes_more v (HaltAt w j f) h = h

-- trees before it don't
goes_prefixed : (v : ℕ) (f : Forest) (o : Outcome) → Goes o → Goes (prefixed v f o)
goes_prefixed v f Open h = tt
goes_prefixed v f (Fail w) h = tt
goes_prefixed v f (At w j g) h = tt
goes_prefixed v f (HaltAt w j g) h = h

-- nor does a part and then the rest
goes_then : (o : Outcome) (r : ℕ → Outcome) → Goes o → ((j : ℕ) → Goes (r j)) → Goes (then_do o r)
goes_then Open r h k = tt
goes_then (Fail w) r h k = tt
goes_then (At w j f) r h k = goes_prefixed w f (r j) (k j)
goes_then (HaltAt w j f) r h k = h

-- nor a choice of two
goes_or : (o : Outcome) (i : ℕ) (r : ℕ → Outcome) → Goes o → Goes (r i) → Goes (or_else o i r)
goes_or Open i r h k = tt
goes_or (Fail w) i r h k = goes_more (1 + w) (r i) k
goes_or (At w j f) i r h k = tt
goes_or (HaltAt w j f) i r h k = h

-- nor turns
goes_turns : (o : Outcome) (i : ℕ) (r : ℕ → Outcome) → Goes o → ((j : ℕ) → Goes (r j)) → Goes (turns o i r)
goes_turns Open i r h k = tt
goes_turns (Fail w) i r h k = tt
goes_turns (At w j f) i r h k = goes_prefixed (1 + w) f (r j) (k j)
goes_turns (HaltAt w j f) i r h k = h

-- a predicate never does
goes_not : (o : Outcome) (i : ℕ) → Goes (if_fails o i)
goes_not Open i = tt
goes_not (Fail w) i = tt
goes_not (At w j f) i = tt
goes_not (HaltAt w j f) i = tt

-- nor does a look-ahead
goes_and : (o : Outcome) (i : ℕ) → Goes (if_matches o i)
goes_and Open i = tt
goes_and (Fail w) i = tt
goes_and (At w j f) i = tt
goes_and (HaltAt w j f) i = tt

-- nor does a capture, where its body doesn't
goes_under : (c : List ℕ) (i : ℕ) (o : Outcome) → Goes o → Goes (under c i o)
goes_under c i Open h = tt
goes_under c i (Fail w) h = tt
goes_under c i (At w j f) h = tt
goes_under c i (HaltAt w j f) h = h

-- nor one of two
goes_if : (q : Bool) (a b : Outcome) → Goes a → Goes b → Goes (if q then a else b)
goes_if true a b h k = h
goes_if false a b h k = k

-- nor the lengths of a look-behind
goes_ends : (o : Outcome) (i : ℕ) (p : Outcome) → Goes p → Goes (ends_here o i p)
goes_ends Open i p h = tt
goes_ends (Fail w) i p h = goes_more (1 + w) p h
goes_ends (At w j f) i p h = goes_if (nat_eq j i) (At (1 + w) i NoTree) (more (1 + w) p) tt (goes_more (1 + w) p h)
goes_ends (HaltAt w j f) i p h = goes_more (1 + w) p h

-- however many there are
goes_lengths : (n k : ℕ) (body : ℕ → Outcome) (i : ℕ) → Goes (lengths n k body i)
goes_lengths zero k body i = tt
goes_lengths (suc n) k body i =
    let h = goes_lengths n (k + 1) body i in
    goes_if (nat_le k i) (ends_here (body (i - k)) i (lengths n (k + 1) body i)) (more 1 (lengths n (k + 1) body i))
    (goes_ends (body (i - k)) i (lengths n (k + 1) body i) h) (goes_more 1 (lengths n (k + 1) body i) h)

module _ (h : ℕ → Bool) (R : List Core) (t : List ℕ) (closed : (r : ℕ) (p : Core) → slice_get R r ≡ Some p → h r ≡ false
    → may_halt h p ≡ false) where
  -- nor a call of a rule that may not
  goes_called : (f : Core → Outcome) (r : ℕ) → h r ≡ false → ((p : Core) → may_halt h p ≡ false → Goes (f p))
      → (o : Option Core) → slice_get R r ≡ o → Goes (called o f)
  goes_called f r q k None e = tt
  goes_called f r q k (Some p) e = goes_more 1 (f p) (k p (closed r p e q))

  module _ (below : Core → ℕ → Outcome) (ih : (e : Core) → may_halt h e ≡ false → (i : ℕ) → Goes (below e i)) where
    mutual
      -- one level deeper
      level_goes : (e : Core) → may_halt h e ≡ false → (i : ℕ) → Goes (level below R t e i)
      level_goes (Set s) q i = goes_if (fits (slice_get t i) s) (At 1 (i + 1) NoTree) (Fail 1) tt tt
      level_goes (Seq ps) q i = goes_more 1 (level_all below R t ps i) (level_all_goes ps q i)
      level_goes (Choice ps) q i = first_goes ps q i
      level_goes (Many p) q i = goes_turns (level below R t p i) i (below (Many p)) (level_goes p q i) (ih (Many p) q)
      level_goes (Not p) q i = goes_not (level below R t p i) i
      level_goes (And p) q i = goes_and (level below R t p i) i
      level_goes (Behind l m p) q i = goes_more 1 _ (goes_lengths (m + 1 - l) l (level below R t p) i)
      level_goes (Call r) q i = goes_called (λ p. below p i) r q (λ p k. ih p k i) (slice_get R r) refl
      level_goes (Capture c p) q i = goes_under c i (level below R t p i) (level_goes p q i)
      level_goes (Note x) q i = tt
      level_goes Start q i = goes_if (nat_eq i 0) (At 1 i NoTree) (Fail 1) tt tt
      level_goes End q i = goes_if (nat_eq i (length t)) (At 1 i NoTree) (Fail 1) tt tt
      level_goes Halt q i = absurd (cc)

      level_all_goes : (ps : Cores) → any_may_halt h ps ≡ false → (i : ℕ) → Goes (level_all below R t ps i)
      level_all_goes NoMore q i = tt
      level_all_goes (Then p ps) q i =
          let b = or_parts (may_halt h p) (any_may_halt h ps) q in
          goes_then (level below R t p i) (level_all below R t ps) (level_goes p b.0 i) (level_all_goes ps b.1)

      first_goes : (ps : Cores) → any_may_halt h ps ≡ false → (i : ℕ) → Goes (level_first below R t ps i)
      first_goes NoMore q i = tt
      first_goes (Then p NoMore) q i = level_goes p ((or_parts (may_halt h p) false q).0) i
      first_goes (Then p (Then q ps)) e i =
          let b = or_parts (may_halt h p) (any_may_halt h (Then q ps)) e in
          goes_or (level below R t p i) i (level_first below R t (Then q ps)) (level_goes p b.0 i)
          (first_goes (Then q ps) b.1 i)

  -- the same at each depth
  pub peg_goes : (n : ℕ) (e : Core) → may_halt h e ≡ false → (i : ℕ) → Goes (peg n R t e i)
  peg_goes zero e q i = level_goes no_depth (λ x y j. tt) e q i
  peg_goes (suc n) e q i = level_goes (peg n R t) (peg_goes n) e q i
