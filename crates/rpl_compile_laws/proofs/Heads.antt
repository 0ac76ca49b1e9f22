-- Outside its head a core fails.
use Rattle.std.proofs.Common.{◌≡◌, ℕ, ◌+◌, List, [], ◌++◌, Option, Some, None, refl, sym, ap, ◌∙◌}
use Rattle.std.specs.Prelude.{slice_get, Bool, true, false, ◌||◌, ◌&&◌, option_map}
use Rattle.regex_class.specs.Ranges.{Range, in_ranges}
use Rattle.regex_class.proofs.RangesLemmas.{in_ranges-append}
use Rattle.rpl_classes.specs.Sets.{is_char}
use Rattle.rpl_classes.specs.Norm.{norm}
use Rattle.rpl_classes.proofs.Normal.{norm_members}
use Rattle.rpl_core.specs.Core.{fits, Core, Set, Seq, Choice, Many, Not, And, Behind, Call, Capture, Note, Start, End}
use Rattle.rpl_core.specs.Core.{Halt, Cores, NoMore, Then}
use Rattle.rpl_core.specs.Meaning.{Outcome, Open, Fail, At, HaltAt, more, then_do, or_else, under, level, level_all}
use Rattle.rpl_core.specs.Meaning.{level_first}
use Rattle.rpl_core.specs.Head.{both_heads, head, first_head, all_heads}
use Rattle.rpl_compile_laws.proofs.Cases.{Fails}

-- where a core has a head, it fails at a character outside
abbrev pub HeadFails : Option ℕ → Option (List Range) → Outcome → Type 0
HeadFails c None o = Unit {0}
HeadFails c (Some s) o = fits c s ≡ false → Fails o

-- what is there is a character
abbrev pub IsCharThere : Option ℕ → Type 0
IsCharThere None = Unit {0}
IsCharThere (Some c) = is_char c ≡ true

-- neither part of an 'or' that is false holds
pub or_parts : (a b : Bool) → (a || b) ≡ false → (a ≡ false) × (b ≡ false)
or_parts true b e = absurd (cc)
or_parts false b e = (refl, e)

-- what is outside both sets' ranges is outside each
fits_append : (c : Option ℕ) (r s : List Range) → fits c (r ++ s) ≡ false → (fits c r ≡ false) × (fits c s ≡ false)
fits_append None r s e = (refl, refl)
fits_append (Some c) r s e = or_parts (in_ranges r c) (in_ranges s c) (sym (in_ranges-append r s c) ∙ e)

-- a character outside the normal form is outside the ranges
fits_norm : (c : Option ℕ) (s : List Range) → IsCharThere c → fits c (norm s) ≡ false → fits c s ≡ false
fits_norm None s k e = refl
fits_norm (Some c) s k e = ap (λ b. b && in_ranges s c) (sym k) ∙ sym (norm_members s c) ∙ e

-- more work leaves a failure one
more_fails : (v : ℕ) (o : Outcome) → Fails o → Fails (more v o)
more_fails v Open h = tt
more_fails v (Fail w) h = tt
more_fails v (At w j f) h = h
more_fails v (HaltAt w j f) h = h

-- a choice fails where its parts do
or_fails : (o : Outcome) (i : ℕ) (r : ℕ → Outcome) → Fails o → Fails (r i) → Fails (or_else o i r)
or_fails Open i r h k = tt
or_fails (Fail w) i r h k = more_fails (1 + w) (r i) k
or_fails (At w j f) i r h k = h
or_fails (HaltAt w j f) i r h k = h

-- a sequence fails where its first part does
then_fails : (o : Outcome) (r : ℕ → Outcome) → Fails o → Fails (then_do o r)
then_fails Open r h = tt
then_fails (Fail w) r h = tt
then_fails (At w j f) r h = absurd h
then_fails (HaltAt w j f) r h = absurd h

-- a capture fails where its body does
under_fails : (c : List ℕ) (i : ℕ) (o : Outcome) → Fails o → Fails (under c i o)
under_fails c i Open h = tt
under_fails c i (Fail w) h = tt
under_fails c i (At w j f) h = h
under_fails c i (HaltAt w j f) h = h

-- the same for heads
head_more : (c : Option ℕ) (h : Option (List Range)) (v : ℕ) (o : Outcome) → HeadFails c h o → HeadFails c h (more v o)
head_more c None v o h = tt
head_more c (Some s) v o h = λ e. more_fails v o (h e)

-- a choice fails outside the ranges of both heads
head_or : (c : Option ℕ) (g h : Option (List Range)) (o : Outcome) (i : ℕ) (r : ℕ → Outcome) → HeadFails c g o
    → HeadFails c h (r i) → HeadFails c (both_heads g h) (or_else o i r)
head_or c None h o i r a b = tt
head_or c (Some s) None o i r a b = tt
head_or c (Some s) (Some u) o i r a b = λ e. let k = fits_append c s u e in or_fails o i r (a k.0) (b k.1)

-- a last part's head with no more ranges is its own
head_last : (c : Option ℕ) (g : Option (List Range)) (o : Outcome) → HeadFails c g o
    → HeadFails c (both_heads g (Some [])) o
head_last c None o a = tt
head_last c (Some s) o a = λ e. a ((fits_append c s [] e).0)

-- a sequence fails outside the head of its first part
head_then : (c : Option ℕ) (h : Option (List Range)) (o : Outcome) (r : ℕ → Outcome) → HeadFails c h o
    → HeadFails c h (then_do o r)
head_then c None o r h = tt
head_then c (Some s) o r h = λ e. then_fails o r (h e)

-- a capture fails outside the head of its body
head_under : (c : Option ℕ) (h : Option (List Range)) (x : List ℕ) (i : ℕ) (o : Outcome) → HeadFails c h o
    → HeadFails c h (under x i o)
head_under c None x i o h = tt
head_under c (Some s) x i o h = λ e. under_fails x i o (h e)

-- the normal form of a head is one as well
head_norm : (c : Option ℕ) (h : Option (List Range)) (o : Outcome) → IsCharThere c → HeadFails c h o
    → HeadFails c (option_map norm h) o
head_norm c None o k h = tt
head_norm c (Some s) o k h = λ e. h (fits_norm c s k e)

module _ (f : Core → ℕ → Outcome) (R : List Core) (t : List ℕ) (there : (i : ℕ) → IsCharThere (slice_get t i)) where
  mutual
    -- a core fails outside its head
    pub head_fails : (e : Core) (i : ℕ) → HeadFails (slice_get t i) (head e) (level f R t e i)
    head_fails (Set s) i = λ q. rw q tt
    head_fails (Seq ps) i = head_more _ (first_head ps) 1 _ (first_head_fails ps i)
    head_fails (Choice ps) i = head_norm _ (all_heads ps) _ (there i) (all_heads_fail ps i)
    head_fails (Many p) i = tt
    head_fails (Not p) i = tt
    head_fails (And p) i = tt
    head_fails (Behind l m p) i = tt
    head_fails (Call r) i = tt
    head_fails (Capture c p) i = head_under _ (head p) c i _ (head_fails p i)
    head_fails (Note x) i = tt
    head_fails Start i = tt
    head_fails End i = tt
    head_fails Halt i = tt

    first_head_fails : (ps : Cores) (i : ℕ) → HeadFails (slice_get t i) (first_head ps) (level_all f R t ps i)
    first_head_fails NoMore i = tt
    first_head_fails (Then p ps) i = head_then _ (head p) _ _ (head_fails p i)

    all_heads_fail : (ps : Cores) (i : ℕ) → HeadFails (slice_get t i) (all_heads ps) (level_first f R t ps i)
    all_heads_fail NoMore i = λ q. tt
    all_heads_fail (Then p NoMore) i = head_last _ (head p) _ (head_fails p i)
    all_heads_fail (Then p (Then q ps)) i =
        head_or _ (head p) (all_heads (Then q ps)) _ i _ (head_fails p i) (all_heads_fail (Then q ps) i)
