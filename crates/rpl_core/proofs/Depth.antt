-- An outcome that isn't open stays the same, with the same work, at every greater depth.
use Rattle.std.proofs.Common.{◌≡◌, ◌≢◌, ℕ, zero, suc, ◌+◌, ◌-◌, ◌≤◌, List, length, Option, Some, None, refl, sym, ap}
use Rattle.std.proofs.Common.{subst, arith}
use Rattle.std.specs.Prelude.{Bool, true, false, nat_eq, nat_le, if◌then◌else◌, slice_get}
use Rattle.rpl_core.specs.Core.{Core, Set, Seq, Choice, Many, Not, And, Behind, Call, Capture, Note, Start, End, Halt}
use Rattle.rpl_core.specs.Core.{Cores, NoMore, Then}
use Rattle.rpl_core.specs.Forest.{NoTree}
use Rattle.rpl_core.specs.Meaning.{Outcome, Open, Fail, At, HaltAt, more, prefixed, then_do, or_else, turns, if_fails}
use Rattle.rpl_core.specs.Meaning.{if_matches, under, ends_here, lengths, one_char, only_if, called, level, level_all}
use Rattle.rpl_core.specs.Meaning.{level_first, no_depth, peg}
use Rattle.rpl_core.specs.Laws.{DepthLaw}

-- the second is the first, unless the first is open
abbrev pub Keeps : Outcome → Outcome → Type 0
Keeps Open o = Unit {0}
Keeps (Fail w) o = o ≡ Fail w
Keeps (At w j f) o = o ≡ At w j f
Keeps (HaltAt w j f) o = o ≡ HaltAt w j f

pub keeps_same : (a : Outcome) → Keeps a a
keeps_same Open = tt
keeps_same (Fail w) = refl
keeps_same (At w j f) = refl
keeps_same (HaltAt w j f) = refl

keeps_on : (a b c : Outcome) → Keeps a b → Keeps b c → Keeps a c
keeps_on Open b c h k = tt
keeps_on (Fail w) b c h k = subst (λ x. Keeps x c) h k
keeps_on (At w j f) b c h k = subst (λ x. Keeps x c) h k
keeps_on (HaltAt w j f) b c h k = subst (λ x. Keeps x c) h k

-- what is open where its part is
strict : (F : Outcome → Outcome) → F Open ≡ Open → (a b : Outcome) → Keeps a b → Keeps (F a) (F b)
strict F e Open b h = subst (λ x. Keeps x (F b)) (sym e) tt
strict F e (Fail w) b h = subst (λ x. Keeps (F (Fail w)) (F x)) (sym h) (keeps_same (F (Fail w)))
strict F e (At w j f) b h = subst (λ x. Keeps (F (At w j f)) (F x)) (sym h) (keeps_same (F (At w j f)))
strict F e (HaltAt w j f) b h = subst (λ x. Keeps (F (HaltAt w j f)) (F x)) (sym h) (keeps_same (F (HaltAt w j f)))

then_keeps : (a b : Outcome) (r s : ℕ → Outcome) → Keeps a b → ((j : ℕ) → Keeps (r j) (s j))
    → Keeps (then_do a r) (then_do b s)
then_keeps Open b r s h k = tt
then_keeps (Fail w) b r s h k = ap (λ x. then_do x s) h
then_keeps (At w j f) b r s h k =
    subst (λ x. Keeps (prefixed w f (r j)) (then_do x s)) (sym h) (strict (prefixed w f) refl (r j) (s j) (k j))
then_keeps (HaltAt w j f) b r s h k = ap (λ x. then_do x s) h

or_keeps : (a b : Outcome) (i : ℕ) (r s : ℕ → Outcome) → Keeps a b → ((j : ℕ) → Keeps (r j) (s j))
    → Keeps (or_else a i r) (or_else b i s)
or_keeps Open b i r s h k = tt
or_keeps (Fail w) b i r s h k =
    subst (λ x. Keeps (more (1 + w) (r i)) (or_else x i s)) (sym h) (strict (more (1 + w)) refl (r i) (s i) (k i))
or_keeps (At w j f) b i r s h k = ap (λ x. or_else x i s) h
or_keeps (HaltAt w j f) b i r s h k = ap (λ x. or_else x i s) h

turns_keeps : (a b : Outcome) (i : ℕ) (r s : ℕ → Outcome) → Keeps a b → ((j : ℕ) → Keeps (r j) (s j))
    → Keeps (turns a i r) (turns b i s)
turns_keeps Open b i r s h k = tt
turns_keeps (Fail w) b i r s h k = ap (λ x. turns x i s) h
turns_keeps (At w j f) b i r s h k =
    subst (λ x. Keeps (prefixed (1 + w) f (r j)) (turns x i s)) (sym h)
    (strict (prefixed (1 + w) f) refl (r j) (s j) (k j))
turns_keeps (HaltAt w j f) b i r s h k = ap (λ x. turns x i s) h

if_keeps : (q : Bool) (a b c d : Outcome) → Keeps a b → Keeps c d → Keeps (if q then a else c) (if q then b else d)
if_keeps true a b c d h k = h
if_keeps false a b c d h k = k

ends_keeps : (a b : Outcome) (i : ℕ) (o p : Outcome) → Keeps a b → Keeps o p → Keeps (ends_here a i o) (ends_here b i p)
ends_keeps Open b i o p h k = tt
ends_keeps (Fail w) b i o p h k =
    subst (λ x. Keeps (more (1 + w) o) (ends_here x i p)) (sym h) (strict (more (1 + w)) refl o p k)
ends_keeps (At w j f) b i o p h k =
    subst (λ x. Keeps (ends_here (At w j f) i o) (ends_here x i p)) (sym h)
    (if_keeps (nat_eq j i) _ _ _ _ (keeps_same (At (1 + w) i NoTree)) (strict (more (1 + w)) refl o p k))
ends_keeps (HaltAt w j f) b i o p h k =
    subst (λ x. Keeps (more (1 + w) o) (ends_here x i p)) (sym h) (strict (more (1 + w)) refl o p k)

lengths_keep : (n k : ℕ) (r s : ℕ → Outcome) (i : ℕ) → ((j : ℕ) → Keeps (r j) (s j))
    → Keeps (lengths n k r i) (lengths n k s i)
lengths_keep zero k r s i h = refl
lengths_keep (suc n) k r s i h =
    let next = lengths_keep n (k + 1) r s i h in
    if_keeps (nat_le k i) _ _ _ _ (ends_keeps (r (i - k)) (s (i - k)) i _ _ (h (i - k)) next)
    (strict (more 1) refl _ _ next)

-- a meaning that keeps all that is not open in another
abbrev pub Deeper : (Core → ℕ → Outcome) → (Core → ℕ → Outcome) → Type 0
Deeper f g = (e : Core) (i : ℕ) → Keeps (f e i) (g e i)

called_keeps : (p : Option Core) (f g : Core → Outcome) → ((e : Core) → Keeps (f e) (g e))
    → Keeps (called p f) (called p g)
called_keeps None f g h = tt
called_keeps (Some e) f g h = strict (more 1) refl (f e) (g e) (h e)

mutual
  level_keeps : (f g : Core → ℕ → Outcome) (R : List Core) (t : List ℕ) → Deeper f g → (e : Core) (i : ℕ)
      → Keeps (level f R t e i) (level g R t e i)
  level_keeps f g R t h (Set s) i = keeps_same (one_char (slice_get t i) s i)
  level_keeps f g R t h (Seq ps) i = strict (more 1) refl _ _ (all_keep f g R t h ps i)
  level_keeps f g R t h (Choice ps) i = first_keeps f g R t h ps i
  level_keeps f g R t h (Many p) i = turns_keeps _ _ i _ _ (level_keeps f g R t h p i) (h (Many p))
  level_keeps f g R t h (Not p) i = strict (λ o. if_fails o i) refl _ _ (level_keeps f g R t h p i)
  level_keeps f g R t h (And p) i = strict (λ o. if_matches o i) refl _ _ (level_keeps f g R t h p i)
  level_keeps f g R t h (Behind l m p) i =
      strict (more 1) refl _ _ (lengths_keep (m + 1 - l) l _ _ i (level_keeps f g R t h p))
  level_keeps f g R t h (Call r) i = called_keeps (slice_get R r) _ _ (λ p. h p i)
  level_keeps f g R t h (Capture c p) i = strict (under c i) refl _ _ (level_keeps f g R t h p i)
  level_keeps f g R t h (Note x) i = refl
  level_keeps f g R t h Start i = keeps_same (only_if (nat_eq i 0) i)
  level_keeps f g R t h End i = keeps_same (only_if (nat_eq i (length t)) i)
  level_keeps f g R t h Halt i = refl

  all_keep : (f g : Core → ℕ → Outcome) (R : List Core) (t : List ℕ) → Deeper f g → (ps : Cores) (i : ℕ)
      → Keeps (level_all f R t ps i) (level_all g R t ps i)
  all_keep f g R t h NoMore i = refl
  all_keep f g R t h (Then p ps) i = then_keeps _ _ _ _ (level_keeps f g R t h p i) (all_keep f g R t h ps)

  first_keeps : (f g : Core → ℕ → Outcome) (R : List Core) (t : List ℕ) → Deeper f g → (ps : Cores) (i : ℕ)
      → Keeps (level_first f R t ps i) (level_first g R t ps i)
  first_keeps f g R t h NoMore i = refl
  first_keeps f g R t h (Then p NoMore) i = level_keeps f g R t h p i
  first_keeps f g R t h (Then p (Then q ps)) i =
      or_keeps _ _ i _ _ (level_keeps f g R t h p i) (first_keeps f g R t h (Then q ps))

one_deeper : (n : ℕ) (R : List Core) (t : List ℕ) → Deeper (peg n R t) (peg (suc n) R t)
one_deeper zero R t = level_keeps no_depth (peg zero R t) R t (λ e i. tt)
one_deeper (suc n) R t = level_keeps (peg n R t) (peg (suc n) R t) R t (one_deeper n R t)

by_depth : (d m n : ℕ) (R : List Core) (t : List ℕ) → m + d ≡ n → Deeper (peg m R t) (peg n R t)
by_depth zero m n R t q e i =
    let z : m ≡ n = omega arith in
    subst (λ k. Keeps (peg m R t e i) (peg k R t e i)) z (keeps_same (peg m R t e i))
by_depth (suc d) m n R t q e i =
    keeps_on _ _ _ (one_deeper m R t e i) (by_depth d (suc m) n R t (omega arith) e i)

-- all that is not open is kept at a greater depth
pub deeper : (m n : ℕ) (R : List Core) (t : List ℕ) → m ≤ n → Deeper (peg m R t) (peg n R t)
deeper m n R t le = by_depth (n - m) m n R t (omega arith)

kept : (a b : Outcome) → Keeps a b → a ≢ Open → b ≡ a
kept Open b h ne = absurd (ne refl)
kept (Fail w) b h ne = h
kept (At w j f) b h ne = h
kept (HaltAt w j f) b h ne = h

pub depth_holds : DepthLaw
depth_holds m n R t e i le ne = kept (peg m R t e i) (peg n R t e i) (deeper m n R t le e i) ne
