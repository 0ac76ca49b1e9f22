-- What the proof asks of a core: each rule that it calls is there, and no body of a predicate may halt.
use Rattle.std.proofs.Common.{◌≡◌, ℕ, refl}
use Rattle.std.specs.Prelude.{Bool, true, false, not, ◌||◌, ◌&&◌}
use Rattle.std.proofs.lemmas.Bool.{and_parts, eq-eqb}
use Rattle.rpl_core.specs.Core.{Core, Set, Seq, Choice, Many, Not, And, Behind, Call, Capture, Note, Start, End, Halt}
use Rattle.rpl_core.specs.Core.{Cores, NoMore, Then}
use Rattle.rpl_core.specs.Programs.{calls, calls_any}
use Rattle.rpl_compile_laws.specs.Static.{may_halt, predicates_stay, all_predicates_stay}

-- each rule that a core calls is in reach, and each body of a predicate is still
abbrev mutual
  pub Sound : (ℕ → Type 0) → (Core → Type 0) → Core → Type 0
  Sound reach still (Set s) = Unit {0}
  Sound reach still (Seq ps) = Sound_all reach still ps
  Sound reach still (Choice ps) = Sound_all reach still ps
  Sound reach still (Many p) = Sound reach still p
  Sound reach still (Not p) = still p × Sound reach still p
  Sound reach still (And p) = still p × Sound reach still p
  Sound reach still (Behind l m p) = still p × Sound reach still p
  Sound reach still (Call r) = reach r
  Sound reach still (Capture c p) = Sound reach still p
  Sound reach still (Note x) = Unit {0}
  Sound reach still Start = Unit {0}
  Sound reach still End = Unit {0}
  Sound reach still Halt = Unit {0}

  pub Sound_all : (ℕ → Type 0) → (Core → Type 0) → Cores → Type 0
  Sound_all reach still NoMore = Unit {0}
  Sound_all reach still (Then p ps) = Sound reach still p × Sound_all reach still ps

-- what isn't isn't
not_true : (a : Bool) → not a ≡ true → a ≡ false
not_true true e = absurd (cc)
not_true false e = refl

-- either part makes an 'or' hold
or_first : (a b : Bool) → a ≡ true → (a || b) ≡ true
or_first true b e = refl
or_first false b e = absurd (cc)

-- and so does the second
or_second : (a b : Bool) → b ≡ true → (a || b) ≡ true
or_second true b e = refl
or_second false b e = e

module _ (h : ℕ → Bool) (reach : ℕ → Type 0) where
  -- a body and what is asked in it
  still_body : (p : Core) (P : Type 0) → (not (may_halt h p) && predicates_stay h p) ≡ true
      → (predicates_stay h p ≡ true → P) → (may_halt h p ≡ false) × P
  still_body p P e k = let b = and_parts (not (may_halt h p)) (predicates_stay h p) e in
      (not_true (may_halt h p) b.0, k b.1)

  mutual
    -- from the definitions: its rules are in reach, and no predicate halts
    pub sound : (e : Core) → ((r : ℕ) → calls e r ≡ true → reach r) → predicates_stay h e ≡ true
        → Sound reach (λ q. may_halt h q ≡ false) e
    sound (Set s) go e = tt
    sound (Seq ps) go e = sound_all ps go e
    sound (Choice ps) go e = sound_all ps go e
    sound (Many p) go e = sound p go e
    sound (Not p) go e = still_body p _ e (sound p go)
    sound (And p) go e = still_body p _ e (sound p go)
    sound (Behind l m p) go e = still_body p _ e (sound p go)
    sound (Call r) go e = go r (eq-eqb r r refl)
    sound (Capture c p) go e = sound p go e
    sound (Note x) go e = tt
    sound Start go e = tt
    sound End go e = tt
    sound Halt go e = tt

    sound_all : (ps : Cores) → ((r : ℕ) → calls_any ps r ≡ true → reach r) → all_predicates_stay h ps ≡ true
        → Sound_all reach (λ q. may_halt h q ≡ false) ps
    sound_all NoMore go e = tt
    sound_all (Then p ps) go e =
        let b = and_parts (predicates_stay h p) (all_predicates_stay h ps) e in (
          sound p (λ r q. go r (or_first (calls p r) (calls_any ps r) q)) b.0,
          sound_all ps (λ r q. go r (or_second (calls p r) (calls_any ps r) q)) b.1,
        )
