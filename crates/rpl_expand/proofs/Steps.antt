-- Steps that came to an end without a fault.
use Rattle.std.proofs.Common.{◌≡◌, ℕ, List, [], ◌∷◌, ◌++◌, Option, Some, None, refl}
use Rattle.std.specs.Prelude.{Bool, true, false, if◌then◌else◌, Ok, Err}
use Rattle.rpl_scope.specs.Faults.{Or, ◌>>=◌, ◌orelse◌, fault, in_turn, unless}
use Rattle.rpl_scope.specs.declared.fault.LoadFault.{LoadFault}
use Rattle.rpl_scope.specs.declared.fault.LoadKind.{LoadKind}
use Rattle.rpl_names.specs.Steps.{Outcome, at_once}

-- both steps did
pub both : {A B : Type 0} (r : Or A) (f : A → Or B) (y : B) → (r >>= f) ≡ Ok y → (x : A) × (r ≡ Ok x) × (f x ≡ Ok y)
both (Ok x) f y h = (x, refl, h)
both (Err e) f y h = absurd (cc)

pub passed : {A : Type 0} (o : Option LoadFault) (x y : A) → unless o x ≡ Ok y → (o ≡ None) × (x ≡ y)
passed None x y h = (refl, cc)
passed (Some f) x y h = absurd (cc)

pub neither : (a b : Option LoadFault) → (a orelse b) ≡ None → (a ≡ None) × (b ≡ None)
neither None b h = (refl, h)
neither (Some f) b h = absurd (cc)

pub turns_append : {A S : Type 0} (step : A → S → Or S) (xs ys : List A) (s : S)
    → in_turn step (xs ++ ys) s ≡ (in_turn step xs s >>= in_turn step ys)
turns_append step [] ys s = refl
turns_append {A = A} {S = S} step (x ∷ xs) ys s = by (step x s) (turns_append step xs ys)
  where
    by : (r : Or S) → ((t : S) → in_turn step (xs ++ ys) t ≡ (in_turn step xs t >>= in_turn step ys))
        → (r >>= in_turn step (xs ++ ys)) ≡ ((r >>= in_turn step xs) >>= in_turn step ys)
    by (Ok t) f = f t
    by (Err e) f = refl

-- ---- a step after a test

-- if a step that is taken only where a test is false came to an answer, the step has that answer
pub unless_fault : {A : Type 0} (b : Bool) (f : List ℕ) (at : ℕ) (k : LoadKind) (o : Outcome A) (x : A)
    → (if b then at_once (fault f at k) else o).answer ≡ Ok x → o.answer ≡ Ok x
unless_fault true f at k o x h = absurd (cc)
unless_fault false f at k o x h = h

-- if a step that is taken only where a test is true came to an answer, the step has that answer
pub else_fault : {A : Type 0} (b : Bool) (f : List ℕ) (at : ℕ) (k : LoadKind) (o : Outcome A) (x : A)
    → (if b then o else at_once (fault f at k)).answer ≡ Ok x → o.answer ≡ Ok x
else_fault true f at k o x h = h
else_fault false f at k o x h = absurd (cc)
