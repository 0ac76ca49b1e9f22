-- How a list of marks and a list of what waits grow together, as numbers are found one after the other.
use Rattle.std.proofs.Common.{◌≡◌, ℕ, zero, suc, ◌<◌, List, [], ◌∷◌, ◌++◌, length, get_or, set, refl, ap, ◌∙◌, arith}
use Rattle.std.proofs.Math.Bool.{or-false}
use Rattle.std.specs.Prelude.{Bool, true, false, ◌||◌, ◌&&◌, not, nat_eq}
use Rattle.rpl_core.specs.Marks.{unmarked, waits}

-- marking nothing changes no mark
pub never : (m b : Bool) → m ≡ (m || (b && false))
never true b = refl
never false true = refl
never false false = refl

-- what is marked already is not new, so nothing more waits
pub not_new : (w m : Bool) → w ≡ (w || (m && not m))
not_new true m = refl
not_new false true = refl
not_new false false = refl

-- marking what one test finds and then what another finds marks what either finds
pub joined : (m b f g : Bool) → ((m || (b && f)) || (b && g)) ≡ (m || (b && (f || g)))
joined true b f g = refl
joined false false f g = refl
joined false true f g = refl

-- what waits after two steps of marking is what waits after both in one step
pub later : (w m m1 m2 : Bool) → (m ≡ true → m1 ≡ true) → (m1 ≡ true → m2 ≡ true)
    → ((w || (m1 && not m)) || (m2 && not m1)) ≡ (w || (m2 && not m))
later true m m1 m2 h k = refl
later false true true true h k = refl
later false true true false h k = refl
later false true false true h k = let e = h refl in absurd (cc)
later false true false false h k = refl
later false false true true h k = refl
later false false true false h k = let e = k refl in absurd (cc)
later false false false true h k = refl
later false false false false h k = refl

-- what was marked stays marked when more is marked
pub more : (m m1 x : Bool) → m1 ≡ (m || x) → m ≡ true → m1 ≡ true
more m m1 x e t = e ∙ ap (λ b. b || x) t

-- one more waits
pub waits_more : (xs : List ℕ) (k r : ℕ) → waits (xs ++ k ∷ []) r ≡ (waits xs r || nat_eq k r)
waits_more [] k r = or-false (nat_eq k r)
waits_more (x ∷ xs) k r = ap (λ b. nat_eq x r || b) (waits_more xs k r) ∙ assoc (nat_eq x r) (waits xs r) (nat_eq k r)
  where
    assoc : (a b c : Bool) → (a || (b || c)) ≡ ((a || b) || c)
    assoc true b c = refl
    assoc false b c = refl

-- marking a rule that had no mark leaves one rule fewer without a mark
pub unmarked_less : (bs : List Bool) (k : ℕ) → k < length bs → get_or bs k false ≡ false
    → suc (unmarked (set bs k true)) ≡ unmarked bs
unmarked_less [] k lt unset = absurd (omega arith)
unmarked_less (true ∷ bs) zero lt unset = absurd (cc)
unmarked_less (false ∷ bs) zero lt unset = refl
unmarked_less (true ∷ bs) (suc k) lt unset = unmarked_less bs k (omega arith) unset
unmarked_less (false ∷ bs) (suc k) lt unset = ap suc (unmarked_less bs k (omega arith) unset)
