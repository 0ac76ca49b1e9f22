-- Steps of a loop over checks.
use Rattle.std.proofs.Common.{◌≡◌, ℕ, suc, ◌+◌, ◌<◌, ◌≤◌, List, ◌∷◌, length, map, drop, get_or, Option, Some, None}
use Rattle.std.proofs.Common.{refl, sym, ap, subst, ◌∙◌, add-one}
use Rattle.std.specs.Prelude.{Ok}
use Rattle.std.proofs.Math.Seq.{drop-cons}
use Rattle.std.proofs.lemmas.List.{drop_all}
use Rattle.rpl_scope.specs.declared.fault.LoadFault.{LoadFault}
use Rattle.rpl_scope.specs.declared.fault.Stop.{Stop}
use Rattle.rpl_scope.specs.Faults.{◌>>=◌, ◌orelse◌, unless, first_fault, StopIs}
use Rattle.rpl_scope.proofs.Stops.{stops}

-- from a number on, a list is what stands at that number, and then the list from the next number on
pub front : {B : Type 0} (ys : List B) (i : ℕ) (y : B) → i < length ys → y ≡ get_or ys i y
    → drop i ys ≡ y ∷ drop (i + 1) ys
front ys i y lt h = rw add-one (drop-cons ys i y lt ∙ ap (λ z. z ∷ drop (suc i) ys) (sym h))

pub both : (a b : Option LoadFault) → unless (a orelse b) (tt {0}) ≡ (unless a (tt {0}) >>= λ _. unless b (tt {0}))
both None b = refl
both (Some f) b = refl

passed : (a b : Option LoadFault) → unless a (tt {0}) ≡ Ok (tt {0}) → (a orelse b) ≡ b
passed None b h = refl
passed (Some f) b h = absurd (cc)

module _ {A B : Type 0} (see : B → A) (check : A → Option LoadFault) (ys : List B) (i : ℕ) where
  left : Option LoadFault
  left = first_fault check (map see (drop (i + 1) ys))

  step : (y : B) → i < length ys → y ≡ get_or ys i y → first_fault check (map see (drop i ys))
      ≡ (check (see y) orelse left)
  unfolding left
  step y lt h = ap (λ zs. first_fault check (map see zs)) (front ys i y lt h)

  pub check_passed : (y : B) (all : Option LoadFault) → i < length ys → y ≡ get_or ys i y
      → unless (check (see y)) (tt {0}) ≡ Ok (tt {0}) → first_fault check (map see (drop i ys)) ≡ all
      → first_fault check (map see (drop (i + 1) ys)) ≡ all
  unfolding left
  check_passed y all lt h ok e = sym (step y lt h ∙ passed (check (see y)) left ok) ∙ e

  pub check_stopped : (y : B) (s : Stop) (all : Option LoadFault) → i < length ys → y ≡ get_or ys i y
      → StopIs s (unless (check (see y)) (tt {0})) → first_fault check (map see (drop i ys)) ≡ all
      → StopIs s (unless all (tt {0}))
  check_stopped y s all lt h stop e =
      let whole = sym (both (check (see y)) left) ∙ ap (λ o. unless o (tt {0})) (sym (step y lt h) ∙ e) in
      subst (StopIs s) whole (stops s (unless (check (see y)) (tt {0})) (λ _. unless left (tt {0})) stop)

  pub checks_done : (all : Option LoadFault) → length ys ≤ i → first_fault check (map see (drop i ys)) ≡ all
      → unless all (tt {0}) ≡ Ok (tt {0})
  checks_done all le e =
      ap (λ o. unless o (tt {0})) (sym e ∙ ap (λ zs. first_fault check (map see zs)) (drop_all i ys le))
