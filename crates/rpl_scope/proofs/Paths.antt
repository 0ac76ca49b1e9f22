-- The last part of a path, character by character.
use Rattle.std.proofs.Common.{arith, ◌≡◌, inl, inr, ℕ, List, [], ◌∷◌, ◌++◌, refl, sym, ap, subst, ◌∙◌, append_assoc}
use Rattle.std.specs.Prelude.{Bool, true, false, nat_eq, if◌then◌else◌}
use Rattle.std.proofs.lemmas.Bool.Decides.{nat_tests}
use Rattle.std.proofs.lemmas.List.{append-nil}
use Rattle.rpl_scope.specs.Imports.{last_part}
use Rattle.rpl_scope.specs.Laws.{HasNoSlash, EndsPath, LastPartsEnd}

either : (b : Bool) (x x1 y y1 : List ℕ) (c : ℕ) → x ≡ (if nat_eq c 47 then [] else x1 ++ c ∷ [])
    → y ≡ (if nat_eq c 47 then [] else y1 ++ c ∷ [])
    → (if b then x else y) ≡ (if nat_eq c 47 then [] else (if b then x1 else y1) ++ c ∷ [])
either true x x1 y y1 c h k = h
either false x x1 y y1 c h k = k

-- what stands after the last slash, one character further
pub last_more : (acc p : List ℕ) (c : ℕ) → last_part acc (p ++ c ∷ []) ≡ (if nat_eq c 47 then []
    else last_part acc p ++ c ∷ [])
last_more acc [] c = refl
last_more acc (d ∷ p) c = either (nat_eq d 47) _ _ _ _ c (last_more [] p c) (last_more (acc ++ d ∷ []) p c)

-- ---- it ends the path

no_slash_append : (p q : List ℕ) → HasNoSlash p → HasNoSlash q → HasNoSlash (p ++ q)
no_slash_append [] q h k = k
no_slash_append (c ∷ p) q h k = (h.0, no_slash_append p q h.1 k)

after : (acc p x : List ℕ) → EndsPath p x → EndsPath (acc ++ 47 ∷ p) x
after acc p x (h, inl e) = (h, inr (acc, ap (λ y. acc ++ 47 ∷ y) e))
after acc p x (h, inr e) =
    (h, inr (acc ++ 47 ∷ e.0, ap (λ y. acc ++ 47 ∷ y) e.1 ∙ sym (append_assoc acc (47 ∷ e.0) (47 ∷ x))))

ends : (acc p : List ℕ) → HasNoSlash acc → EndsPath (acc ++ p) (last_part acc p)
ends acc [] h = (h, inl (append-nil acc))
ends acc (c ∷ p) h = by (nat_eq c 47) refl (ends [] p (tt {0})) (ends (acc ++ c ∷ []) p)
  where
    by : (b : Bool) → nat_eq c 47 ≡ b → EndsPath p (last_part [] p)
        → (HasNoSlash (acc ++ c ∷ []) → EndsPath ((acc ++ c ∷ []) ++ p) (last_part (acc ++ c ∷ []) p))
        → EndsPath (acc ++ c ∷ p) (if b then last_part [] p else last_part (acc ++ c ∷ []) p)
    by true e rest more =
        let slash : c ≡ 47 = grind (arith, nat_tests) in
        subst (λ d. EndsPath (acc ++ d ∷ p) (last_part [] p)) (sym slash) (after acc p (last_part [] p) rest)
    by false e rest more =
        let other : c ≡ 47 → ⊥ = λ s. absurd (let t : nat_eq c 47 ≡ true = grind (arith, nat_tests) in cc) in
        subst (λ y. EndsPath y (last_part (acc ++ c ∷ []) p)) (append_assoc acc (c ∷ []) p)
        (more (no_slash_append acc (c ∷ []) h (other, tt {0})))

-- ---- nothing else does

other_than : (c : ℕ) → (c ≡ 47 → ⊥) → nat_eq c 47 ≡ false
other_than c h = by (nat_eq c 47) refl
  where
    by : (b : Bool) → nat_eq c 47 ≡ b → nat_eq c 47 ≡ false
    by true e = absurd (h (grind (arith, nat_tests)))
    by false e = e

alone : (acc p : List ℕ) → HasNoSlash p → last_part acc p ≡ acc ++ p
alone acc [] h = sym (append-nil acc)
alone acc (c ∷ p) h =
    let other : nat_eq c 47 ≡ false = other_than c h.0 in
    ap (λ b. if b then last_part [] p else last_part (acc ++ c ∷ []) p) other
    ∙ alone (acc ++ c ∷ []) p h.1 ∙ append_assoc acc (c ∷ []) p

both_ways : (b : Bool) (x y z : List ℕ) → x ≡ z → y ≡ z → (if b then x else y) ≡ z
both_ways true x y z h k = h
both_ways false x y z h k = k

behind : (acc front x : List ℕ) → last_part acc (front ++ 47 ∷ x) ≡ last_part [] x
behind acc [] x = refl
behind acc (c ∷ front) x = both_ways (nat_eq c 47) _ _ _ (behind [] front x) (behind (acc ++ c ∷ []) front x)

only : (path part : List ℕ) → EndsPath path part → part ≡ last_part [] path
only path part (h, inl e) = sym (ap (last_part []) e ∙ alone [] part h)
only path part (h, inr e) = sym (ap (last_part []) e.1 ∙ behind [] e.0 part ∙ alone [] part h)

pub last_parts : LastPartsEnd
last_parts path part = (λ e. subst (EndsPath path) (sym e) (ends [] path (tt {0})), only path part)
