-- A new name at the end of distinct ones leaves them distinct.
use Rattle.std.proofs.Common.{◌≡◌, ℕ, zero, suc, List, [], ◌∷◌, ◌++◌, length, Some, ◌⊎◌, inl, inr, refl, sym, ap, ◌∙◌}
use Rattle.std.proofs.Common.{subst}
use Rattle.std.specs.Prelude.{Bool, true, false, if◌then◌else◌, slice_get}
use Rattle.std.proofs.lemmas.List.{map-append}
use Rattle.rpl_core.specs.declared.rules.Rule.{Rule}
use Rattle.rpl_core.specs.Table.{AreDistinct, IsNew, names_of}

some_same : {A : Type 0} → (x y : A) → Some x ≡ Some y → x ≡ y
some_same x y e = cc

-- what stands in a list with one more at its end
pub at_or_last : {A : Type 0} → (xs : List A) (y : A) (i : ℕ) (x : A) → slice_get (xs ++ y ∷ []) i ≡ Some x
    → (slice_get xs i ≡ Some x) ⊎ ((i ≡ length xs) × (y ≡ x))
at_or_last [] y zero x e = inr (refl, some_same y x e)
at_or_last [] y (suc i) x e = absurd (cc)
at_or_last (z ∷ xs) y zero x e = inl e
at_or_last (z ∷ xs) y (suc i) x e = elim (at_or_last xs y i x e) [ inl h ↦ inl h | inr h ↦ inr (ap suc h.0, h.1) ]

distinct_more : (xs : List (List ℕ)) (y : List ℕ) → AreDistinct xs → IsNew y xs → AreDistinct (xs ++ y ∷ [])
distinct_more xs y d new i j x e f =
    elim (at_or_last xs y i x e) [
      | inl a ↦ elim (at_or_last xs y j x f) [
        | inl b ↦ d i j x a b
        | inr b ↦
            absurd (new i (a ∙ ap Some (sym b.1)))
      ]
      | inr a ↦
          elim (at_or_last xs y j x f) [ inl b ↦ absurd (new j (b ∙ ap Some (sym a.1))) | inr b ↦ a.0 ∙ sym b.0 ]
    ]

-- whether a push succeeds or not
pub distinct_pushed : (ok : Bool) (rs : List Rule) (r : Rule) → AreDistinct (names_of rs) → IsNew r.name (names_of rs)
    → AreDistinct (names_of (if ok then rs ++ r ∷ [] else rs))
distinct_pushed true rs r d new =
    subst AreDistinct (sym (map-append (λ (x : Rule). x.name) rs (r ∷ []))) (distinct_more (names_of rs) r.name d new)
distinct_pushed false rs r d new = d
