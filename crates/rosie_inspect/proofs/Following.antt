-- Lines stand in the order of their names.
use Rattle.std.proofs.Common.{◌≡◌, ℕ, ◌<◌, List, [], ◌∷◌, ◌++◌, Option, Some, None, refl, ap, ap₂, ◌∙◌, arith}
use Rattle.std.proofs.Common.{append_assoc}
use Rattle.std.specs.Prelude.{◌≢◌, codes, encode_utf8_all}
use Rattle.std.specs.Cmp.Lexicographic.{slice_cmp}
use Rattle.std.specs.List.{AllByRecursion}
use Rattle.std.specs.Ordering.{nat_cmp, ordering_then}
use Rattle.std.specs.declared.cmp.Ordering.{Ordering}
use Rattle.std.specs.declared.cmp.Ordering.TheVariants.{Less, Equal, Greater}
use Rattle.std.proofs.lemmas.Bool.Decides.{nat_tests}
use Rattle.rosie_inspect.specs.Laws.{LinesFollowNames}
use Rattle.rosie_inspect.specs.Names.{label_text}

less : (x y : ℕ) → x < y → nat_cmp x y ≡ Less
less x y h = grind (arith, nat_tests)

greater : (x y : ℕ) → y < x → nat_cmp x y ≡ Greater
greater x y h = grind (arith, nat_tests)

equal : (x y : ℕ) → nat_cmp x y ≡ Equal → x ≡ y
equal x y h = grind (arith, nat_tests)

abbrev Solid : List ℕ → Type 0
Solid = AllByRecursion (λ b. 32 < b)

follow : (xs ys us vs : List ℕ) → Solid xs → Solid ys → xs ≢ ys
    → slice_cmp nat_cmp (xs ++ 32 ∷ us) (ys ++ 32 ∷ vs) ≡ slice_cmp nat_cmp xs ys
follow [] [] us vs g h d = absurd (d refl)
follow [] (y ∷ ys) us vs g h d = ap (λ r. ordering_then r (slice_cmp nat_cmp us (ys ++ 32 ∷ vs))) (less 32 y h.0)
follow (x ∷ xs) [] us vs g h d = ap (λ r. ordering_then r (slice_cmp nat_cmp (xs ++ 32 ∷ us) vs)) (greater x 32 g.0)
follow (x ∷ xs) (y ∷ ys) us vs g h d = by (follow xs ys us vs g.1 h.1) (nat_cmp x y) refl
  where
    by : (xs ≢ ys → slice_cmp nat_cmp (xs ++ 32 ∷ us) (ys ++ 32 ∷ vs) ≡ slice_cmp nat_cmp xs ys)
        → (r : Ordering) → nat_cmp x y ≡ r
        → ordering_then r (slice_cmp nat_cmp (xs ++ 32 ∷ us) (ys ++ 32 ∷ vs))
        ≡ ordering_then r (slice_cmp nat_cmp xs ys)
    by rest Less e = refl
    by rest Greater e = refl
    by rest Equal e = rest (λ same. d (ap₂ (λ z zs. z ∷ zs) (equal x y e) same))

-- the name, and after it what begins with a space
line_is : (n : List ℕ) (a : Option (List ℕ))
    → (us : List ℕ) × ((n ++ label_text a) ++ codes "\n" ≡ n ++ 32 ∷ us)
line_is n None = (codes "alias -" ++ codes "\n", append_assoc n (codes " alias -") (codes "\n"))
line_is n (Some l) = (
  (codes "capture " ++ encode_utf8_all l) ++ codes "\n",
  append_assoc n (codes " capture " ++ encode_utf8_all l) (codes "\n"),
)

pub lines_follow_names : LinesFollowNames
lines_follow_names k l g h d =
    let a = line_is (encode_utf8_all k.name) k.label in
    let b = line_is (encode_utf8_all l.name) l.label in
    ap₂ (slice_cmp nat_cmp) a.1 b.1 ∙ follow (encode_utf8_all k.name) (encode_utf8_all l.name) a.0 b.0 g h d
