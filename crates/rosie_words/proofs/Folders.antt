-- The parts of a library path.
use Rattle.std.proofs.Common.{◌≡◌, ℕ, zero, suc, ◌<◌, Bool, true, false, List, [], ◌∷◌, length, get_or, map, Some, None}
use Rattle.std.proofs.Common.{chars, refl, arith}
use Rattle.std.specs.Prelude.{not, ◌==◌}
use Rattle.std.specs.List.{list_all}
use Rattle.std.proofs.lemmas.Bool.Decides.{nat_tests}
use Rattle.rosie_words.specs.Values.{is_empty, parts, path_of}

abbrev pub is_named : List ℕ → Bool
is_named p = not (is_empty p)

list_all_fails : (xs : List (List ℕ)) (n : ℕ) (d : List ℕ) → n < length xs → is_named (get_or xs n d) ≡ false
    → list_all is_named xs ≡ false
list_all_fails [] n d lt e = absurd (omega arith)
list_all_fails (x ∷ xs) zero d lt e = rw e refl
list_all_fails (x ∷ xs) (suc n) d lt e = let h = list_all_fails xs n d (omega arith) e in grind (arith, nat_tests)

unnamed : (p : List ℕ) (b : Bool) → b ≡ (length p == 0) → b ≡ true → is_named p ≡ false
unnamed [] b e h = refl
unnamed (x ∷ xs) b e h = grind (arith, nat_tests)

pub has_empty : (w p : List ℕ) (n : ℕ) (b : Bool) → n < length (parts w) → p ≡ get_or (parts w) n p
    → b ≡ (length p == 0) → b ≡ true → None ≡ path_of w
has_empty w p n b lt at e h =
    let f = list_all_fails (parts w) n p lt (rw (← at) (unnamed p b e h)) in
    rw f refl

pub all_named : (w : List ℕ) (ps : List (List ℕ)) (fs : List (List ℕ)) → ps ≡ parts w → list_all is_named ps ≡ true
    → fs ≡ map chars ps → Some fs ≡ path_of w
all_named w ps fs is all fold =
    let h : list_all is_named (parts w) ≡ true = rw is at all in
    let k : fs ≡ map chars (parts w) = rw is at fold in
    rw (h, k) refl
