-- A text that takes the place of another, and what undoes it.
use Rattle.std.proofs.Common.{◌≡◌, ℕ, zero, suc, ◌-◌, ◌<◌, ◌≤◌, Bool, true, List, [], ◌∷◌, ◌++◌, length, get_or, Some}
use Rattle.std.proofs.Common.{None, refl, sym, ap, subst, ◌∙◌, arith}
use Rattle.std.specs.Prelude.{reverse, slice_set, if◌then◌else◌}
use Rattle.std.proofs.lemmas.List.{reverse-append}
use Rattle.std.proofs.lemmas.Bool.Decides.{nat_tests}
use Rattle.rosie_repl.specs.Edits.{Replace}
use Rattle.rosie_repl.specs.Session.{KeptTexts, Session, is_number_of, onward, changed}
use Rattle.rosie_repl.specs.inside.Kept.{before, befores, session_by}
use Rattle.rosie_repl.specs.Outcomes.{GoesOn}
use Rattle.rosie_repl.specs.declared.undoing.Undoing.{Undoing}
use Rattle.rosie_repl.specs.declared.undoing.Undoing.TheVariants as U

restored : (ts : List (List ℕ)) (i : ℕ) (x old d : List ℕ) → i < length ts → old ≡ get_or ts i d
    → slice_set (slice_set ts i x) i old ≡ ts
restored [] i x old d lt e = absurd (omega arith)
restored (t ∷ ts) zero x old d lt e = ap (λ y. y ∷ ts) e
restored (t ∷ ts) (suc i) x old d lt e = ap (λ ys. t ∷ ys) (restored ts i x old d (omega arith) e)

pub pushed : (k l : KeptTexts) (us : List Undoing) (u : Undoing) → before u l ≡ k
    → session_by l (us ++ u ∷ []) ≡ record { now = l; past = k ∷ befores (reverse us) k }
pushed k l us u e =
    let s : befores (reverse (us ++ u ∷ [])) l ≡ befores (u ∷ reverse us) l =
    ap (λ x. befores x l) (reverse-append us (u ∷ [])) in
    let p : befores (reverse (us ++ u ∷ [])) l ≡ k ∷ befores (reverse us) k = s
    ∙ ap (λ x. x ∷ befores (reverse us) x) e in
    let S : List KeptTexts → Session = λ x. record { now = l; past = x } in
    ap S p

pub replaced : (k : KeptTexts) (ts : List (List ℕ)) (us vs : List Undoing) (n : ℕ) (x text old d : List ℕ) → (n ≡ 0 → ⊥)
    → n ≤ length k.texts → ts ≡ slice_set k.texts (n - 1) x → x ≡ text → old ≡ get_or k.texts (n - 1) d
    → vs ≡ us ++ U.Replaced (n - 1) old ∷ []
    → GoesOn (session_by k us) (session_by (record { texts = ts; pattern = k.pattern }) vs)
    (changed (Replace n text) (session_by k us)) true
replaced k ts us vs n x text old d pos le e f g h =
    let l : KeptTexts = record { texts = slice_set k.texts (n - 1) text; pattern = k.pattern } in
    let same : slice_set k.texts (n - 1) x ≡ slice_set k.texts (n - 1) text = ap (slice_set k.texts (n - 1)) f in
    let kk : List (List ℕ) → KeptTexts = λ y. record { texts = y; pattern = k.pattern } in
    let b : is_number_of k.texts n ≡ true = grind (arith, nat_tests) in
    let back : before (U.Replaced (n - 1) old) l ≡ k = ap kk (restored k.texts (n - 1) text old d (omega arith) g) in
    let q : session_by (kk ts) vs ≡ record { now = l; past = k ∷ befores (reverse us) k } =
    ap (λ y. session_by (kk y) vs) (e ∙ same) ∙ ap (session_by l) h ∙ pushed k l us (U.Replaced (n - 1) old) back in
    let P : Bool → Type 0 =
    λ y. GoesOn (session_by k us) (session_by (kk ts) vs) (onward (session_by k us) (if y then Some l else None)) true
    in
    subst P (sym b) (refl, q)
