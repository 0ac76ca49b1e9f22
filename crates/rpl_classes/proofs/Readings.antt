-- Brackets, as the reader finds them.
use Rattle.std.proofs.Common.{◌≡◌, ℕ, ◌<◌, ◌≤◌, List, [], ◌∷◌, Some, refl, sym, ap, ◌∙◌, arith}
use Rattle.std.specs.Prelude.{Bool, true, false, ◌≢◌, if◌then◌else◌, Result, Ok, Err}
use Rattle.std.specs.Result.{IsErrAnd}
use Rattle.std.proofs.lemmas.Bool.{cond-true, cond-false}
use Rattle.regex_class.specs.Ranges.{Range}
use Rattle.rpl_text.specs.Places.{index, IsPlace}
use Rattle.rpl_text.proofs.Walks.{at_le}
use Rattle.rpl_classes.specs.Algebra.{others}
use Rattle.rpl_classes.specs.Symbols.{Placed, symbols_from, size, place, rest, begins}
use Rattle.rpl_classes.specs.Lists.{Reading, changed}
use Rattle.rpl_classes.specs.Brackets.{is_class, class, marked, bracket_of}
use Rattle.rpl_classes.specs.Laws.{reading, content}
use Rattle.rpl_classes.proofs.Fuel.{brackets_law, text_law}
use Rattle.rpl_classes.specs.Faults.{IsRead}
use Rattle.rpl_classes.specs.declared.brackets.Bracket.{Bracket}
use Rattle.rpl_classes.specs.inside.Operators.{OperatorAt}
use Rattle.rpl_classes.specs.declared.compounds.Operator.{Operator}
use Rattle.rpl_classes.specs.declared.compounds.Operator.TheVariants.{Both, Without}
use Rattle.rpl_classes.specs.declared.fault.SetFault.{SetFault}
use Rattle.rpl_classes.specs.declared.fault.SetFault.TheVariants.{NoMemory, BadSet}
use Rattle.rpl_classes.proofs.ListSteps.{place_from}

pub size_place : (t : List ℕ) (q : ℕ) → IsPlace t q → q ≤ size t
size_place t q h = omega (arith, at_le t (index t q))

pub operator_goes : (t : List ℕ) (p q : ℕ) (o : Operator) → OperatorAt t p (Some (o, q)) → IsPlace t q × (p < q)
operator_goes t p q Both g = (g.1.next, g.1.forward)
operator_goes t p q Without g = (g.2.next, g.2.forward)

pub start_place : (t : List ℕ) → IsPlace t 0
start_place [] = refl
start_place (c ∷ cs) = refl

-- ---- a bracket, by what stands after its `[`

abbrev behind_mark : List Placed → Reading
behind_mark s = if begins 94 s then changed others (content (rest s)) else content s

abbrev behind_open : ℕ → List Placed → Reading
behind_open p s = if is_class s then class p s else behind_mark s

pub bracket_none : (t : List ℕ) (p : ℕ) → begins 91 (symbols_from t p) ≡ false
    → reading (symbols_from t p) ≡ Err (BadSet p)
bracket_none t p h =
    let s = symbols_from t p in
    brackets_law s ∙ (cond-false (begins 91 s) (behind_open (place s) (rest s)) (Err (BadSet (place s))) h
    ∙ ap (λ k. Err (BadSet k)) (place_from t p))

pub bracket_opens : (t : List ℕ) (p q : ℕ) → begins 91 (symbols_from t p) ≡ true
    → rest (symbols_from t p) ≡ symbols_from t q → reading (symbols_from t p) ≡ behind_open p (symbols_from t q)
bracket_opens t p q h r =
    let s = symbols_from t p in
    brackets_law s ∙ (cond-true (begins 91 s) (behind_open (place s) (rest s)) (Err (BadSet (place s))) h
    ∙ (ap (λ k. behind_open k (rest s)) (place_from t p) ∙ ap (behind_open p) r))

pub bracket_class : (t : List ℕ) (p q : ℕ) → begins 91 (symbols_from t p) ≡ true
    → rest (symbols_from t p) ≡ symbols_from t q → is_class (symbols_from t q) ≡ true
    → reading (symbols_from t p) ≡ class p (symbols_from t q)
bracket_class t p q h r k = bracket_opens t p q h r
    ∙ cond-true (is_class (symbols_from t q)) (class p (symbols_from t q)) (behind_mark (symbols_from t q)) k

pub bracket_plain : (t : List ℕ) (p q : ℕ) → begins 91 (symbols_from t p) ≡ true
    → rest (symbols_from t p) ≡ symbols_from t q → is_class (symbols_from t q) ≡ false
    → begins 94 (symbols_from t q) ≡ false
    → reading (symbols_from t p) ≡ content (symbols_from t q)
bracket_plain t p q h r k m =
    let s = symbols_from t q in
    bracket_opens t p q h r ∙ (cond-false (is_class s) (class p s) (behind_mark s) k
    ∙ cond-false (begins 94 s) (changed others (content (rest s))) (content s) m)

pub bracket_marked : (t : List ℕ) (p q d : ℕ) → begins 91 (symbols_from t p) ≡ true
    → rest (symbols_from t p) ≡ symbols_from t q → is_class (symbols_from t q) ≡ false
    → begins 94 (symbols_from t q) ≡ true
    → rest (symbols_from t q) ≡ symbols_from t d
    → reading (symbols_from t p) ≡ changed others (content (symbols_from t d))
bracket_marked t p q d h r k m e =
    let s = symbols_from t q in
    bracket_opens t p q h r ∙ (cond-false (is_class s) (class p s) (behind_mark s) k
    ∙ (cond-true (begins 94 s) (changed others (content (rest s))) (content s) m
    ∙ ap (λ x. changed others (content x)) e))

-- ---- what stands after a `[` and `^`

-- ---- the whole text

abbrev Whole : Type 0
Whole = Result (List Range × Bool) SetFault

abbrev whole_mark : List Placed → Whole
whole_mark s = if begins 94 s then marked true (content (rest s)) else marked false (content s)

abbrev whole_open : ℕ → List Placed → Whole
whole_open p s = if is_class s then marked false (class p s) else whole_mark s

pub whole_none : (t : List ℕ) → begins 91 (symbols_from t 0) ≡ false → bracket_of t ≡ Err (BadSet 0)
whole_none t h =
    let s = symbols_from t 0 in
    text_law t ∙ (cond-false (begins 91 s) (whole_open (place s) (rest s)) (Err (BadSet (place s))) h
    ∙ ap (λ k. Err (BadSet k)) (place_from t 0))

whole_opens : (t : List ℕ) (q : ℕ) → begins 91 (symbols_from t 0) ≡ true → rest (symbols_from t 0) ≡ symbols_from t q
    → bracket_of t ≡ whole_open 0 (symbols_from t q)
whole_opens t q h r =
    let s = symbols_from t 0 in
    text_law t ∙ (cond-true (begins 91 s) (whole_open (place s) (rest s)) (Err (BadSet (place s))) h
    ∙ (ap (λ k. whole_open k (rest s)) (place_from t 0) ∙ ap (whole_open 0) r))

pub whole_class : (t : List ℕ) (q : ℕ) → begins 91 (symbols_from t 0) ≡ true
    → rest (symbols_from t 0) ≡ symbols_from t q → is_class (symbols_from t q) ≡ true
    → bracket_of t ≡ marked false (class 0 (symbols_from t q))
whole_class t q h r k = whole_opens t q h r
    ∙ cond-true (is_class (symbols_from t q)) (marked false (class 0 (symbols_from t q)))
    (whole_mark (symbols_from t q))
    k

pub whole_plain : (t : List ℕ) (q : ℕ) → begins 91 (symbols_from t 0) ≡ true
    → rest (symbols_from t 0) ≡ symbols_from t q → is_class (symbols_from t q) ≡ false
    → begins 94 (symbols_from t q) ≡ false
    → bracket_of t ≡ marked false (content (symbols_from t q))
whole_plain t q h r k m =
    let s = symbols_from t q in
    whole_opens t q h r ∙ (cond-false (is_class s) (marked false (class 0 s)) (whole_mark s) k
    ∙ cond-false (begins 94 s) (marked true (content (rest s))) (marked false (content s)) m)

pub whole_marked : (t : List ℕ) (q d : ℕ) → begins 91 (symbols_from t 0) ≡ true
    → rest (symbols_from t 0) ≡ symbols_from t q → is_class (symbols_from t q) ≡ false
    → begins 94 (symbols_from t q) ≡ true
    → rest (symbols_from t q) ≡ symbols_from t d → bracket_of t ≡ marked true (content (symbols_from t d))
whole_marked t q d h r k m e =
    let s = symbols_from t q in
    whole_opens t q h r ∙ (cond-false (is_class s) (marked false (class 0 s)) (whole_mark s) k
    ∙ (cond-true (begins 94 s) (marked true (content (rest s))) (marked false (content s)) m
    ∙ ap (λ x. marked true (content x)) e))

-- what the whole reads as, from what its inside reads as
pub read_ok : (w : Whole) (r : Reading) (b : Bracket) (s : List Placed) → w ≡ marked b.negated r → r ≡ Ok (b.set, s)
    → IsRead w (Ok b)
read_ok w r b s e h = e ∙ ap (marked b.negated) h

pub read_err : (w : Whole) (r : Reading) (m : Bool) (a : Result Bracket SetFault) (e : SetFault)
    → IsErrAnd a (λ f. f ≡ e) → w ≡ marked m r → (e ≢ NoMemory → r ≡ Err e) → IsRead w a
read_err w r m (Ok b) e h i g = absurd h
read_err w r m (Err f) e h i g = λ n. i ∙ ap (marked m) (g (λ k. n (h ∙ k))) ∙ ap Err (sym h)
