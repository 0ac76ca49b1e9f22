-- A list of characters, symbol by symbol.
use Rattle.std.proofs.Common.{◌≡◌, ℕ, List, [], ◌∷◌, drop, Option, Some, None, refl, sym, ap, subst, ◌∙◌, arith}
use Rattle.std.specs.Prelude.{Bool, true, false, not, ◌&&◌, nat_eq, if◌then◌else◌, Ok, Err}
use Rattle.std.proofs.lemmas.Bool.{cond-true, cond-false, and_from}
use Rattle.rpl_text.specs.Places.{index}
use Rattle.rpl_text.specs.Escapes.{escape}
use Rattle.rpl_classes.specs.Symbols.{Placed, escaped, symbols, symbols_from, first, place, rest, is_plain, begins}
use Rattle.rpl_classes.specs.Lists.{Reading, changed, is_member, char_of, each}
use Rattle.rpl_classes.specs.inside.Scanned.{Passed, RangeFound}
use Rattle.rpl_classes.specs.declared.symbols.Symbol.{Symbol}
use Rattle.rpl_classes.specs.declared.symbols.Symbol.TheVariants.{Plain, Escaped, End}
use Rattle.rpl_classes.specs.declared.fault.SetFault.TheVariants.{BadRange, BadSet}
use Rattle.rpl_classes.proofs.Scans.{symbols_nil, symbols_cons}

-- some symbol stands at each place
pub record Shape (p : ℕ) (s : List Placed) : Type 0 where
  pub symbol : Symbol
  pub others : List Placed
  pub is : s ≡ (p, symbol) ∷ others

shape_by : (p : ℕ) (c : ℕ) (b : Bool) (o : Option (ℕ × ℕ)) (f : ℕ → List Placed) (r : List Placed)
    → Shape p (if b then escaped p o f else (p, Plain c) ∷ r)
shape_by p c true None f r = record { symbol = End; others = []; is = refl }
shape_by p c true (Some (v, k)) f r = record { symbol = Escaped v; others = f k; is = refl }
shape_by p c false o f r = record { symbol = Plain c; others = r; is = refl }

shape_of : (p : ℕ) (cs : List ℕ) → Shape p (symbols 0 p cs)
shape_of p [] = record { symbol = End; others = []; is = symbols_nil p }
shape_of p (c ∷ cs) = subst (Shape p) (sym (symbols_cons p c cs)) (shape_by p c (nat_eq c 92) (escape cs) _ _)

pub shape : (t : List ℕ) (p : ℕ) → Shape p (symbols_from t p)
shape t p = shape_of p (drop (index t p) t)

pub place_from : (t : List ℕ) (p : ℕ) → place (symbols_from t p) ≡ p
place_from t p = let s = shape t p in ap place s.is

each_cons : (b : Bool) (x : Placed) (s : List Placed) → each b (x ∷ s) ≡ (
    if is_plain 93 x.1 then (if b then Err (BadSet x.0) else Ok ([], s))
    else (if not (is_member x.1) then Err (BadSet x.0)
    else (if is_plain 45 x.1 && (not b && not (begins 93 s)) then Err (BadRange x.0)
    else changed (λ a. (char_of x.1, char_of x.1) ∷ a) (each false s))))
unfolding each
each_cons b x s = refl

-- what a list is by its first symbol
abbrev closing : Bool → ℕ → List Placed → Reading
closing b p s = if b then Err (BadSet p) else Ok ([], rest s)

abbrev added : List Placed → Reading
added s = changed (λ a. (char_of (first s), char_of (first s)) ∷ a) (each false (rest s))

abbrev inner : Bool → ℕ → List Placed → Reading
inner b p s = if begins 45 s && (not b && not (begins 93 (rest s))) then Err (BadRange p) else added s

abbrev other : Bool → ℕ → List Placed → Reading
other b p s = if not (is_member (first s)) then Err (BadSet p) else inner b p s

abbrev each_by : Bool → ℕ → List Placed → Reading
each_by b p s = if begins 93 s then closing b p s else other b p s

each_from : (t : List ℕ) (p : ℕ) (b : Bool) → each b (symbols_from t p) ≡ each_by b p (symbols_from t p)
each_from t p b = let s = shape t p in ap (each b) s.is ∙ each_cons b (p, s.symbol) s.others
    ∙ sym (ap (each_by b p) s.is)

at_close : (t : List ℕ) (p : ℕ) (b : Bool) → begins 93 (symbols_from t p) ≡ true
    → each b (symbols_from t p) ≡ closing b p (symbols_from t p)
at_close t p b h = each_from t p b
    ∙ cond-true (begins 93 (symbols_from t p)) (closing b p (symbols_from t p)) (other b p (symbols_from t p)) h

at_other : (t : List ℕ) (p : ℕ) (b : Bool) → begins 93 (symbols_from t p) ≡ false
    → each b (symbols_from t p) ≡ other b p (symbols_from t p)
at_other t p b h = each_from t p b
    ∙ cond-false (begins 93 (symbols_from t p)) (closing b p (symbols_from t p)) (other b p (symbols_from t p)) h

at_inner : (t : List ℕ) (p : ℕ) (b : Bool) → begins 93 (symbols_from t p) ≡ false
    → is_member (first (symbols_from t p)) ≡ true → each b (symbols_from t p) ≡ inner b p (symbols_from t p)
at_inner t p b h m = at_other t p b h
    ∙ cond-false (not (is_member (first (symbols_from t p)))) (Err (BadSet p)) (inner b p (symbols_from t p)) (ap not m)

pub each_close : (t : List ℕ) (p q : ℕ) (b : Bool) → b ≡ false → begins 93 (symbols_from t p) ≡ true
    → rest (symbols_from t p) ≡ symbols_from t q → each b (symbols_from t p) ≡ Ok ([], symbols_from t q)
each_close t p q b f h e = at_close t p b h ∙ cond-false b (Err (BadSet p)) (Ok ([], rest (symbols_from t p))) f
    ∙ ap (λ (s : List Placed). Ok ([], s)) e

pub each_empty : (t : List ℕ) (p : ℕ) (b : Bool) → b ≡ true → begins 93 (symbols_from t p) ≡ true
    → each b (symbols_from t p) ≡ Err (BadSet p)
each_empty t p b f h = at_close t p b h ∙ cond-true b (Err (BadSet p)) (Ok ([], rest (symbols_from t p))) f

pub each_other : (t : List ℕ) (p : ℕ) (b : Bool) → begins 93 (symbols_from t p) ≡ false
    → is_member (first (symbols_from t p)) ≡ false → each b (symbols_from t p) ≡ Err (BadSet p)
each_other t p b h m = at_other t p b h
    ∙ cond-true (not (is_member (first (symbols_from t p)))) (Err (BadSet p)) (inner b p (symbols_from t p)) (ap not m)

pub each_dash : (t : List ℕ) (p : ℕ) (b : Bool) → begins 93 (symbols_from t p) ≡ false
    → is_member (first (symbols_from t p)) ≡ true
    → (begins 45 (symbols_from t p) && (not b && not (begins 93 (rest (symbols_from t p))))) ≡ true
    → each b (symbols_from t p) ≡ Err (BadRange p)
each_dash t p b h m d = at_inner t p b h m
    ∙ cond-true (begins 45 (symbols_from t p) && (not b && not (begins 93 (rest (symbols_from t p)))))
    (Err (BadRange p)) (added (symbols_from t p)) d

pub each_member : (t : List ℕ) (p q c : ℕ) (b : Bool) → begins 93 (symbols_from t p) ≡ false
    → is_member (first (symbols_from t p)) ≡ true → char_of (first (symbols_from t p)) ≡ c
    → (begins 45 (symbols_from t p) && (not b && not (begins 93 (rest (symbols_from t p))))) ≡ false
    → rest (symbols_from t p) ≡ symbols_from t q
    → each b (symbols_from t p) ≡ changed (λ a. (c, c) ∷ a) (each false (symbols_from t q))
each_member t p q c b h m e d r = at_inner t p b h m
    ∙ cond-false (begins 45 (symbols_from t p) && (not b && not (begins 93 (rest (symbols_from t p)))))
    (Err (BadRange p)) (added (symbols_from t p)) d
    ∙ ap (λ k. changed (λ a. (k, k) ∷ a) (each false (rest (symbols_from t p)))) e
    ∙ ap (λ s. changed (λ a. (c, c) ∷ a) (each false s)) r

-- a list of three, found piece by piece
pub three_found : (t : List ℕ) (p low dash behind high end next : ℕ)
    → is_member (first (symbols_from t p)) ≡ true → char_of (first (symbols_from t p)) ≡ low
    → Passed t p (rest (symbols_from t p)) dash
    → begins 45 (symbols_from t dash) ≡ true → Passed t dash (rest (symbols_from t dash)) behind
    → is_member (first (symbols_from t behind)) ≡ true → char_of (first (symbols_from t behind)) ≡ high
    → Passed t behind (rest (symbols_from t behind)) end
    → begins 93 (symbols_from t end) ≡ true → Passed t end (rest (symbols_from t end)) next
    → RangeFound t p low dash high next
three_found t p low dash behind high end next m l p1 a p2 n h p3 b p4 =
    let second : rest (rest (symbols_from t p)) ≡ symbols_from t behind = ap rest p1.left ∙ p2.left in
    let third : rest (rest (rest (symbols_from t p))) ≡ symbols_from t end = ap rest second ∙ p3.left in
    record {
      is = and_from _ _ m (and_from _ _ (ap (begins 45) p1.left
          ∙ a) (and_from _ _ (ap (λ s. is_member (first s)) second ∙ n) (ap (begins 93) third ∙ b)));
      low_end = l;
      high_end = ap (λ s. char_of (first s)) second ∙ h;
      dash_place = ap place p1.left ∙ place_from t dash;
      behind = record {
        left = ap rest third ∙ p4.left;
        next = p4.next;
        forward = omega (arith, p1.forward, p2.forward, p3.forward, p4.forward);
      };
    }
