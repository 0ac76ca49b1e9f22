-- Brackets and bounds of which it is known how they are written stand where they are written.
use Rattle.std.proofs.Common.{◌≡◌, ℕ, suc, ◌+◌, ◌-◌, List, [], ◌∷◌, ◌++◌, None, length, take, Some, refl, sym, ap}
use Rattle.std.proofs.Common.{subst, ◌∙◌, arith, append_assoc, length-append}
use Rattle.std.specs.Prelude.{Bool, true, false, ◌&&◌, is_some, nat_eq}
use Rattle.std.proofs.Math.Seq.{take-append-add}
use Rattle.std.proofs.lemmas.Bool.Decides.{nat_tests}
use Rattle.std.specs.List.{list_all}
use Rattle.rpl_text.specs.Escapes.{escape}
use Rattle.rpl_lexer.specs.declared.token.TokenKind.TheVariants as K
use Rattle.rpl_lexer.specs.declared.enclosed.Enclosure.TheVariants.{Brackets}
use Rattle.rpl_lexer.specs.declared.front.Stand.{Stand}
use Rattle.rpl_lexer.specs.declared.fault.LexKind.TheVariants.{NumberTooWide}
use Rattle.rpl_lexer.specs.declared.front.Stand.TheVariants.{Found, Fault}
use Rattle.rpl_lexer.specs.Bytes.{has}
use Rattle.rpl_lexer.specs.Enclosed.{plus, close, bad, by_bad, by_close}
use Rattle.rpl_lexer.specs.Braces.{parts, is_wide, begins_bounds, brace_stands}
use Rattle.rpl_lexer.specs.Fronts.{stands}
use Rattle.rpl_lexer.specs.Written.{is_inner, InBracket, nothing_in, inner_in, escaped_in, bracket_in}
use Rattle.rpl_lexer.proofs.Spans.{left, right}
use Rattle.rpl_lexer.proofs.Walks.{plus_none}
use Rattle.rpl_lexer.proofs.Quotes.{one_plus, plus_more, take_one, shape}
use Rattle.rpl_lexer.proofs.Ways.{Braced, opening, unmet, wide_least, wide_most, met, braced}

-- ---- brackets

-- what may stand in a bracket: such bytes, escapes, and further brackets
pub data Bracketed : List ℕ → Type 0 where
  nothing : Bracketed []
  inner : (b : ℕ) (u : List ℕ) → is_inner b ≡ true → Bracketed u → Bracketed (b ∷ u)
  hidden : (l : ℕ) (u : List ℕ) → nat_eq l 10 ≡ false → ((x : List ℕ) → is_some (escape (l ∷ (u ++ x))) ≡ true)
      → Bracketed u → Bracketed (92 ∷ l ∷ u)
  nested : (v u : List ℕ) → Bracketed v → Bracketed u → Bracketed (91 ∷ v ++ 93 ∷ u)

-- the walk passes over these bytes
record Walked (u : List ℕ) : Type 0 where
  closes : (n : ℕ) (x : List ℕ) → close Brackets n false (u ++ x) ≡ plus (length u) (close Brackets n false x)
  fine : (x : List ℕ) → bad false x ≡ None → bad false (u ++ x) ≡ None

record Inner (b : ℕ) : Type 0 where
  line : nat_eq b 10 ≡ false
  slash : nat_eq b 92 ≡ false
  opens : nat_eq b 91 ≡ false
  closes : nat_eq b 93 ≡ false

inner_is : (b : ℕ) → is_inner b ≡ true → Inner b
inner_is b h = record {
  line = grind (arith, nat_tests);
  slash = grind (arith, nat_tests);
  opens = grind (arith, nat_tests);
  closes = grind (arith, nat_tests);
}

and_none : (b : Bool) → (b && false) ≡ false
and_none true = refl
and_none false = refl

close_inner : (b : ℕ) (u : List ℕ) (n : ℕ) (x : List ℕ) → Inner b → Walked u
    → close Brackets n false (b ∷ (u ++ x)) ≡ plus (suc (length u)) (close Brackets n false x)
close_inner b u n x i w =
    let l = i.line in
    let c = i.closes in
    let o = i.opens in
    let s = i.slash in
    rw (l, c, and_none (nat_eq n 0), o, s) (ap (plus 1) (w.closes n x) ∙ one_plus (length u) (close Brackets n false x))

bad_inner : (b : ℕ) (u x : List ℕ) → Inner b → Walked u → bad false x ≡ None → bad false (b ∷ (u ++ x)) ≡ None
bad_inner b u x i w e = let s = i.slash in rw s (ap (plus 1) (w.fine x e))

close_hidden : (l : ℕ) (u : List ℕ) (n : ℕ) (x : List ℕ) → nat_eq l 10 ≡ false → Walked u
    → close Brackets n false (92 ∷ l ∷ (u ++ x)) ≡ plus (suc (suc (length u))) (close Brackets n false x)
close_hidden l u n x h w =
    rw (and_none (nat_eq n 0), h) (ap (λ o. plus 1 (plus 1 o)) (w.closes n x)
    ∙ ap (plus 1) (one_plus (length u) (close Brackets n false x))
    ∙ one_plus (suc (length u)) (close Brackets n false x))

bad_hidden : (l : ℕ) (u x : List ℕ) → is_some (escape (l ∷ (u ++ x))) ≡ true → Walked u → bad false x ≡ None
    → bad false (92 ∷ l ∷ (u ++ x)) ≡ None
bad_hidden l u x s w e = rw s (ap (λ o. plus 1 (plus 1 o)) (w.fine x e))

no_zero : (n : ℕ) → nat_eq (n + 1) 0 ≡ false
no_zero n = grind (arith, nat_tests)

shut : (n : ℕ) (y : List ℕ) → close Brackets (n + 1) false (93 ∷ y) ≡ plus 1 (close Brackets n false y)
shut n y = let e : n + 1 - 1 ≡ n = omega arith in rw (no_zero n, e) refl

one_more : (n : ℕ) (y : List ℕ) → close Brackets n false (91 ∷ y) ≡ plus 1 (close Brackets (n + 1) false y)
one_more n y = rw (and_none (nat_eq n 0)) refl

close_nested : (v u : List ℕ) (n : ℕ) (x : List ℕ) → Walked v → Walked u
    → close Brackets n false (91 ∷ ((v ++ 93 ∷ u) ++ x)) ≡ plus (suc (length (v ++ 93 ∷ u))) (close Brackets n false x)
close_nested v u n x h k =
    let r = close Brackets n false x in
    let e : length (v ++ 93 ∷ u) ≡ length v + suc (length u) = length-append v (93 ∷ u) in
    one_more n ((v ++ 93 ∷ u) ++ x)
    ∙ (ap (λ y. plus 1 (close Brackets (n + 1) false y)) (append_assoc v (93 ∷ u) x)
    ∙ (ap (plus 1) (h.closes (n + 1) (93 ∷ (u ++ x))
    ∙ ap (plus (length v)) (shut n (u ++ x) ∙ (ap (plus 1) (k.closes n x) ∙ one_plus (length u) r)))
    ∙ (ap (plus 1) (plus_more (length v) (suc (length u)) (length (v ++ 93 ∷ u)) r (sym e))
    ∙ one_plus (length (v ++ 93 ∷ u)) r)))

bad_nested : (v u x : List ℕ) → Walked v → Walked u → bad false x ≡ None → bad false (91 ∷ ((v ++ 93 ∷ u) ++ x)) ≡ None
bad_nested v u x h k e = ap (λ y. plus 1 (bad false y)) (append_assoc v (93 ∷ u) x)
    ∙ ap (plus 1) (h.fine (93 ∷ (u ++ x)) (ap (plus 1) (k.fine x e)))

walked : (u : List ℕ) → Bracketed u → Walked u
walked [] nothing = record { closes = λ n x. sym (plus_none (close Brackets n false x)); fine = λ x e. e }
walked (c ∷ w) (inner b u h k) = record {
  closes = λ n x. close_inner b u n x (inner_is b h) (walked u k);
  fine = λ x e. bad_inner b u x (inner_is b h) (walked u k) e;
}
walked w (hidden l u h s k) = record {
  closes = λ n x. close_hidden l u n x h (walked u k);
  fine = λ x e. bad_hidden l u x (s x) (walked u k) e;
}
walked w (nested v u h k) = record {
  closes = λ n x. close_nested v u n x (walked v h) (walked u k);
  fine = λ x e. bad_nested v u x (walked v h) (walked u k) e;
}

-- what is so written between brackets is one bracket, whatever follows it
pub bracket_stands : (u r : List ℕ) → Bracketed u → stands (91 ∷ u ++ 93 ∷ r) ≡ Found K.Bracket (length u + 2)
unfolding stands
bracket_stands u r b =
    let h = walked u b in
    let t = take-append-add u (93 ∷ r) 1 ∙ ap (λ x. u ++ x) (take_one 93 r) in
    let f : bad false (take (length u + 1) (u ++ 93 ∷ r)) ≡ None = ap (bad false) t ∙ h.fine (93 ∷ []) refl in
    let n : 1 + (length u + 1) ≡ length u + 2 = omega arith in
    ap (by_close K.Bracket (u ++ 93 ∷ r)) (h.closes 0 (93 ∷ r)) ∙ ap (by_bad K.Bracket (length u + 1)) f
    ∙ ap (λ x. Found K.Bracket x) n

-- ---- the same in words of its own

all_inner : (ds u : List ℕ) → list_all is_inner ds ≡ true → Bracketed u → Bracketed (ds ++ u)
all_inner [] u h b = b
all_inner (d ∷ ds) u h b =
    inner d (ds ++ u) (left (is_inner d) (list_all is_inner ds) h)
    (all_inner ds u (right (is_inner d) (list_all is_inner ds) h) b)

escaped_bracketed : (c : ℕ) (e u : List ℕ) → escape e ≡ Some (c, length e) → Bracketed u → Bracketed (92 ∷ e ++ u)
escaped_bracketed c e u h b =
    let k = shape c e h in
    let before : (x : List ℕ) → k.letter ∷ ((k.digits ++ u) ++ x) ≡ e ++ (u ++ x) =
    λ x. ap (λ y. k.letter ∷ y) (append_assoc k.digits u x) ∙ ap (λ y. y ++ (u ++ x)) (sym k.is) in
    subst (λ y. Bracketed (92 ∷ (y ++ u))) (sym k.is)
    (hidden k.letter (k.digits ++ u) k.line (λ x. ap (λ y. is_some (escape y)) (before x)
    ∙ ap is_some (k.stays (u ++ x))) (all_inner k.digits u k.inner b))

bracketed : (u : List ℕ) → InBracket u → Bracketed u
bracketed [] nothing_in = nothing
bracketed w (inner_in b u h k) = inner b u h (bracketed u k)
bracketed w (escaped_in c e u h k) = escaped_bracketed c e u h (bracketed u k)
bracketed w (bracket_in v u h k) = nested v u (bracketed v h) (bracketed u k)

pub in_bracket_stands : (u r : List ℕ) → InBracket u → stands (91 ∷ u ++ 93 ∷ r) ≡ Found K.Bracket (length u + 2)
in_bracket_stands u r h = bracket_stands u r (bracketed u h)

-- ---- bounds

bounds_by : (bs : List ℕ) (r : Stand) → Braced bs r → begins_bounds bs ≡ true → has bs (parts bs).close 125 ≡ true
    → is_wide bs (parts bs).least ≡ false → is_wide bs (parts bs).most ≡ false
    → r ≡ Found K.Bounds ((parts bs).close + 2)
bounds_by bs r (opening h f) b c l m = absurd (cc)
bounds_by bs r (unmet h g f) b c l m = absurd (cc)
bounds_by bs r (wide_least h g i f) b c l m = absurd (cc)
bounds_by bs r (wide_most h g i j f) b c l m = absurd (cc)
bounds_by bs r (met h g i j f) b c l m = sym f

-- bounds with their closing brace, whose numbers aren't too wide
pub bounds_stand : (bs : List ℕ) → begins_bounds bs ≡ true → has bs (parts bs).close 125 ≡ true
    → is_wide bs (parts bs).least ≡ false → is_wide bs (parts bs).most ≡ false
    → stands (123 ∷ bs) ≡ Found K.Bounds ((parts bs).close + 2)
unfolding stands
bounds_stand bs b c l m = bounds_by bs (brace_stands bs) (braced bs) b c l m

first_wide : (bs : List ℕ) (r : Stand) → Braced bs r → begins_bounds bs ≡ true → has bs (parts bs).close 125 ≡ true
    → is_wide bs (parts bs).least ≡ true → r ≡ Fault NumberTooWide (1 + (parts bs).least.start)
first_wide bs r (opening h f) b c l = absurd (cc)
first_wide bs r (unmet h g f) b c l = absurd (cc)
first_wide bs r (wide_least h g i f) b c l = sym f
first_wide bs r (wide_most h g i j f) b c l = absurd (cc)
first_wide bs r (met h g i j f) b c l = absurd (cc)

-- bounds whose first number is too wide
pub wide_least_stands : (bs : List ℕ) → begins_bounds bs ≡ true → has bs (parts bs).close 125 ≡ true
    → is_wide bs (parts bs).least ≡ true → stands (123 ∷ bs) ≡ Fault NumberTooWide (1 + (parts bs).least.start)
unfolding stands
wide_least_stands bs b c l = first_wide bs (brace_stands bs) (braced bs) b c l

second_wide : (bs : List ℕ) (r : Stand) → Braced bs r → begins_bounds bs ≡ true → has bs (parts bs).close 125 ≡ true
    → is_wide bs (parts bs).least ≡ false → is_wide bs (parts bs).most ≡ true
    → r ≡ Fault NumberTooWide (1 + (parts bs).most.start)
second_wide bs r (opening h f) b c l m = absurd (cc)
second_wide bs r (unmet h g f) b c l m = absurd (cc)
second_wide bs r (wide_least h g i f) b c l m = absurd (cc)
second_wide bs r (wide_most h g i j f) b c l m = sym f
second_wide bs r (met h g i j f) b c l m = absurd (cc)

-- and those whose second number is
pub wide_most_stands : (bs : List ℕ) → begins_bounds bs ≡ true → has bs (parts bs).close 125 ≡ true
    → is_wide bs (parts bs).least ≡ false → is_wide bs (parts bs).most ≡ true
    → stands (123 ∷ bs) ≡ Fault NumberTooWide (1 + (parts bs).most.start)
unfolding stands
wide_most_stands bs b c l m = second_wide bs (brace_stands bs) (braced bs) b c l m
