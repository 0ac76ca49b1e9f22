-- What stands where a token of a kind stands.
use Rattle.std.proofs.Common.{◌≡◌, inl, inr, ℕ, zero, suc, ◌+◌, ◌-◌, ◌^◌, ◌<◌, ◌≤◌, List, [], ◌∷◌, Option, Some, None}
use Rattle.std.proofs.Common.{length, get_or, take, drop, refl, sym, ap, subst, ◌∙◌, arith, length-take-le, length-drop}
use Rattle.std.specs.Prelude.{Bool, true, false, ◌&&◌, is_some, nat_lt, if◌then◌else◌, unwrap_or, IsUtf8}
use Rattle.std.specs.Prelude.{IsCharBoundary}
use Rattle.std.proofs.lemmas.Bool.{cases_Bool}
use Rattle.std.proofs.lemmas.Str.{IsCharBoundary-before_ascii, IsCharBoundary-after_ascii}
use Rattle.rpl_text.specs.Ascii.{is_digit}
use Rattle.rpl_lexer.specs.declared.token.Token.{Token}
use Rattle.rpl_lexer.specs.declared.token.TokenKind.{TokenKind}
use Rattle.rpl_lexer.specs.declared.token.TokenKind.TheVariants as K
use Rattle.rpl_lexer.specs.declared.front.Stand.TheVariants.{Found}
use Rattle.rpl_lexer.specs.declared.enclosed.Enclosure.{Enclosure}
use Rattle.rpl_lexer.specs.declared.enclosed.Enclosure.TheVariants.{Quotes, Brackets}
use Rattle.rpl_lexer.specs.Bytes.{is_word, run, past, has}
use Rattle.rpl_text.specs.Numbers.{value, narrow}
use Rattle.rpl_lexer.specs.Enclosed.{kind_of}
use Rattle.rpl_lexer.specs.Fronts.{stands}
use Rattle.rpl_lexer.specs.Cut.{IsToken}
use Rattle.rpl_lexer.specs.Payloads.{span}
use Rattle.rpl_lexer.proofs.Ways.{Way, letter, digit, quote, bracket, brace, sign, none, way, Named, keyword, qualified}
use Rattle.rpl_lexer.proofs.Ways.{name, named, Counted, fits, wide, counted, Closed, unclosed, whole, spoilt, closed}
use Rattle.rpl_lexer.proofs.Ways.{Braced, opening, unmet, wide_least, wide_most, met, braced}
use Rattle.rpl_lexer.proofs.Edges.{has_is, found_same, no_token}

-- what a text, a bracket or a brace begins is of its own kinds
enclosed_kind : (e : Enclosure) (bs : List ℕ) (k : TokenKind) (n : ℕ) → Closed e bs (Found k n) → kind_of e ≡ k
enclosed_kind e bs k n (unclosed h f) = absurd (cc)
enclosed_kind e bs k n (whole m h g f) = (found_same (kind_of e) k (1 + m) n f).0
enclosed_kind e bs k n (spoilt m i h g f) = absurd (cc)

-- ---- numbers

pub record IsNumber (s : List ℕ) (n : ℕ) : Type 0 where
  pub digits : n ≡ run is_digit s
  pub fits : is_some (narrow (value 0 (take n s))) ≡ true

number_here : (s : List ℕ) (n : ℕ) → Counted s (Found K.Number n) → IsNumber s n
number_here s n (fits h f) =
    let e : run is_digit s ≡ n = (found_same _ _ _ _ f).1 in
    record { digits = sym e; fits = subst (λ x. is_some (narrow (value 0 (take x s))) ≡ true) e h }
number_here s n (wide h f) = absurd (cc)

name_no_number : (s : List ℕ) (n : ℕ) → Named s (Found K.Number n) → ⊥
name_no_number s n (keyword h f) = absurd (cc)
name_no_number s n (qualified h q f) = absurd (cc)
name_no_number s n (name h q f) = absurd (cc)

brace_no_number : (bs : List ℕ) (n : ℕ) → Braced bs (Found K.Number n) → ⊥
brace_no_number bs n (opening h f) = absurd (cc)
brace_no_number bs n (unmet h g f) = absurd (cc)
brace_no_number bs n (wide_least h g l f) = absurd (cc)
brace_no_number bs n (wide_most h g l m f) = absurd (cc)
brace_no_number bs n (met h g l m f) = absurd (cc)

number_way : (b : ℕ) (bs : List ℕ) (n : ℕ) → Way b bs (Found K.Number n) → IsNumber (b ∷ bs) n
number_way b bs n (letter h f) = absurd (name_no_number (b ∷ bs) n (subst (Named (b ∷ bs)) f (named (b ∷ bs))))
number_way b bs n (digit h f) = number_here (b ∷ bs) n (subst (Counted (b ∷ bs)) f (counted (b ∷ bs)))
number_way b bs n (quote h f) = let e =
    enclosed_kind Quotes bs K.Number n (subst (Closed Quotes bs) f (closed Quotes bs)) in absurd (cc)
number_way b bs n (bracket h f) = let e =
    enclosed_kind Brackets bs K.Number n (subst (Closed Brackets bs) f (closed Brackets bs)) in absurd (cc)
number_way b bs n (brace h f) = absurd (brace_no_number bs n (subst (Braced bs) f (braced bs)))
number_way b bs n (sign o h f) = absurd (cc)
number_way b bs n (none a d q l s f) = absurd (cc)

pub is_number : (s : List ℕ) (n : ℕ) → stands s ≡ Found K.Number n → IsNumber s n
is_number [] n h = absurd (no_token K.Number n h)
is_number (b ∷ bs) n h = number_way b bs n (subst (Way b bs) h (way b bs))

narrow_same : (v : ℕ) → is_some (narrow v) ≡ true → narrow v ≡ Some v
narrow_same v h = elim (cases_Bool (nat_lt v (2 ^ 64))) [
  | inl t ↦ ap (λ b. if b then Some v else None) t
  | inr f ↦ let k : is_some (if false then Some v else None) ≡ true =
      sym (ap (λ b. is_some (if b then Some v else None)) f) ∙ h in absurd (cc)
]

pub number_read : (s : List ℕ) (t : Token) (o : Option ℕ) → t.kind ≡ K.Number → IsToken s t
    → o ≡ narrow (value 0 (span s t)) → unwrap_or o 0 ≡ value 0 (span s t)
number_read s t o k h e =
    let n = is_number (drop t.start s) (t.end - t.start) (h.stands ∙ ap (λ x. Found x (t.end - t.start)) k) in
    ap (λ x. unwrap_or x 0) (e ∙ narrow_same (value 0 (span s t)) n.fits)

-- ---- qualified names

pub record IsQualified (s : List ℕ) (n : ℕ) : Type 0 where
  pub dot : has s (run is_word s) 46 ≡ true
  pub inside : run is_word s < n

left : (a b : Bool) → (a && b) ≡ true → a ≡ true
left true b h = refl
left false b h = h

qualified_here : (s : List ℕ) (n : ℕ) → Named s (Found K.Qualified n) → IsQualified s n
qualified_here s n (keyword h f) = absurd (cc)
qualified_here s n (qualified h q f) =
    let e : past is_word s (run is_word s + 1) ≡ n = (found_same _ _ _ _ f).1 in
    record { dot = left _ _ q; inside = omega (arith, e) }
qualified_here s n (name h q f) = absurd (cc)

number_not_qualified : (s : List ℕ) (n : ℕ) → Counted s (Found K.Qualified n) → ⊥
number_not_qualified s n (fits h f) = absurd (cc)
number_not_qualified s n (wide h f) = absurd (cc)

brace_not_qualified : (bs : List ℕ) (n : ℕ) → Braced bs (Found K.Qualified n) → ⊥
brace_not_qualified bs n (opening h f) = absurd (cc)
brace_not_qualified bs n (unmet h g f) = absurd (cc)
brace_not_qualified bs n (wide_least h g l f) = absurd (cc)
brace_not_qualified bs n (wide_most h g l m f) = absurd (cc)
brace_not_qualified bs n (met h g l m f) = absurd (cc)

qualified_way : (b : ℕ) (bs : List ℕ) (n : ℕ) → Way b bs (Found K.Qualified n) → IsQualified (b ∷ bs) n
qualified_way b bs n (letter h f) = qualified_here (b ∷ bs) n (subst (Named (b ∷ bs)) f (named (b ∷ bs)))
qualified_way b bs n (digit h f) =
    absurd (number_not_qualified (b ∷ bs) n (subst (Counted (b ∷ bs)) f (counted (b ∷ bs))))
qualified_way b bs n (quote h f) = let e =
    enclosed_kind Quotes bs K.Qualified n (subst (Closed Quotes bs) f (closed Quotes bs)) in absurd (cc)
qualified_way b bs n (bracket h f) = let e =
    enclosed_kind Brackets bs K.Qualified n (subst (Closed Brackets bs) f (closed Brackets bs)) in absurd (cc)
qualified_way b bs n (brace h f) = absurd (brace_not_qualified bs n (subst (Braced bs) f (braced bs)))
qualified_way b bs n (sign o h f) = absurd (cc)
qualified_way b bs n (none a d q l s f) = absurd (cc)

pub is_qualified : (s : List ℕ) (n : ℕ) → stands s ≡ Found K.Qualified n → IsQualified s n
is_qualified [] n h = absurd (no_token K.Qualified n h)
is_qualified (b ∷ bs) n h = qualified_way b bs n (subst (Way b bs) h (way b bs))

-- a run within the first n bytes is the same in them
pub run_take : (p : ℕ → Bool) (s : List ℕ) (n : ℕ) → run p s < n → run p (take n s) ≡ run p s
run_take p [] zero lt = absurd (omega arith)
run_take p [] (suc n) lt = refl
run_take p (b ∷ bs) zero lt = absurd (omega arith)
run_take p (b ∷ bs) (suc n) lt = elim (cases_Bool (p b)) [
  | inl h ↦ let m : suc (run p bs) < suc n = rw h at lt in rw h (ap suc (run_take p bs n (omega arith)))
  | inr h ↦ rw h refl
]

get_take : (s : List ℕ) (n i : ℕ) → i < n → get_or (take n s) i 0 ≡ get_or s i 0
get_take [] zero i lt = absurd (omega arith)
get_take [] (suc n) i lt = refl
get_take (b ∷ bs) zero i lt = absurd (omega arith)
get_take (b ∷ bs) (suc n) zero lt = refl
get_take (b ∷ bs) (suc n) (suc i) lt = get_take bs n i (omega arith)

-- the dot of a qualified name, in the name's own text
pub record Dotted (w : List ℕ) (dot : ℕ) : Type 0 where
  pub inside : dot < length w
  pub before : IsCharBoundary w dot
  pub behind : IsCharBoundary w (dot + 1)

pub dotted : (s w : List ℕ) (t : Token) (dot : ℕ) → t.kind ≡ K.Qualified → IsToken s t → IsUtf8 w → w ≡ span s t
    → dot ≡ run is_word w → Dotted w dot
dotted s w t dot k h u e f =
    let r = drop t.start s in
    let n = t.end - t.start in
    let q = is_qualified r n (h.stands ∙ ap (λ x. Found x n) k) in
    let d = has_is r (run is_word r) 46 q.dot in
    let same : dot ≡ run is_word r = f ∙ ap (run is_word) e ∙ run_take is_word r n q.inside in
    let lt : dot < n = omega (arith, q.inside, same) in
    let fits : n ≤ length r = omega (arith, length-drop t.start s, h.inside) in
    let b : get_or w dot 0 ≡ 46 = ap (λ x. get_or x dot 0) e ∙ get_take r n dot lt ∙ ap (λ i. get_or r i 0) same
    ∙ d.1 in
    let inside : dot < length w = omega (arith, ap length e, length-take-le n r fits) in
    let ascii : get_or w dot 0 < 128 = omega arith in
    record {
      inside = inside;
      before = IsCharBoundary-before_ascii w dot inside ascii;
      behind = IsCharBoundary-after_ascii w dot u inside ascii;
    }
