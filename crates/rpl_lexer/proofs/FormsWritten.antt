-- Texts, brackets and bounds are what is written as one, without a word of the scanner.
use Rattle.std.proofs.Common.{◌≡◌, ℕ, zero, suc, ◌+◌, ◌-◌, List, [], ◌∷◌, ◌++◌, length, take, drop, sym, ap, subst}
use Rattle.std.proofs.Common.{◌∙◌, arith, append_assoc, length-append, take-append-drop, drop-drop}
use Rattle.std.proofs.lemmas.List.{take_all}
use Rattle.rpl_lexer.specs.declared.token.TokenKind.{TokenKind}
use Rattle.rpl_lexer.specs.declared.token.TokenKind.TheVariants as K
use Rattle.rpl_lexer.specs.declared.token.Token.{Token}
use Rattle.rpl_lexer.specs.declared.front.Stand.TheVariants.{Found}
use Rattle.rpl_lexer.specs.Braces.{bounds_in}
use Rattle.rpl_lexer.specs.Cut.{IsToken}
use Rattle.rpl_lexer.specs.Forms.{Form}
use Rattle.rpl_lexer.specs.Fronts.{stands}
use Rattle.rpl_lexer.specs.Laws.{TextForm, BracketForm, BoundsForm}
use Rattle.rpl_lexer.specs.Payloads.{span, bounds_of}
use Rattle.rpl_lexer.specs.Written.{IsText, IsBracket, SaysBetween}
use Rattle.rpl_lexer.proofs.Blanks.{form_of_bounds, bounds_said, bounds_wide, SaysOrWide, says, fails, bounds_cases}
use Rattle.rpl_lexer.proofs.BoundsWritten.{bounds_form, bounds_written}
use Rattle.rpl_lexer.proofs.Longest.{longest}
use Rattle.rpl_lexer.proofs.Peeling.{bracket_form}
use Rattle.rpl_lexer.proofs.Quotes.{in_text_stands}
use Rattle.rpl_lexer.proofs.Stood.{in_bracket_stands}
use Rattle.rpl_lexer.proofs.Texts.{text_form}

-- bytes that stand as one token have its form
form_of : (k : TokenKind) (w : List ℕ) (n : ℕ) → n ≡ length w → stands w ≡ Found k n → Form k w
form_of k w n e h = subst (Form k) (take_all n w (omega (arith, e))) (longest w k n h).fits.form

between_len : (b c : ℕ) (u : List ℕ) → length u + 2 ≡ length (b ∷ u ++ c ∷ [])
between_len b c u = omega (arith, length-append u (c ∷ []))

of_text : (w : List ℕ) → IsText w → Form K.Text w
of_text w h =
    subst (Form K.Text) (sym h.is)
    (form_of K.Text (34 ∷ h.inner ++ 34 ∷ []) (length h.inner + 2) (between_len 34 34 h.inner)
    (in_text_stands h.inner [] h.written))

of_bracket : (w : List ℕ) → IsBracket w → Form K.Bracket w
of_bracket w h =
    subst (Form K.Bracket) (sym h.is)
    (form_of K.Bracket (91 ∷ h.inner ++ 93 ∷ []) (length h.inner + 2) (between_len 91 93 h.inner)
    (in_bracket_stands h.inner [] h.written))

pub text_forms : TextForm
text_forms w = (text_form w, of_text w)

pub bracket_forms : BracketForm
bracket_forms w = (bracket_form w, of_bracket w)

pub bounds_forms : BoundsForm
bounds_forms w = (bounds_form w, form_of_bounds w)

-- ---- the numbers of a token

behind_first : (n : ℕ) (u : List ℕ) (b : ℕ) (v : List ℕ) → take n u ≡ b ∷ v → take (n - 1) (drop 1 u) ≡ v
behind_first zero u b v e = absurd (cc)
behind_first (suc n) [] b v e = absurd (cc)
behind_first (suc n) (c ∷ u) b v e =
    let m : suc n - 1 ≡ n = omega arith in
    let f : take n u ≡ v = cc in
    ap (λ k. take k u) m ∙ f

said_by : (s : List ℕ) (t : Token) (v : List ℕ) → t.kind ≡ K.Bounds → IsToken s t → span s t ≡ 123 ∷ v ++ 125 ∷ []
    → SaysOrWide v → SaysBetween (span s t) (bounds_of s t)
said_by s t v kind token is (says b h) =
    let n : t.end - (t.start + 1) ≡ t.end - t.start - 1 = omega arith in
    let inside : take (t.end - (t.start + 1)) (drop (t.start + 1) s) ≡ v ++ 125 ∷ [] =
    ap (λ k. take k (drop (t.start + 1) s)) n ∙ ap (take (t.end - t.start - 1)) (sym (drop-drop 1 t.start s))
    ∙ behind_first (t.end - t.start) (drop t.start s) 123 (v ++ 125 ∷ []) is in
    let e : bounds_of s t ≡ b = ap bounds_in inside ∙ (bounds_said v [] b h).numbers in
    subst (SaysBetween (span s t)) (sym e) (record { inner = v; is = is; says = h })
said_by s t v kind token is (fails at h) =
    let r = drop (t.end - t.start) (drop t.start s) in
    let whole : drop t.start s ≡ (123 ∷ v ++ 125 ∷ []) ++ r = sym (take-append-drop (t.end - t.start) (drop t.start s))
    ∙ ap (λ x. x ++ r) is in
    let e : stands (drop t.start s) ≡ stands (123 ∷ v ++ 125 ∷ r) = ap stands whole
    ∙ ap (λ x. stands (123 ∷ x)) (append_assoc v (125 ∷ []) r) in
    let f = sym token.stands ∙ e ∙ bounds_wide v r at h in
    absurd (cc)

pub bounds_say : (s : List ℕ) (t : Token) → t.kind ≡ K.Bounds → IsToken s t → SaysBetween (span s t) (bounds_of s t)
bounds_say s t kind token =
    let h = bounds_written s t kind token in
    said_by s t h.inner kind token h.is (bounds_cases h.inner h.written)
