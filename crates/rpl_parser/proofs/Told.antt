-- What the parser takes the tokens of a text for is what they say.
use Rattle.std.proofs.Common.{◌≡◌, ℕ, ◌≤◌, List, [], ◌∷◌, Option, Some, None, refl, sym, ap, subst, ◌∙◌, arith}
use Rattle.std.specs.Prelude.{Bool, true, false, not, ◌||◌, nat_lt, Result, Ok, Err, if◌then◌else◌, chars}
use Rattle.std.specs.Prelude.{encode_utf8_all, IsUtf8}
use Rattle.std.specs.Option.{unwrap_or}
use Rattle.std.specs.Option.{option_map, option_or}
use Rattle.std.proofs.lemmas.Bool.Decides.{nat_tests}
use Rattle.regex_class.specs.Ranges.{Range}
use Rattle.rpl_classes.specs.Brackets.{bracket_of}
use Rattle.rpl_classes.specs.declared.fault.SetFault.{SetFault}
use Rattle.rpl_lexer.specs.Braces.{parts_by, part, number_in, bounds_in}
use Rattle.rpl_text.specs.Numbers.{value, narrow}
use Rattle.rpl_lexer.specs.Cut.{Done, IsCut}
use Rattle.rpl_lexer.specs.Payloads.{span, bounds_of, inner}
use Rattle.rpl_lexer.specs.Said.{payload_by}
use Rattle.rpl_lexer.specs.declared.token.Token.{Token}
use Rattle.rpl_lexer.specs.declared.token.TokenKind.{TokenKind}
use Rattle.rpl_lexer.specs.declared.token.TokenKind.TheVariants as K
use Rattle.rpl_lexer.proofs.Cuts.{one_cut}
use Rattle.rpl_syntax.specs.declared.token.Token.{Token as Seen}
use Rattle.rpl_syntax.specs.declared.token.Token.TheVariants as T
use Rattle.rpl_syntax.specs.Expression.{Expr}
use Rattle.rpl_syntax.specs.Reading.{read}
use Rattle.rpl_syntax.specs.Printed.{printed}
use Rattle.rpl_syntax.specs.Texts.{Allowed, Says, Say, IsReadAs, HasFewTokens}
use Rattle.rpl_syntax.specs.Bounds.{least_of}
use Rattle.rpl_syntax.proofs.Back.{printed_reads_back}
use Rattle.rpl_syntax.proofs.Held.{read_held}
use Rattle.rpl_syntax.proofs.Unique.{again, sound}
use Rattle.rpl_parser.specs.Levels.{ground_level, too_deep}
use Rattle.rpl_parser.specs.Patterns.{IsPattern}
use Rattle.rpl_parser.specs.Printing.{IsPrintedAgain}
use Rattle.rpl_parser.specs.Tokens.{capped, is_bad, class_token, class_fault, token_by, tokens_of}
use Rattle.rpl_parser.specs.Tokens.{fault_by, first_bad}
use Rattle.rpl_parser.specs.declared.fault.ParseFault.{ParseFault}

-- ---- bounds, by the lower number, whether there is a comma, and the number after it

abbrev bad_by : ℕ → Option ℕ → Bool
bad_by l o = nat_lt (unwrap_or o l) l || (nat_lt 255 l || nat_lt 255 (unwrap_or o l))

abbrev most_by : ℕ → Bool → Option ℕ → Option ℕ
most_by l c o = if c then o else Some l

abbrev capped_by : ℕ → Bool → Option ℕ → Option ℕ
capped_by l c o = option_map capped (most_by l c o)

low_capped : (n : ℕ) → n ≤ 255 → n ≡ capped n
low_capped n le = omega arith

not_bad : (l m : ℕ) → (nat_lt m l || (nat_lt 255 l || nat_lt 255 m)) ≡ false → (l ≤ m) × (m ≤ 255)
not_bad l m h = (grind (arith, nat_tests), grind (arith, nat_tests))

bad_not : (l m : ℕ) → l ≤ m → m ≤ 255 → (nat_lt m l || (nat_lt 255 l || nat_lt 255 m)) ≡ false
bad_not l m a b = grind (arith, nat_tests)

low_bad : (l m : ℕ) → (nat_lt m l || (nat_lt 255 l || nat_lt 255 m)) ≡ false → l ≤ 255
low_bad l m h = grind (arith, nat_tests)

allowed : (l : ℕ) (c : Bool) (o : Option ℕ) → bad_by l o ≡ false → Allowed l (most_by l c o)
allowed l true None h = low_bad l l h
allowed l true (Some m) h = not_bad l m h
allowed l false o h = let a : l ≤ l = omega arith in (a, low_bad l (unwrap_or o l) h)

same_bounds : (l : ℕ) (c : Bool) (o : Option ℕ) → Allowed l (most_by l c o)
    → T.Bounds l (most_by l c o) ≡ T.Bounds (capped l) (capped_by l c o)
same_bounds l true None h = ap (λ x. T.Bounds x None) (low_capped l h)
same_bounds l true (Some m) h = ap (λ x. T.Bounds x (Some m)) (low_capped l (omega (arith, h.0, h.1)))
    ∙ ap (λ x. T.Bounds (capped l) (Some x)) (low_capped m h.1)
same_bounds l false o h = ap (λ x. T.Bounds x (Some x)) (low_capped l h.1)

none_bad : (l : ℕ) (c : Bool) (o : Option ℕ) → (c ≡ false → o ≡ None) → Allowed l (most_by l c o) → bad_by l o ≡ false
none_bad l true None n h = let a : l ≤ l = omega arith in bad_not l l a h
none_bad l true (Some m) n h = bad_not l m h.0 h.1
none_bad l false o n h = ap (bad_by l) (n refl) ∙ bad_not l l h.0 h.1

empty_most : (bs : List ℕ) (p : _) (c : ℕ) (b : Bool) → (parts_by bs p c b).comma ≡ false
    → number_in bs (parts_by bs p c b).most ≡ None
empty_most bs p c true h = absurd (cc)
empty_most bs p c false h =
    let f : nat_lt c c ≡ false = grind (arith, nat_tests) in
    ap (λ b. if not b then None else narrow (value 0 (part bs (record { start = c; end = c })))) f

no_comma : (bs : List ℕ) → (bounds_in bs).comma ≡ false → (bounds_in bs).most ≡ None
no_comma bs h = empty_most bs _ _ _ h

fault_none : (b : Bool) (f : ParseFault) → (if b then Some f else None) ≡ None → b ≡ false
fault_none true f h = absurd (cc)
fault_none false f h = refl

fault_off : (b : Bool) (f : ParseFault) → b ≡ false → (if b then Some f else None) ≡ None
fault_off b f e = rw e refl

-- ---- brackets

class_said : (at : ℕ) (w : List ℕ) (o : Result (List Range × Bool) SetFault) → bracket_of w ≡ o
    → class_fault at o ≡ None → (ranges : List Range) × (negated : Bool) × (bracket_of w ≡ Ok (ranges, negated))
    × (class_token o ≡ T.Class ranges negated)
class_said at w (Ok p) e h = (p.0, p.1, e, refl)
class_said at w (Err f) e h = absurd (cc)

-- ---- tokens

said : (k : TokenKind) (s : List ℕ) (t : Token) → fault_by k s t ≡ None
    → Says t.start (payload_by k s t) (token_by k s t)
said K.Name s t h = refl
said K.Qualified s t h = refl
said K.Keyword s t h = refl
said K.Text s t h = refl
said K.Bracket s t h = class_said t.start (chars (span s t)) (bracket_of (chars (span s t))) refl h
said K.Bounds s t h =
    let b = bounds_of s t in
    let a = allowed (least_of b) b.comma b.most (fault_none (is_bad b) _ h) in
    (a, sym (same_bounds (least_of b) b.comma b.most a))
said K.Number s t h = refl
said K.Sign s t h = refl

told : (k : TokenKind) (s : List ℕ) (t : Token) (u : Seen) → Says t.start (payload_by k s t) u → (u ≡ token_by k s t)
    × (fault_by k s t ≡ None)
told K.Name s t u h = (h, refl)
told K.Qualified s t u h = (h, refl)
told K.Keyword s t u h = (h, refl)
told K.Text s t u h = (h, refl)
told K.Bracket s t u h = (h.3 ∙ sym (ap class_token h.2), ap (class_fault t.start) h.2)
told K.Bounds s t u h =
    let b = bounds_of s t in
    let f : is_bad b ≡ false = none_bad (least_of b) b.comma b.most (no_comma (inner s t)) h.0 in
    (h.1 ∙ same_bounds (least_of b) b.comma b.most h.0, fault_off (is_bad b) _ f)
told K.Number s t u h = (h, refl)
told K.Sign s t u h = (h, refl)

or_none : (a b : Option ParseFault) → option_or a b ≡ None → (a ≡ None) × (b ≡ None)
or_none None b h = (refl, h)
or_none (Some f) b h = absurd (cc)

-- if no token of a text is bad, the tokens that the parser makes of them are those that they say
pub all_said : (s : List ℕ) (ts : List Token) → first_bad s ts ≡ None → Say s ts (tokens_of s ts)
all_said s [] h = refl
all_said s (t ∷ ts) h =
    let p = or_none (fault_by t.kind s t) (first_bad s ts) h in
    (token_by t.kind s t, tokens_of s ts, refl, said t.kind s t p.0, all_said s ts p.1)

all_told : (s : List ℕ) (ts : List Token) (us : List Seen) → Say s ts us → (us ≡ tokens_of s ts)
    × (first_bad s ts ≡ None)
all_told s [] us h = (h, refl)
all_told s (t ∷ ts) us h =
    let p = told t.kind s t h.0 h.3 in
    let q = all_told s ts h.1 h.4 in (
      h.2 ∙ (ap (λ x. x ∷ h.1) p.0 ∙ ap (λ x. token_by t.kind s t ∷ x) q.0),
      ap (λ o. option_or o (first_bad s ts)) p.1
          ∙ q.1,
    )

pub pattern_read : (s : List ℕ) (ts : List Token) (x : Expr) → IsCut s ts → IsPattern s ts x → IsReadAs s x
pattern_read s ts x c h = record {
  lexemes = ts;
  tokens = tokens_of s ts;
  cut = c;
  say = all_said s ts h.good;
  reads = sound (tokens_of s ts) x h.reads;
}

pub read_pattern : (s : List ℕ) (ts : List Token) (x : Expr) → IsCut s ts → too_deep s ground_level ts ≡ None
    → IsReadAs s x → IsPattern s ts x
read_pattern s ts x c d h =
    let e = (one_cut s 0 0 h.lexemes ts Done Done h.cut c).0 in
    let t = all_told s ts h.tokens (subst (λ ls. Say s ls h.tokens) e h.say) in
    record { shallow = d; reads = subst (λ us. read us ≡ Some x) t.0 (again h.tokens x h.reads); good = t.1 }

-- what is printed of a pattern is that pattern again
pub printed_again : (s : List ℕ) (ts : List Token) (x : Expr) → IsUtf8 s → IsCut s ts → IsPattern s ts x
    → HasFewTokens x → IsPrintedAgain x
printed_again s ts x u c h few us d shallow =
    let w = read_held s x u (pattern_read s ts x c h) in
    let b = printed_reads_back x w.0 w.1 few in
    (b.0, read_pattern (encode_utf8_all (printed x)) us b.0 d shallow b.1, b.2)
