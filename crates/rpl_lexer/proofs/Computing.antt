-- The cut of a text as a function gives what the relation says, and each text has such a cut.
use Rattle.std.proofs.Common.{◌≡◌, ◌⊎◌, inl, inr, ℕ, zero, suc, ◌+◌, ◌-◌, ◌<◌, ◌≤◌, List, [], ◌∷◌, length, drop, refl}
use Rattle.std.proofs.Common.{sym, ap, ap₂, subst, ◌∙◌, true, false, arith, length-drop}
use Rattle.std.specs.Prelude.{Bool, nat_eq, if◌then◌else◌, Result, Ok, Err, Option, Some, None}
use Rattle.std.proofs.lemmas.Bool.{cases_Bool}
use Rattle.std.proofs.lemmas.Bool.Decides.{nat_tests}
use Rattle.rpl_lexer.specs.declared.fault.LexKind.TheVariants.{TooManyTokens}
use Rattle.rpl_lexer.specs.Cut.{start, End, Done, Fails, Chain, IsFault, IsCut, FailsAt}
use Rattle.rpl_lexer.specs.Cutting.{put_first, cut_by, cut_from, cut_of}
use Rattle.rpl_lexer.specs.Laws.{CutComputes, FaultComputes, CutFound, FaultFound, CutOrFault}
use Rattle.rpl_lexer.specs.Fronts.{stands}
use Rattle.rpl_lexer.specs.Gaps.{goes_on, gap_by, gap}
use Rattle.rpl_lexer.specs.declared.fault.LexFault.{LexFault}
use Rattle.rpl_lexer.specs.declared.fault.LexKind.{LexKind}
use Rattle.rpl_lexer.specs.declared.front.Stand.{Stand}
use Rattle.rpl_lexer.specs.declared.front.Stand.TheVariants.{Found, Fault}
use Rattle.rpl_lexer.specs.declared.token.Token.{Token}
use Rattle.rpl_lexer.specs.declared.token.TokenKind.{TokenKind}
use Rattle.rpl_lexer.proofs.Cuts.{fault_here, many_here}
use Rattle.rpl_lexer.proofs.Edges.{found_edged}

-- what a chain computes to
abbrev ends_as : List Token → End → Result (List Token) LexFault
ends_as ts Done = Ok ts
ends_as ts (Fails at k) = Err (record { at = at; kind = k })

-- each token takes a place, so a text has no more tokens than bytes
few : (s : List ℕ) (p n : ℕ) (ts : List Token) (e : End) → p ≤ length s → Chain s p n ts e → p + length ts ≤ length s
few s p n [] e le c = omega (arith, le)
few s p n (t ∷ ts) e le c =
    let b : t.start ≡ p + gap false (drop p s) = c.0.begins in
    let r = few s t.end (n + 1) ts e c.0.token.inside c.1 in
    omega (arith, b, r, c.0.token.forward)

put_more : (t : Token) (ts : List Token) (e : End) (r : Result (List Token) LexFault) → r ≡ ends_as ts e
    → put_first t r ≡ ends_as (t ∷ ts) e
put_more t ts Done r h = ap (put_first t) h
put_more t ts (Fails at k) r h = ap (put_first t) h

when_false : {A : Type 0} (b : Bool) (x y : A) → b ≡ false → (if b then x else y) ≡ y
when_false b x y h = ap (λ v. if v then x else y) h

fault_by : (rest : ℕ → ℕ → Result (List Token) LexFault) (i n : ℕ) (x : Stand) (at : ℕ) (k : LexKind)
    → IsFault n i x at k → cut_by rest i n x ≡ Err (record { at = at; kind = k })
fault_by rest i n (Fault k skip) at kind h = ap₂ (λ a q. Err (record { at = a; kind = q })) (sym h.0) (sym h.1)
fault_by rest i n (Found k len) at kind h =
    let full : nat_eq n 262144 ≡ true = let e = h.0 in grind (arith, nat_tests, e) in
    ap (λ b. if b then Err (record { at = i; kind = TooManyTokens })
    else put_first (record { kind = k; start = i; end = i + len }) (rest (i + len) (n + 1))) full
    ∙ ap₂ (λ a q. Err (record { at = a; kind = q })) (sym h.1) (sym h.2)

computes : (d : ℕ) (s : List ℕ) (p n : ℕ) (ts : List Token) (e : End) → length ts < d → Chain s p n ts e
    → cut_from d s p n ≡ ends_as ts e
computes zero s p n ts e lt c = absurd (omega (arith, lt))
computes (suc d) s p n [] Done lt c =
    let last : nat_eq (start s p) (length s) ≡ true = grind (arith, nat_tests, c) in
    ap (λ b. if b then Ok [] else cut_by (cut_from d s) (start s p) n (stands (drop (start s p) s))) last
computes (suc d) s p n [] (Fails at k) lt c =
    let more : nat_eq (start s p) (length s) ≡ false = let l = c.0 in grind (arith, nat_tests, l) in
    when_false (nat_eq (start s p) (length s)) (Ok []) _ more
    ∙ fault_by (cut_from d s) (start s p) n (stands (drop (start s p) s)) at k c.1
computes (suc d) s p n (t ∷ ts) e lt c =
    let b : t.start ≡ start s p = c.0.begins in
    let fw = c.0.token.forward in
    let ins = c.0.token.inside in
    let more : nat_eq (start s p) (length s) ≡ false = grind (arith, nat_tests, b, fw, ins) in
    let room : nat_eq n 262144 ≡ false = let f = c.0.few in grind (arith, nat_tests, f) in
    let len = t.end - t.start in
    let end_is : start s p + len ≡ t.end = omega (arith, b, fw) in
    let found : stands (drop (start s p) s) ≡ Found t.kind len = ap (λ i. stands (drop i s)) (sym b)
    ∙ c.0.token.stands in
    let short : length ts < d = omega (arith, lt) in
    let tail = computes d s t.end (n + 1) ts e short c.1 in
    when_false (nat_eq (start s p) (length s)) (Ok []) _ more
    ∙ ap (cut_by (cut_from d s) (start s p) n) found
    ∙ when_false (nat_eq n 262144) _ _ room
    ∙ ap₂ (λ i j. put_first (record { kind = t.kind; start = i; end = j }) (cut_from d s j (n + 1))) (sym b) end_is
    ∙ put_more t ts e (cut_from d s t.end (n + 1)) tail

whole_computes : (s : List ℕ) (ts : List Token) (e : End) → Chain s 0 0 ts e → cut_of s ≡ ends_as ts e
whole_computes s ts e c = computes (suc (length s)) s 0 0 ts e (let h = few s 0 0 ts e (omega arith) c in
    omega (arith, h)) c

-- `cut_of` returns the cut of each text that has one
pub cuts : CutComputes
cuts s ts c = whole_computes s ts Done c

-- `cut_of` returns the first fault of each text that has one
pub fails : FaultComputes
fails s f c = whole_computes s c.0 (Fails f.at f.kind) c.1

-- ---- each text has a chain

gap_some : (o : Option Bool) (rest : Bool → ℕ) (n : ℕ) → ((c : Bool) → rest c ≤ n) → gap_by o rest ≤ suc n
gap_some None rest n h = omega arith
gap_some (Some c) rest n h = let l = h c in omega (arith, l)

gap_le : (comment : Bool) (bs : List ℕ) → gap comment bs ≤ length bs
gap_le comment [] = omega arith
gap_le comment (b ∷ bs) = gap_some (goes_on comment b bs) (λ c. gap c bs) (length bs) (λ c. gap_le c bs)

start_le : (s : List ℕ) (p : ℕ) → p ≤ length s → start s p ≤ length s
start_le s p le = let g = gap_le false (drop p s) in let l = length-drop p s in omega (arith, g, l, le)

abbrev Ended : List ℕ → (p n : ℕ) → Type 0
Ended s p n = (ts : List Token) × (e : End) × Chain s p n ts e

with_token : (s : List ℕ) (p n i : ℕ) (k : TokenKind) (len : ℕ) → i ≡ start s p → i < length s → n < 262144
    → stands (drop i s) ≡ Found k len
    → (0 < len) × (i + len ≤ length s) → Ended s (i + len) (n + 1) → Ended s p n
with_token s p n i k len e lt few h w rest =
    let same : i + len - i ≡ len = omega arith in
    let t : Token = record { kind = k; start = i; end = i + len } in (
      t ∷ rest.0,
      rest.1,
      (
        record {
          few = few;
          begins = e;
          token = record { forward = omega (arith, w.0); inside = w.1; stands = h ∙ ap (λ l. Found k l) (sym same) };
        },
        rest.2,
      ),
    )

room : (s : List ℕ) (i : ℕ) (k : TokenKind) (len : ℕ) → i < length s → stands (drop i s) ≡ Found k len
    → (0 < len) × (i + len ≤ length s)
room s i k len lt h =
    let e = found_edged (drop i s) k len h in
    let l = length-drop i s in
    (e.some, omega (arith, e.inside, l, lt))

by_stand : (s : List ℕ) (p n i : ℕ) (x : Stand) → i ≡ start s p → i < length s → n ≤ 262144 → stands (drop i s) ≡ x
    → ((k : TokenKind) (len : ℕ) → n < 262144 → stands (drop i s) ≡ Found k len → Ended s (i + len) (n + 1))
    → Ended s p n
by_stand s p n i (Fault k skip) e lt le h rest = ([], Fails (i + skip) k, fault_here s p n i k skip e lt h)
by_stand s p n i (Found k len) e lt le h rest = elim (cases_Bool (nat_eq n 262144)) [
  | inl full ↦ ([], Fails i TooManyTokens, many_here s p n i k len e lt (grind (arith, nat_tests, full)) h)
  | inr more ↦ let few : n < 262144 = grind (arith, nat_tests, more, le) in
      with_token s p n i k len e lt few h (room s i k len lt h) (rest k len few h)
]

ended : (d : ℕ) (s : List ℕ) (p n : ℕ) → p ≤ length s → length s < p + d → n ≤ 262144 → Ended s p n
ended zero s p n le lt few = absurd (omega (arith, le, lt))
ended (suc d) s p n le lt few = elim (cases_Bool (nat_eq (start s p) (length s))) [
  | inl last ↦ ([], Done, grind (arith, nat_tests, last))
  | inr more ↦
      let w = start_le s p le in
      let inside : start s p < length s = grind (arith, nat_tests, more, w) in
      by_stand s p n (start s p) (stands (drop (start s p) s)) refl inside few refl
      (λ k len room_left h.
      let r = room s (start s p) k len inside h in
      ended d s (start s p + len) (n + 1) r.1 (omega (arith, r.0, lt)) (omega (arith, room_left)))
]

abbrev Answered : List ℕ → Type 0
Answered s = ((ts : List Token) × IsCut s ts) ⊎ ((f : LexFault) × FailsAt s f.at f.kind)

answer_by : (s : List ℕ) (ts : List Token) (e : End) → Chain s 0 0 ts e → Answered s
answer_by s ts Done c = inl (ts, c)
answer_by s ts (Fails at k) c = inr (record { at = at; kind = k }, (ts, c))

pub either : CutOrFault
either s = let c = ended (suc (length s)) s 0 0 (omega arith) (omega arith) (omega arith) in answer_by s c.0 c.1 c.2

ok_err : (ts : List Token) (f : LexFault) → ◌≡◌ {A = Result (List Token) LexFault} (Ok ts) (Err f) → ⊥
ok_err ts f e = cc

same_ok : (ts us : List Token) → ◌≡◌ {A = Result (List Token) LexFault} (Ok ts) (Ok us) → ts ≡ us
same_ok ts us e = cc

same_err : (f g : LexFault) → ◌≡◌ {A = Result (List Token) LexFault} (Err f) (Err g) → f ≡ g
same_err f g e = cc

-- the tokens that `cut_of` returns for a text are its cut
pub cut_found : CutFound
cut_found s ts e = elim (either s) [
  | inl c ↦ subst (IsCut s) (same_ok c.0 ts (sym (cuts s c.0 c.1) ∙ e)) c.1
  | inr f ↦ absurd (ok_err ts f.0 (sym e ∙ fails s f.0 f.1))
]

pub fault_found : FaultFound
fault_found s f e = elim (either s) [
  | inl c ↦ absurd (ok_err c.0 f (sym (cuts s c.0 c.1) ∙ e))
  | inr g ↦ subst (λ x. FailsAt s x.at x.kind) (same_err g.0 f (sym (fails s g.0 g.1) ∙ e)) g.1
]
