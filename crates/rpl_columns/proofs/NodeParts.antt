-- The parts of a node, put together and taken apart.
use Rattle.std.proofs.Common.{◌≡◌, ℕ, zero, suc, Bool, true, false, ◌<◌, ◌≤◌, List, [], ◌∷◌, ◌++◌, length, take, drop}
use Rattle.std.proofs.Common.{Option, None, Some, refl, sym, ap, subst, ◌∙◌, arith}
use Rattle.std.specs.Prelude.{◌||◌, if◌then◌else◌, codes, nat_eq, option_and_then, option_map}
use Rattle.std.specs.Str.{bytes_eq}
use Rattle.std.proofs.Common.{◌+◌, ◌^◌, get_or, decimal}
use Rattle.std.proofs.lemmas.Fmt.{decimal_is_IsNumeral, decimal_nonempty, first_decimal}
use Rattle.std.proofs.lemmas.Str.Parse.{digit_at}
use Rattle.std.proofs.Math.Seq.{take-append_seam, drop-append_seam}
use Rattle.std.proofs.lemmas.Bool.{false≢true, le-leb}
use Rattle.std.proofs.lemmas.List.{length-take-le, take-append-drop}
use Rattle.std.proofs.lemmas.Slice.Eq.{bytes_eq-Decides}
use Rattle.rpl_text.specs.Ascii.{is_digit}
use Rattle.json.specs.Print.{escape}
use Rattle.rpl_columns.specs.Nodes.{Spelled, from_end, from_label, from_start, from_text, from_type, node_in, number_in}
use Rattle.rpl_columns.specs.Nodes.{string_in}
use Rattle.rpl_columns.specs.Spelling.{after, begins_with_0, digit_count, number_count, string_count}
use Rattle.rpl_columns.specs.Trees.{IsPlace}
use Rattle.rpl_columns.proofs.Counting.{digit_more, digit_nil, digit_other, not_same}
use Rattle.rpl_columns.proofs.Shapes.{count_text, none_some, some_same, string_back}
use Rattle.rpl_columns.proofs.Texts.{neither}

-- what there was before a step that found something
pub record Had {A B : Type 0} (f : A → Option B) (o : Option A) (y : B) : Type 0 where
  pub found : A
  pub is : o ≡ Some found
  pub leaves : f found ≡ Some y

pub had : {A B : Type 0} (f : A → Option B) (o : Option A) (y : B) → option_and_then f o ≡ Some y → Had f o y
had f None y e = absurd (none_some e)
had f (Some x) y e = record { found = x; is = refl; leaves = e }

-- a word
pub after_word : (w r : List ℕ) → after w (w ++ r) ≡ Some r
after_word w r =
    ap (λ t. if t then Some (drop (length w) (w ++ r))
    else None) ((bytes_eq-Decides (take (length w) (w ++ r)) w).1 (take-append_seam w r))
    ∙ ap Some (drop-append_seam w r)

pub after_back : (w s r : List ℕ) → after w s ≡ Some r → s ≡ w ++ r
after_back w s r e = by (bytes_eq (take (length w) s) w) refl e
  where
    by : (t : Bool) → bytes_eq (take (length w) s) w ≡ t → (if t then Some (drop (length w) s) else None) ≡ Some r
        → s ≡ w ++ r
    by true h is =
        sym (take-append-drop (length w) s)
        ∙ ap (λ x. x ++ drop (length w) s) ((bytes_eq-Decides (take (length w) s) w).0 h)
        ∙ ap (λ x. w ++ x) (some_same is)
    by false h is = absurd (none_some is)

-- the front of a line and what is left after a word
abbrev cut : List ℕ → ℕ → Option (List ℕ) → Option (List ℕ × List ℕ)
cut s n o = option_map (λ left. (take n s, left)) o

-- a string, and the word after it, which begins with a quote
pub string_put : (w t r : List ℕ) → string_in (34 ∷ w) (escape t ++ 34 ∷ (w ++ r)) ≡ Some (escape t, r)
string_put w t r =
    let s = escape t ++ 34 ∷ (w ++ r) in
    ap (λ n. option_map (λ left. (take n s, left)) (after (34 ∷ w) (drop n s))) (count_text t (w ++ r))
    ∙ ap (λ x. option_map (λ left. (x, left)) (after (34 ∷ w) (drop (length (escape t)) s)))
    (take-append_seam (escape t) (34 ∷ (w ++ r)))
    ∙ ap (λ y. option_map (λ left. (escape t, left)) (after (34 ∷ w) y)) (drop-append_seam (escape t) (34 ∷ (w ++ r)))
    ∙ ap (λ o. option_map (λ left. (escape t, left)) o) (after_word (34 ∷ w) r)

pub record StringText (w s x r : List ℕ) : Type 0 where
  pub text : List ℕ
  pub is : x ≡ escape text
  pub whole : s ≡ x ++ (w ++ r)

pub string_apart : (w s x r : List ℕ) → string_in w s ≡ Some (x, r) → StringText w s x r
string_apart w s x r e = by (after w (drop (string_count 0 s) s)) refl e
  where
    by : (o : Option (List ℕ)) → after w (drop (string_count 0 s) s) ≡ o → cut s (string_count 0 s) o ≡ Some (x, r)
        → StringText w s x r
    by None h is = absurd (none_some is)
    by (Some left) h is =
        let front : take (string_count 0 s) s ≡ x = ap (λ p. p.0) (some_same is) in
        let rest : left ≡ r = ap (λ p. p.1) (some_same is) in
        let back = string_back (length s) s (omega arith) in record {
          text = back.text;
          is = sym front ∙ back.is;
          whole =
              sym (take-append-drop (string_count 0 s) s)
              ∙ ap (λ y. y ++ drop (string_count 0 s) s) front
              ∙ ap (λ y. x ++ y) (after_back w (drop (string_count 0 s) s) left h ∙ ap (λ y. w ++ y) rest);
        }

-- the digits of a place
pub record Digits (ds : List ℕ) : Type 0 where
  pub all : digit_count ds ≡ length ds
  pub some : 0 < length ds
  pub first : begins_with_0 ds ≡ false

pub place_digits : (ds : List ℕ) → IsPlace ds → Digits ds
place_digits ds h = by (nat_eq (digit_count ds) 0 || begins_with_0 ds) refl h
  where
    by : (t : Bool) → (nat_eq (digit_count ds) 0 || begins_with_0 ds) ≡ t
        → (if t then None else Some (digit_count ds)) ≡ Some (length ds) → Digits ds
    by true e is = absurd (none_some is)
    by false e is =
        let parts = neither (nat_eq (digit_count ds) 0) (begins_with_0 ds) e in
        let all : digit_count ds ≡ length ds = some_same is in record {
          all = all;
          some = some_of (length ds) (ap (λ n. nat_eq n 0) (sym all) ∙ parts.0);
          first = parts.1;
        }
      where
        some_of : (n : ℕ) → nat_eq n 0 ≡ false → 0 < n
        some_of zero e = absurd (false≢true (sym e))
        some_of (suc n) e = omega arith

pub digits_place : (ds : List ℕ) → Digits ds → IsPlace ds
digits_place ds d =
    let some = d.some in
    let all = d.all in
    rw (not_same (digit_count ds) 0 (λ e. omega (arith, e, all, some)), d.first) (ap Some all)

digits_on : (d : ℕ) (ds : List ℕ) (c : ℕ) (r : List ℕ)
    → (digit_count ds ≡ length ds → digit_count (ds ++ c ∷ r) ≡ length ds) → digit_count (d ∷ ds) ≡ suc (length ds)
    → (t : Bool) → is_digit d ≡ t → digit_count (d ∷ (ds ++ c ∷ r)) ≡ suc (length ds)
digits_on d ds c r more h true is =
    let all : digit_count ds ≡ length ds = omega (arith, digit_more d ds is, h) in
    digit_more d (ds ++ c ∷ r) is ∙ ap suc (more all)
digits_on d ds c r more h false is = absurd (omega (arith, digit_other d ds is, h))

digits_put : (ds : List ℕ) (c : ℕ) (r : List ℕ) → digit_count ds ≡ length ds → is_digit c ≡ false
    → digit_count (ds ++ c ∷ r) ≡ length ds
digits_put [] c r h other = digit_other c r other
digits_put (d ∷ ds) c r h other = digits_on d ds c r (λ all. digits_put ds c r all other) h (is_digit d) refl

first_put : (ds r : List ℕ) → 0 < length ds → begins_with_0 (ds ++ r) ≡ begins_with_0 ds
first_put [] r h = absurd (omega arith)
first_put (d ∷ ds) r h = refl

pub number_put : (c : ℕ) (w ds r : List ℕ) → is_digit c ≡ false → IsPlace ds
    → number_in (c ∷ w) (ds ++ c ∷ (w ++ r)) ≡ Some (ds, r)
number_put c w ds r other place =
    let d = place_digits ds place in
    let s = ds ++ c ∷ (w ++ r) in
    let all : digit_count s ≡ length ds = digits_put ds c (w ++ r) d.all other in
    let some = d.some in
    let count : number_count s ≡ Some (length ds) =
    rw (not_same (digit_count s) 0 (λ e. omega (arith, e, all, some)), first_put ds (c ∷ (w ++ r)) some, d.first)
    (ap Some all) in
    ap (option_and_then (λ n. option_map (λ left. (take n s, left)) (after (c ∷ w) (drop n s)))) count
    ∙ ap (λ x. option_map (λ left. (x, left)) (after (c ∷ w) (drop (length ds) s))) (take-append_seam ds (c ∷ (w ++ r)))
    ∙ ap (λ y. option_map (λ left. (ds, left)) (after (c ∷ w) y)) (drop-append_seam ds (c ∷ (w ++ r)))
    ∙ ap (λ o. option_map (λ left. (ds, left)) o) (after_word (c ∷ w) r)

-- the digits at the front
digits_front : (s : List ℕ) → (digit_count (take (digit_count s) s) ≡ digit_count s) × (digit_count s ≤ length s)
digits_front [] = (rw digit_nil digit_nil, rw digit_nil (omega arith))
digits_front (d ∷ s) = by (is_digit d) refl (digits_front s)
  where
    by : (t : Bool) → is_digit d ≡ t → (digit_count (take (digit_count s) s) ≡ digit_count s)
        × (digit_count s ≤ length s) → (digit_count (take (digit_count (d ∷ s)) (d ∷ s)) ≡ digit_count (d ∷ s))
        × (digit_count (d ∷ s) ≤ length (d ∷ s))
    by true is more =
        let le = more.1 in (
          rw (digit_more d s is) (digit_more d (take (digit_count s) s) is ∙ ap suc more.0),
          rw (digit_more d s is) (omega arith),
        )
    by false is more = (rw (digit_other d s is) digit_nil, rw (digit_other d s is) (omega arith))

first_front : (s : List ℕ) (n : ℕ) → 0 < n → begins_with_0 (take n s) ≡ begins_with_0 s
first_front s zero h = absurd (omega arith)
first_front [] (suc n) h = refl
first_front (b ∷ s) (suc n) h = refl

pub record NumberText (w s ds r : List ℕ) : Type 0 where
  pub place : IsPlace ds
  pub whole : s ≡ ds ++ (w ++ r)

pub number_apart : (w s ds r : List ℕ) → number_in w s ≡ Some (ds, r) → NumberText w s ds r
number_apart w s ds r e = by (nat_eq (digit_count s) 0 || begins_with_0 s) refl e
  where
    n : ℕ
    n = digit_count s

    found : nat_eq n 0 ≡ false → begins_with_0 s ≡ false → (o : Option (List ℕ)) → after w (drop n s) ≡ o
        → cut s n o ≡ Some (ds, r) → NumberText w s ds r
    found some first None h is = absurd (none_some is)
    found some first (Some left) h is =
        let front : take n s ≡ ds = ap (λ p. p.0) (some_same is) in
        let rest : left ≡ r = ap (λ p. p.1) (some_same is) in
        let digits = digits_front s in
        let long : length (take n s) ≡ n = length-take-le n s digits.1 in
        let above : 0 < n = positive n some in record {
          place = subst IsPlace front (digits_place (take n s) (record {
            all = digits.0 ∙ sym long;
            some = rw long above;
            first = first_front s n above ∙ first;
          }));
          whole = sym (take-append-drop n s) ∙ ap (λ y. y ++ drop n s) front
              ∙ ap (λ y. ds ++ y) (after_back w (drop n s) left h ∙ ap (λ y. w ++ y) rest);
        }
      where
        positive : (k : ℕ) → nat_eq k 0 ≡ false → 0 < k
        positive zero e = absurd (false≢true (sym e))
        positive (suc k) e = omega arith

    by : (t : Bool) → (nat_eq n 0 || begins_with_0 s) ≡ t
        → option_and_then (λ k. cut s k (after w (drop k s))) (if t then None else Some n) ≡ Some (ds, r)
        → NumberText w s ds r
    by true h is = absurd (none_some is)
    by false h is =
        let parts = neither (nat_eq n 0) (begins_with_0 s) h in
        found parts.0 parts.1 (after w (drop n s)) refl is

-- a node up to the quote after its text, and what follows
abbrev pub node_text : (label start end text rest : List ℕ) → List ℕ
node_text label start end text rest =
    codes "{\"type\":\""
    ++ (escape label ++ (codes "\",\"s\":"
    ++ (start ++ (codes ",\"e\":" ++ (end ++ (codes ",\"data\":\"" ++ (escape text ++ (codes "\"" ++ rest))))))))

abbrev pub parts : (label start end text : List ℕ) → Spelled
parts label start end text = record { label = escape label; start = start; end = end; text = escape text }

pub node_put : (label start end text rest : List ℕ) → IsPlace start → IsPlace end
    → node_in (node_text label start end text rest) ≡ Some (parts label start end text, rest)
unfolding node_in
node_put label start end text rest ps pe =
    let s4 = escape text ++ 34 ∷ rest in
    let s3 = end ++ (codes ",\"data\":\"" ++ s4) in
    let s2 = start ++ (codes ",\"e\":" ++ s3) in
    let s1 = escape label ++ (codes "\",\"s\":" ++ s2) in
    ap (option_and_then from_type) (after_word (codes "{\"type\":\"") s1)
    ∙ ap (option_and_then from_label) (string_put (codes ",\"s\":") label s2)
    ∙ ap (option_and_then (from_start (escape label))) (number_put 44 (codes "\"e\":") start s3 refl ps)
    ∙ ap (option_and_then (from_end (escape label) start)) (number_put 44 (codes "\"data\":\"") end s4 refl pe)
    ∙ ap (option_and_then (from_text (escape label) start end)) (string_put [] text rest)

pub record NodeText (s : List ℕ) (n : Spelled) (rest : List ℕ) : Type 0 where
  pub label : List ℕ
  pub start : List ℕ
  pub end : List ℕ
  pub text : List ℕ
  pub start_place : IsPlace start
  pub end_place : IsPlace end
  pub is : n ≡ parts label start end text
  pub whole : s ≡ node_text label start end text rest

pub node_apart : (s : List ℕ) (n : Spelled) (rest : List ℕ) → node_in s ≡ Some (n, rest) → NodeText s n rest
unfolding node_in
node_apart s n rest e =
    let a = had from_type (after (codes "{\"type\":\"") s) (n, rest) e in
    let b = had from_label (string_in (codes "\",\"s\":") a.found) (n, rest) a.leaves in
    let c = had (from_start b.found.0) (number_in (codes ",\"e\":") b.found.1) (n, rest) b.leaves in
    let d = had (from_end b.found.0 c.found.0) (number_in (codes ",\"data\":\"") c.found.1) (n, rest) c.leaves in
    let f = had (from_text b.found.0 c.found.0 d.found.0) (string_in (codes "\"") d.found.1) (n, rest) d.leaves in
    let label = string_apart (codes "\",\"s\":") a.found b.found.0 b.found.1 b.is in
    let start = number_apart (codes ",\"e\":") b.found.1 c.found.0 c.found.1 c.is in
    let end = number_apart (codes ",\"data\":\"") c.found.1 d.found.0 d.found.1 d.is in
    let text = string_apart (codes "\"") d.found.1 f.found.0 f.found.1 f.is in
    let same = some_same f.leaves in
    let node : n ≡ record { label = b.found.0; start = c.found.0; end = d.found.0; text = f.found.0 } =
    sym (ap (λ p. p.0) same) in
    let left : f.found.1 ≡ rest = ap (λ p. p.1) same in record {
      label = label.text;
      start = c.found.0;
      end = d.found.0;
      text = text.text;
      start_place = start.place;
      end_place = end.place;
      is =
          node ∙ ap (λ l. record { label = l; start = c.found.0; end = d.found.0; text = f.found.0 }) label.is
          ∙ ap (λ t. record { label = escape label.text; start = c.found.0; end = d.found.0; text = t }) text.is;
      whole =
          after_back (codes "{\"type\":\"") s a.found a.is
          ∙ ap (λ x. codes "{\"type\":\"" ++ x) (label.whole ∙ ap (λ x. x ++ (codes "\",\"s\":" ++ b.found.1)) label.is
          ∙ ap (λ x. escape label.text ++ (codes "\",\"s\":" ++ x)) (start.whole
          ∙ ap (λ x. c.found.0 ++ (codes ",\"e\":" ++ x)) (end.whole
          ∙ ap (λ x. d.found.0 ++ (codes ",\"data\":\"" ++ x)) (text.whole
          ∙ ap (λ x. x ++ (codes "\"" ++ f.found.1)) text.is
          ∙ ap (λ x. escape text.text ++ (codes "\"" ++ x)) left))));
    }

-- what is printed of a number that isn't 0 is a place
digit_is : (d : ℕ) → 48 ≤ d → d ≤ 57 → is_digit d ≡ true
digit_is d low high = rw (le-leb 48 d low, le-leb d 57 high) refl

digits_all : (ds : List ℕ) → ((i : ℕ) → i < length ds → (48 ≤ get_or ds i 0) × (get_or ds i 0 ≤ 57))
    → digit_count ds ≡ length ds
digits_all [] h = digit_nil
digits_all (d ∷ ds) h =
    let first = h 0 (omega arith) in
    digit_more d ds (digit_is d first.0 first.1) ∙ ap suc (digits_all ds (λ i lt. h (suc i) (omega arith)))

first_above : (ds : List ℕ) → 48 < get_or ds 0 0 → begins_with_0 ds ≡ false
first_above [] h = refl
first_above (d ∷ ds) h = not_same d 48 (λ e. omega arith)

-- a number from 1 to 2 ^ 64 - 1, in decimal, is a place
pub decimal_place : (n : ℕ) → n + 1 < 2 ^ 64 → IsPlace (decimal (n + 1))
decimal_place n h =
    digits_place (decimal (n + 1)) (record {
      all = digits_all (decimal (n + 1)) (λ i lt. digit_at (decimal (n + 1)) i (decimal_is_IsNumeral (n + 1) h).0.1 lt);
      some = decimal_nonempty (n + 1) h;
      first = first_above (decimal (n + 1)) (first_decimal (n + 1) (omega arith) h);
    })
