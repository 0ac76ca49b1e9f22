-- The three shapes in which a text is spelled, byte by byte, and back.
use Rattle.std.proofs.Common.{◌≡◌, ℕ, zero, suc, Bool, true, false, ◌+◌, ◌-◌, ◌*◌, ◌/◌, ◌%◌, ◌<◌, ◌≤◌, List, [], ◌∷◌}
use Rattle.std.proofs.Common.{◌++◌, length, take, drop, Option, None, Some, refl, sym, ap, subst, ◌∙◌, arith, inl, inr}
use Rattle.std.proofs.Common.{append_assoc, length-append, length-drop}
use Rattle.std.specs.Prelude.{◌&&◌, if◌then◌else◌, nat_eq, nat_le, nat_lt}
use Rattle.std.specs.Char.{digit_char}
use Rattle.std.proofs.Math.Seq.{take-add}
use Rattle.std.proofs.lemmas.Bool.{cases_eq, cases_lt, eq-eqb, eqb-true, false≢true, le-leb, leb-true, lt-ltb, ltb-true}
use Rattle.std.proofs.lemmas.Bool.Decides.{nat_tests}
use Rattle.json.specs.Print.{escape, escape_byte, escape_letter}
use Rattle.json.proofs.Printed.Strings.{escape_byte_plain}
use Rattle.rpl_print.specs.Quoted.{is_plain_byte}
use Rattle.rpl_columns.specs.Spelling.{by_escape, control_by, control_in, escape_count, hex_value, is_long}
use Rattle.rpl_columns.specs.Spelling.{is_short_escape, string_count}
use Rattle.rpl_columns.specs.Cells.{first_in, first_escaped, unescaped}
use Rattle.rpl_columns.proofs.Counting.{by_some, not_same, skipped, string_escape, string_more, string_nil}
use Rattle.rpl_columns.proofs.Counting.{string_quote}
use Rattle.rpl_columns.proofs.Texts.{plain_is}

pub none_some : {A : Type 0} {x : A} → None ≡ Some x → ⊥
none_some e = cc

pub some_same : {A : Type 0} {x y : A} → Some x ≡ Some y → x ≡ y
some_same e = cc

pub both : (a b : Bool) → (a && b) ≡ true → (a ≡ true) × (b ≡ true)
both true b h = (refl, h)
both false b h = absurd (false≢true h)

eqb_not : (a b : ℕ) → nat_eq a b ≡ false → a ≡ b → ⊥
eqb_not a b h e = absurd (false≢true (sym h ∙ eq-eqb a b e))

-- a byte below 32 without a short escape
no_letter : (b : ℕ) → b < 32 → is_long b ≡ true → escape_letter b ≡ 0
no_letter b lt long = grind (arith, nat_tests, long, lt)

control_text : (b : ℕ) → escape_letter b ≡ 0 → b < 32
    → escape_byte b ≡ 92 ∷ 117 ∷ 48 ∷ 48 ∷ digit_char (b / 16) ∷ digit_char (b % 16) ∷ []
unfolding escape_byte
control_text b none lt = rw (none, lt-ltb b 32 lt) refl

pub data Shape (b : ℕ) : Type 0 where
  itself : is_plain_byte b ≡ true → escape_byte b ≡ b ∷ [] → Shape b
  short : (letter : ℕ) → escape_byte b ≡ 92 ∷ letter ∷ [] → is_short_escape letter ≡ true → nat_eq letter 117 ≡ false
      → unescaped letter ≡ b → Shape b
  control : (tens ones : ℕ) → escape_byte b ≡ 92 ∷ 117 ∷ 48 ∷ 48 ∷ tens ∷ ones ∷ [] → control_by tens ones ≡ Some b
      → Shape b

-- P holds below n
abbrev Each : (ℕ → Type 0) → ℕ → Type 0
Each P zero = Unit {0}
Each P (suc n) = P n × Each P n

each_below : (P : ℕ → Type 0) (n : ℕ) → Each P n → (x : ℕ) → x < n → P x
each_below P zero h x lt = absurd (omega arith)
each_below P (suc n) h x lt =
    elim (cases_eq x n) [
      | inl e ↦ subst P (sym e) h.0
      | inr ne ↦ each_below P n h.1 x (omega (arith, ne))
    ]

-- the first 32 bytes, the last first
controls : Each Shape 32
unfolding escape_byte
controls = (
  control 49 102 refl refl,
  (
    control 49 101 refl refl,
    (
      control 49 100 refl refl,
      (
        control 49 99 refl refl,
        (
          control 49 98 refl refl,
          (
            control 49 97 refl refl,
            (
              control 49 57 refl refl,
              (
                control 49 56 refl refl,
                (
                  control 49 55 refl refl,
                  (
                    control 49 54 refl refl,
                    (
                      control 49 53 refl refl,
                      (
                        control 49 52 refl refl,
                        (
                          control 49 51 refl refl,
                          (
                            control 49 50 refl refl,
                            (
                              control 49 49 refl refl,
                              (
                                control 49 48 refl refl,
                                (
                                  control 48 102 refl refl,
                                  (
                                    control 48 101 refl refl,
                                    (
                                      short 114 refl refl refl refl,
                                      (
                                        short 102 refl refl refl refl,
                                        (
                                          control 48 98 refl refl,
                                          (
                                            short 110 refl refl refl refl,
                                            (
                                              short 116 refl refl refl refl,
                                              (
                                                short 98 refl refl refl refl,
                                                (
                                                  control 48 55 refl refl,
                                                  (
                                                    control 48 54 refl refl,
                                                    (
                                                      control 48 53 refl refl,
                                                      (
                                                        control 48 52 refl refl,
                                                        (
                                                          control 48 51 refl refl,
                                                          (
                                                            control 48 50 refl refl,
                                                            (control 48 49 refl refl, (control 48 48 refl refl, tt)),
                                                          ),
                                                        ),
                                                      ),
                                                    ),
                                                  ),
                                                ),
                                              ),
                                            ),
                                          ),
                                        ),
                                      ),
                                    ),
                                  ),
                                ),
                              ),
                            ),
                          ),
                        ),
                      ),
                    ),
                  ),
                ),
              ),
            ),
          ),
        ),
      ),
    ),
  ),
)

quote : Shape 34
unfolding escape_byte
quote = short 34 refl refl refl refl

slash : Shape 92
unfolding escape_byte
slash = short 92 refl refl refl refl

plain_from : (b : ℕ) → 32 ≤ b → (b ≡ 34 → ⊥) → (b ≡ 92 → ⊥) → is_plain_byte b ≡ true
plain_from b low no_quote no_slash = rw (le-leb 32 b low, not_same b 34 no_quote, not_same b 92 no_slash) refl

pub shape : (b : ℕ) → Shape b
shape b =
    elim (cases_lt b 32) [
      | inl low ↦ each_below Shape 32 controls b low
      | inr high ↦
          elim (cases_eq b 34) [
            | inl e ↦ subst Shape (sym e) quote
            | inr no_quote ↦
                elim (cases_eq b 92) [
                  | inl e ↦ subst Shape (sym e) slash
                  | inr no_slash ↦ itself (plain_from b high no_quote no_slash)
                      (escape_byte_plain b no_quote no_slash high)
                ]
          ]
    ]

-- the byte that is spelled is the first
pub first_back : (b : ℕ) (s : List ℕ) → first_in (escape_byte b ++ s) ≡ Some (b, s)
first_back b s = by (shape b)
  where
    by : Shape b → first_in (escape_byte b ++ s) ≡ Some (b, s)
    by (itself plain e) =
        ap (λ x. first_in (x ++ s)) e ∙ ap (λ t. if t then first_escaped s else Some (b, s)) (plain_is b plain).slash
    by (short letter e is other back) =
        ap (λ x. first_in (x ++ s)) e
        ∙ ap (λ t. if t then (elim (control_in s) [ None ↦ None | Some byte ↦ Some (byte, drop 4 s) ])
        else Some (unescaped letter, s)) other
        ∙ ap (λ x. Some (x, s)) back
    by (control tens ones e is) =
        ap (λ x. first_in (x ++ s)) e ∙ ap (λ o. elim o [ None ↦ None | Some byte ↦ Some (byte, s) ]) is

-- how many bytes belong to the string
count_by : (b : ℕ) (rest : List ℕ) → Shape b
    → string_count 0 (escape_byte b ++ rest) ≡ length (escape_byte b) + string_count 0 rest
count_by b rest (itself plain e) = rw e (string_more b rest plain ∙ omega arith)
count_by b rest (short letter e is other back) =
    let bs = letter ∷ rest in
    let one : escape_count bs ≡ 1 = rw is refl in
    let more : string_count 1 bs ≡ 1 + string_count 0 rest = skipped 1 bs (omega arith) in
    rw e (string_escape 92 bs refl refl ∙ ap (λ n. by_escape n (string_count n bs)) one
    ∙ by_some 1 (string_count 1 bs) (omega arith) ∙ omega (arith, more))
count_by b rest (control tens ones e is) =
    let bs = 117 ∷ 48 ∷ 48 ∷ tens ∷ ones ∷ rest in
    let five : escape_count bs ≡ 5 = rw is refl in
    let more : string_count 5 bs ≡ 5 + string_count 0 rest = skipped 5 bs (omega arith) in
    rw e (string_escape 92 bs refl refl ∙ ap (λ n. by_escape n (string_count n bs)) five
    ∙ by_some 5 (string_count 5 bs) (omega arith) ∙ omega (arith, more))

pub count_text : (t rest : List ℕ) → string_count 0 (escape t ++ 34 ∷ rest) ≡ length (escape t)
count_text [] rest = string_quote 34 rest refl refl
count_text (b ∷ t) rest =
    ap (string_count 0) (append_assoc (escape_byte b) (escape t) (34 ∷ rest))
    ∙ count_by b (escape t ++ 34 ∷ rest) (shape b)
    ∙ ap (λ n. length (escape_byte b) + n) (count_text t rest)
    ∙ sym (length-append (escape_byte b) (escape t))

-- ---- back: what is counted spells a text

-- a hexadecimal digit is that of its value
hex_back : (digit : ℕ) → hex_value digit < 16 → digit_char (hex_value digit) ≡ digit
hex_back digit lt = grind (arith, nat_tests, lt)

-- four digits that stand for a control are those of its escape
control_back : (tens ones byte : ℕ) → control_by tens ones ≡ Some byte
    → escape_byte byte ≡ 92 ∷ 117 ∷ 48 ∷ 48 ∷ tens ∷ ones ∷ []
control_back tens ones byte is =
    by (nat_lt (hex_value ones) 16
    && (nat_le 48 tens && (nat_le tens 49 && is_long (16 * (tens - 48) + hex_value ones)))) refl is
  where
    value : ℕ
    value = 16 * (tens - 48) + hex_value ones

    spells : hex_value ones < 16 → 48 ≤ tens → tens ≤ 49 → is_long value ≡ true
        → escape_byte value ≡ 92 ∷ 117 ∷ 48 ∷ 48 ∷ tens ∷ ones ∷ []
    spells lt low high long =
        let few : value < 32 = omega arith in
        let high_digit : value / 16 ≡ tens - 48 = omega arith in
        let low_digit : value % 16 ≡ hex_value ones = omega arith in
        let tens_back : digit_char (tens - 48) ≡ tens = rw (lt-ltb (tens - 48) 10 (omega arith)) (omega arith) in
        control_text value (no_letter value few long) few
        ∙ ap (λ n. 92 ∷ 117 ∷ 48 ∷ 48 ∷ digit_char n ∷ digit_char (value % 16) ∷ []) high_digit
        ∙ ap (λ n. 92 ∷ 117 ∷ 48 ∷ 48 ∷ digit_char (tens - 48) ∷ digit_char n ∷ []) low_digit
        ∙ ap (λ t. 92 ∷ 117 ∷ 48 ∷ 48 ∷ t ∷ digit_char (hex_value ones) ∷ []) tens_back
        ∙ ap (λ o. 92 ∷ 117 ∷ 48 ∷ 48 ∷ tens ∷ o ∷ []) (hex_back ones lt)

    by : (t : Bool) → (nat_lt (hex_value ones) 16 && (nat_le 48 tens && (nat_le tens 49 && is_long value))) ≡ t
        → (if t then Some value else None) ≡ Some byte → escape_byte byte ≡ 92 ∷ 117 ∷ 48 ∷ 48 ∷ tens ∷ ones ∷ []
    by false h e = absurd (none_some e)
    by true h e =
        let a = both (nat_lt (hex_value ones) 16) _ h in
        let b = both (nat_le 48 tens) _ a.1 in
        let c = both (nat_le tens 49) _ b.1 in
        subst (λ n. escape_byte n ≡ 92 ∷ 117 ∷ 48 ∷ 48 ∷ tens ∷ ones ∷ []) (some_same e)
        (spells (ltb-true (hex_value ones) 16 a.0) (leb-true 48 tens b.0) (leb-true tens 49 c.0) c.1)

-- a letter of a short escape is that of its byte
letter_back : (letter : ℕ) → is_short_escape letter ≡ true → escape_byte (unescaped letter) ≡ 92 ∷ letter ∷ []
unfolding escape_byte
letter_back letter h =
    elim (cases_eq letter 34) [
      | inl e ↦ subst P (sym e) refl
      | inr n34 ↦ elim (cases_eq letter 92) [
        | inl e ↦ subst P (sym e) refl
        | inr n92 ↦ elim (cases_eq letter 98) [
          | inl e ↦ subst P (sym e) refl
          | inr n98 ↦ elim (cases_eq letter 102) [
            | inl e ↦ subst P (sym e) refl
            | inr n102 ↦ elim (cases_eq letter 110) [
              | inl e ↦ subst P (sym e) refl
              | inr n110 ↦ elim (cases_eq letter 114) [
                | inl e ↦ subst P (sym e) refl
                | inr n114 ↦ elim (cases_eq letter 116) [
                  | inl e ↦ subst P (sym e) refl
                  | inr n116 ↦ absurd (false≢true (sym (none n34 n92 n98 n102 n110 n114 n116) ∙ h))
                ]
              ]
            ]
          ]
        ]
      ]
    ]
  where
    P : ℕ → Type 0
    P l = escape_byte (unescaped l) ≡ 92 ∷ l ∷ []

    none : (letter ≡ 34 → ⊥) → (letter ≡ 92 → ⊥) → (letter ≡ 98 → ⊥) → (letter ≡ 102 → ⊥) → (letter ≡ 110 → ⊥)
        → (letter ≡ 114 → ⊥) → (letter ≡ 116 → ⊥) → is_short_escape letter ≡ false
    none a b c d e f g =
        rw (
          not_same letter 34 a,
          not_same letter 92 b,
          not_same letter 98 c,
          not_same letter 102 d,
          not_same letter 110 e,
          not_same letter 114 f,
          not_same letter 116 g,
        ) refl

-- a byte that what follows a backslash spells
pub record Spells (bs : List ℕ) : Type 0 where
  pub byte : ℕ
  pub within : escape_count bs ≤ length bs
  pub text : 92 ∷ take (escape_count bs) bs ≡ escape_byte byte

four_back : (bs : List ℕ) (byte : ℕ) → control_in bs ≡ Some byte → (4 ≤ length bs)
    × (92 ∷ 117 ∷ take 4 bs ≡ escape_byte byte)
four_back (a ∷ b ∷ c ∷ d ∷ rest) byte h = by (nat_eq a 48 && nat_eq b 48) refl h
  where
    by : (t : Bool) → (nat_eq a 48 && nat_eq b 48) ≡ t → (if t then control_by c d else None) ≡ Some byte
        → (4 ≤ length (a ∷ b ∷ c ∷ d ∷ rest)) × (92 ∷ 117 ∷ take 4 (a ∷ b ∷ c ∷ d ∷ rest) ≡ escape_byte byte)
    by false e is = absurd (none_some is)
    by true e is =
        let parts = both (nat_eq a 48) (nat_eq b 48) e in (
          omega arith,
          ap (λ x. 92 ∷ 117 ∷ x ∷ b ∷ c ∷ d ∷ []) (eqb-true a 48 parts.0)
              ∙ ap (λ x. 92 ∷ 117 ∷ 48 ∷ x ∷ c ∷ d ∷ []) (eqb-true b 48 parts.1) ∙ sym (control_back c d byte is),
        )
four_back (a ∷ b ∷ c ∷ []) byte h = absurd (none_some h)
four_back (a ∷ b ∷ []) byte h = absurd (none_some h)
four_back (a ∷ []) byte h = absurd (none_some h)
four_back [] byte h = absurd (none_some h)

escape_back : (bs : List ℕ) → 0 < escape_count bs → Spells bs
escape_back [] h = absurd (omega arith)
escape_back (letter ∷ rest) h = by (is_short_escape letter) refl
  where
    from_four : is_short_escape letter ≡ false → nat_eq letter 117 ≡ true → (o : Option ℕ) → control_in rest ≡ o
        → Spells (letter ∷ rest)
    from_four other is None e =
        absurd (omega (arith, h, (let none : escape_count (letter ∷ rest) ≡ 0 = rw (other, is, e) refl in none)))
    from_four other is (Some byte) e =
        let five : escape_count (letter ∷ rest) ≡ 5 = rw (other, is, e) refl in
        let four = four_back rest byte e in
        let enough = four.0 in record {
          byte = byte;
          within = rw five (omega arith);
          text = rw five (ap (λ l. 92 ∷ l ∷ take 4 rest) (eqb-true letter 117 is) ∙ four.1);
        }

    from_other : is_short_escape letter ≡ false → (t : Bool) → nat_eq letter 117 ≡ t → Spells (letter ∷ rest)
    from_other other false is =
        absurd (omega (arith, h, (let none : escape_count (letter ∷ rest) ≡ 0 = rw (other, is) refl in none)))
    from_other other true is = from_four other is (control_in rest) refl

    by : (t : Bool) → is_short_escape letter ≡ t → Spells (letter ∷ rest)
    by true is =
        let one : escape_count (letter ∷ rest) ≡ 1 = rw is refl in record {
          byte = unescaped letter;
          within = rw one (omega arith);
          text = rw one (sym (letter_back letter is));
        }
    by false is = from_other is (nat_eq letter 117) refl

-- what a text is spelled as
pub record SpellsText (s : List ℕ) : Type 0 where
  pub text : List ℕ
  pub is : take (string_count 0 s) s ≡ escape text

none_at : (s : List ℕ) → string_count 0 s ≡ 0 → SpellsText s
none_at s none = record { text = []; is = rw none refl }

abbrev Back : ℕ → Type 0
Back k = (s : List ℕ) → length s ≤ k → SpellsText s

escaped_back : (k b : ℕ) (bs : List ℕ) → length bs ≤ k → Back k → is_plain_byte b ≡ false → nat_eq b 92 ≡ true → (n : ℕ)
    → escape_count bs ≡ n → SpellsText (b ∷ bs)
escaped_back k b bs le back other is zero none =
    none_at (b ∷ bs) (string_escape b bs other is ∙ ap (λ n. by_escape n (string_count n bs)) none)
escaped_back k b bs le back other is (suc n) some =
    let spells = escape_back bs (omega (arith, some)) in
    let within : suc n ≤ length bs = rw (← some) spells.within in
    let more = back (drop (suc n) bs) (omega (arith, length-drop (suc n) bs)) in
    let m = string_count 0 (drop (suc n) bs) in
    let count : string_count 0 (b ∷ bs) ≡ suc (suc n + m) =
    string_escape b bs other is ∙ ap (λ x. by_escape x (string_count x bs)) some ∙ ap suc (skipped (suc n) bs within) in
    record {
      text = spells.byte ∷ more.text;
      is =
          ap (λ x. take x (b ∷ bs)) count
          ∙ ap (λ t. b ∷ t) (take-add (suc n) m bs)
          ∙ ap (λ x. x ∷ (take (suc n) bs ++ take m (drop (suc n) bs))) (eqb-true b 92 is)
          ∙ ap (λ t. 92 ∷ (take (suc n) bs ++ t)) more.is
          ∙ ap (λ t. t ++ escape more.text) (ap (λ x. 92 ∷ take x bs) (sym some) ∙ spells.text);
    }

other_back : (k b : ℕ) (bs : List ℕ) → length bs ≤ k → Back k → is_plain_byte b ≡ false → (t : Bool) → nat_eq b 92 ≡ t
    → SpellsText (b ∷ bs)
other_back k b bs le back other true is = escaped_back k b bs le back other is (escape_count bs) refl
other_back k b bs le back other false is = none_at (b ∷ bs) (string_quote b bs other is)

byte_back : (k b : ℕ) (bs : List ℕ) → length bs ≤ k → Back k → (t : Bool) → is_plain_byte b ≡ t → SpellsText (b ∷ bs)
byte_back k b bs le back true plain =
    let more = back bs le in
    let no = plain_is b plain in
    record {
      text = b ∷ more.text;
      is =
          ap (λ x. take x (b ∷ bs)) (string_more b bs plain)
          ∙ ap (λ t. b ∷ t) more.is
          ∙ ap (λ t. t ++ escape more.text)
          (sym (escape_byte_plain b (eqb_not b 34 no.quote) (eqb_not b 92 no.slash) no.low));
    }
byte_back k b bs le back false other = other_back k b bs le back other (nat_eq b 92) refl

pub string_back : (k : ℕ) (s : List ℕ) → length s ≤ k → SpellsText s
string_back k [] h = none_at [] (string_nil 0)
string_back zero (b ∷ bs) h = absurd (omega arith)
string_back (suc k) (b ∷ bs) h = byte_back k b bs (omega arith) (string_back k) (is_plain_byte b) refl
