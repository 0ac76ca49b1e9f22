-- What was written is read again.
use Rattle.std.proofs.Common.{◌≡◌, ℕ, suc, ◌^◌, ◌<◌, List, [], ◌∷◌, ◌++◌, length, Option, Some, refl, sym, ap, ◌∙◌}
use Rattle.std.proofs.Common.{append_assoc, arith}
use Rattle.std.specs.Prelude.{true, false, nat_lt, encode_utf8_all}
use Rattle.std.specs.List.{flat_map, AllByRecursion}
use Rattle.std.specs.Int.{Width, w32, w64, byte_len, from_be_bytes, to_be_bytes}
use Rattle.std.specs.Str.{IsUtf8, all_scalars}
use Rattle.std.proofs.lemmas.Bool.{le-ltb}
use Rattle.std.proofs.lemmas.List.{take_at, drop_at, length-append, append-nil}
use Rattle.std.proofs.lemmas.List.Concat.{flat_map-cons}
use Rattle.std.proofs.lemmas.List.Elements.{recursion_from_All}
use Rattle.std.proofs.lemmas.Nat.{from_be_bytes-to_be_bytes_4, from_be_bytes-to_be_bytes_8}
use Rattle.std.proofs.lemmas.Str.{chars-encodes}
use Rattle.rpl_text.specs.Options.{◌>>=◌}
use Rattle.regex_class.specs.Ranges.{Range}
use Rattle.rpl_classes.proofs.Normal.{norm_normal_same}
use Rattle.rpl_core.specs.declared.instr.Instr as R
use Rattle.rpl_core.specs.declared.instr.Instr.TheVariants as V
use Rattle.rpl_codefile.specs.Spelling.{File, body, Short, ShortRange, FitsSet, FitsText, FitsFile, number, range, set}
use Rattle.rpl_codefile.specs.Spelling.{text, instr}
use Rattle.rpl_codefile.specs.inside.Reading.{number_at, range_at, set_at, text_at, instr_at, items_at, one_at}
use Rattle.rpl_codefile.specs.inside.Reading.{two_at, with_number, file_at}
use Rattle.rpl_codefile.proofs.Texts.{text_is}

-- the two widths
record IsWide (w : Width) (limit : ℕ) : Type 0 where
  len : (n : ℕ) → length (to_be_bytes w n) ≡ byte_len w
  again : (n : ℕ) → n < limit → from_be_bytes w (to_be_bytes w n) ≡ n

again_at : (w : Width) (limit : ℕ) (wide : IsWide w limit) (n : ℕ) (rest : List ℕ) → n < limit
    → number_at w (to_be_bytes w n ++ rest) ≡ Some (n, rest)
again_at w limit wide n rest lt =
    let len = wide.len n in
    let long : nat_lt (length (to_be_bytes w n ++ rest)) (byte_len w) ≡ false =
    le-ltb _ _ (omega (arith, length-append (to_be_bytes w n) rest)) in
    rw (
      long,
      take_at (to_be_bytes w n) rest (byte_len w) len,
      drop_at (to_be_bytes w n) rest (byte_len w) len,
      wide.again n lt,
    ) refl

pub number_again : (n : ℕ) (rest : List ℕ) → n < 2 ^ 32 → number_at w32 (number n ++ rest) ≡ Some (n, rest)
number_again n rest lt =
    again_at w32 (2 ^ 32) (record { len = λ m. refl; again = λ m h. from_be_bytes-to_be_bytes_4 m h }) n rest lt

pub number64_again : (n : ℕ) (rest : List ℕ) → n < 2 ^ 64 → number_at w64 (to_be_bytes w64 n ++ rest) ≡ Some (n, rest)
number64_again n rest lt =
    again_at w64 (2 ^ 64) (record { len = λ m. refl; again = λ m h. from_be_bytes-to_be_bytes_8 m h }) n rest lt

abbrev kept : R.Instr → List ℕ → Option (R.Instr × List ℕ)
kept j rest = Some (j, rest)

one_again : (b n : ℕ) (i : R.Instr) (rest : List ℕ) → with_number b n ≡ Some i → n < 2 ^ 32
    → one_at b (number n ++ rest) ≡ Some (i, rest)
one_again b n i rest e lt = ap (λ o. o >>= (λ x. with_number b x.0 >>= (λ j. kept j x.1))) (number_again n rest lt)
    ∙ ap (λ o. o >>= (λ j. kept j rest)) e

two_again : (l k : ℕ) (rest : List ℕ) → l < 2 ^ 32 → k < 2 ^ 32 → two_at ((number l ++ number k) ++ rest)
    ≡ Some (V.TestSet l k, rest)
two_again l k rest p q =
    ap two_at (append_assoc (number l) (number k) rest)
    ∙ ap (λ o. o >>= (λ x. number_at w32 x.1 >>= (λ y. kept (V.TestSet x.0 y.0) y.1)))
    (number_again l (number k ++ rest) p) ∙ ap (λ o. o >>= (λ y. kept (V.TestSet l y.0) y.1)) (number_again k rest q)

pub instr_again : (i : R.Instr) (rest : List ℕ) → Short i → instr_at (instr i ++ rest) ≡ Some (i, rest)
unfolding instr_at
instr_again (V.Set n) rest h = one_again 1 n (V.Set n) rest refl h
instr_again V.Start rest h = refl
instr_again V.End rest h = refl
instr_again (V.Choice n) rest h = one_again 4 n (V.Choice n) rest refl h
instr_again (V.Commit n) rest h = one_again 5 n (V.Commit n) rest refl h
instr_again V.FailTwice rest h = refl
instr_again (V.BackCommit n) rest h = one_again 7 n (V.BackCommit n) rest refl h
instr_again V.Fail rest h = refl
instr_again (V.Back n) rest h = one_again 9 n (V.Back n) rest refl h
instr_again (V.Meet n) rest h = one_again 10 n (V.Meet n) rest refl h
instr_again (V.Call n) rest h = one_again 11 n (V.Call n) rest refl h
instr_again V.Return rest h = refl
instr_again (V.Open n) rest h = one_again 13 n (V.Open n) rest refl h
instr_again V.Close rest h = refl
instr_again (V.Note n) rest h = one_again 15 n (V.Note n) rest refl h
instr_again V.Finish rest h = refl
instr_again (V.PartialCommit n) rest h = one_again 17 n (V.PartialCommit n) rest refl h
instr_again (V.Span n) rest h = one_again 18 n (V.Span n) rest refl h
instr_again (V.TestSet l k) rest h = two_again l k rest h.0 h.1
instr_again V.Halt rest h = refl

-- so many of them
pub items_again : {X : Type 0} (read : List ℕ → Option (X × List ℕ)) (write : X → List ℕ) (P : X → Type 0)
    → ((x : X) (rest : List ℕ) → P x → read (write x ++ rest) ≡ Some (x, rest)) → (xs : List X) (rest : List ℕ)
    → AllByRecursion P xs → items_at read (length xs) (flat_map write xs ++ rest) ≡ Some (xs, rest)
unfolding items_at
items_again read write P one [] rest h = refl
items_again read write P one (x ∷ xs) rest h =
    let regrouped : flat_map write (x ∷ xs) ++ rest ≡ write x ++ (flat_map write xs ++ rest) =
    ap (λ l. l ++ rest) (flat_map-cons write x xs) ∙ append_assoc (write x) (flat_map write xs) rest in
    ap (items_at read (suc (length xs))) regrouped
    ∙ rw (one x (flat_map write xs ++ rest) h.0, items_again read write P one xs rest h.1) refl

pub range_again : (r : Range) (rest : List ℕ) → (r.0 < 2 ^ 32) × (r.1 < 2 ^ 32)
    → range_at (range r ++ rest) ≡ Some (r, rest)
unfolding range_at
range_again r rest h =
    ap range_at (append_assoc (number r.0) (number r.1) rest)
    ∙ rw (number_again r.0 (number r.1 ++ rest) h.0, number_again r.1 rest h.1) refl

pub set_again : (s : List Range) (rest : List ℕ) → FitsSet s → set_at (set s ++ rest) ≡ Some (s, rest)
unfolding set_at
set_again s rest h =
    ap set_at (append_assoc (number (length s)) (flat_map range s) rest)
    ∙ rw (
      number_again (length s) (flat_map range s ++ rest) h.long,
      items_again range_at range ShortRange range_again s rest (recursion_from_All ShortRange s h.ranges),
      norm_normal_same s h.normal,
    ) refl

pub text_again : (x rest : List ℕ) → (all_scalars x ≡ true) × (length (encode_utf8_all x) < 2 ^ 64)
    → text_at (text x ++ rest) ≡ Some (x, rest)
text_again x rest h =
    let bytes = encode_utf8_all x in
    let u : IsUtf8 bytes = (x, (h.0, refl)) in
    ap text_at (append_assoc (to_be_bytes w64 (length bytes)) bytes rest)
    ∙ text_is (to_be_bytes w64 (length bytes) ++ (bytes ++ rest)) (length bytes) (bytes ++ rest) bytes rest
    (number64_again (length bytes) (bytes ++ rest) h.1) (omega (arith, length-append bytes rest))
    (sym (take_at bytes rest (length bytes) refl)) (sym (drop_at bytes rest (length bytes) refl)) u
    ∙ ap (λ y. Some (y, rest)) (chars-encodes x h.0)

-- what is read after each part
abbrev pub c5 : List (List Range) → List (List ℕ) → List R.Instr × List ℕ → Option File
c5 s t code = Some (record { code = code.0; sets = s; texts = t })

abbrev pub c4 : List (List Range) → List (List ℕ) → ℕ × List ℕ → Option File
c4 s t c = items_at instr_at c.0 c.1 >>= c5 s t

abbrev pub c3 : List (List Range) → List (List ℕ) × List ℕ → Option File
c3 s texts = number_at w32 texts.1 >>= c4 s texts.0

abbrev pub c2 : List (List Range) → ℕ × List ℕ → Option File
c2 s t = items_at text_at t.0 t.1 >>= c3 s

abbrev pub c1 : List (List Range) × List ℕ → Option File
c1 sets = number_at w32 sets.1 >>= c2 sets.0

abbrev pub c0 : ℕ × List ℕ → Option File
c0 s = items_at set_at s.0 s.1 >>= c1

pub file_again : (f : File) → FitsFile f → file_at (body f) ≡ Some f
unfolding file_at
file_again f h =
    let r4 = flat_map instr f.code in
    let r3 = number (length f.code) ++ r4 in
    let r2 = flat_map text f.texts ++ r3 in
    let r1 = number (length f.texts) ++ r2 in
    let r0 = flat_map set f.sets ++ r1 in
    let last : items_at instr_at (length f.code) r4 ≡ Some (f.code, []) =
    ap (items_at instr_at (length f.code)) (sym (append-nil r4))
    ∙ items_again instr_at instr Short instr_again f.code [] (recursion_from_All Short f.code h.code) in
    ap (λ o. o >>= c0) (number_again (length f.sets) r0 h.sets_few)
    ∙ ap (λ o. o >>= c1) (items_again set_at set FitsSet set_again f.sets r1 (recursion_from_All FitsSet f.sets h.sets))
    ∙ ap (λ o. o >>= c2 f.sets) (number_again (length f.texts) r2 h.texts_few)
    ∙ ap (λ o. o >>= c3 f.sets) (items_again text_at text FitsText text_again f.texts r3
    (recursion_from_All FitsText f.texts h.texts))
    ∙ ap (λ o. o >>= c4 f.sets f.texts) (number_again (length f.code) r4 h.code_few)
    ∙ ap (λ o. o >>= c5 f.sets f.texts) last
