-- What a token says is no longer than the text that it stands in.
use Rattle.std.proofs.Common.{◌≤◌, ℕ, zero, suc, ◌+◌, ◌-◌, ◌*◌, List, [], ◌∷◌, length, take, drop, Option, Some, None}
use Rattle.std.proofs.Common.{ap, arith}
use Rattle.std.specs.Prelude.{Bool, true, false, nat_eq, if◌then◌else◌}
use Rattle.std.specs.Str.{chars, chars_after, continuation_len, lead_bits}
use Rattle.std.proofs.lemmas.List.{length-take, length-drop}
use Rattle.rpl_lexer.specs.Bytes.{is_word, run}
use Rattle.rpl_lexer.specs.Payloads.{span, inner, prefix_of, name_of, text_of, unescaped, decoded}
use Rattle.rpl_lexer.specs.declared.token.Token.{Token as Lexeme}
use Rattle.rpl_lexer.proofs.Decoding.{decoded_cons, decoded_nil, decoded_skip}
use Rattle.rpl_text.specs.Escapes.{escape}

-- ---- characters

after_short : (n c : ℕ) (bs : List ℕ) → length (chars_after n c bs) ≤ length bs + 1
after_short zero c [] = omega arith
after_short zero c (b ∷ bs) = omega (arith, after_short (continuation_len b) (lead_bits b) bs)
after_short (suc n) c [] = omega arith
after_short (suc n) c (b ∷ bs) = omega (arith, after_short n (c * 64 + (b - 128)) bs)

pub chars_short : (bs : List ℕ) → length (chars bs) ≤ length bs
unfolding chars
chars_short [] = omega arith
chars_short (b ∷ bs) = omega (arith, after_short (continuation_len b) (lead_bits b) bs)

-- ---- texts with escapes

unescaped_short : (o : Option (ℕ × ℕ)) (rest : ℕ → List ℕ) (n : ℕ) → ((k : ℕ) → length (rest k) ≤ n)
    → length (unescaped o rest) ≤ n + 1
unescaped_short None rest n h = omega arith
unescaped_short (Some p) rest n h = omega (arith, h p.1)

if_short : (b : Bool) (x y : List ℕ) (n : ℕ) → length x ≤ n → length y ≤ n → length (if b then x else y) ≤ n
if_short true x y n h k = h
if_short false x y n h k = k

decoded_short : (k : ℕ) (cs : List ℕ) → length (decoded k cs) ≤ length cs
decoded_short k [] = omega (arith, ap length (decoded_nil k))
decoded_short (suc k) (c ∷ cs) = omega (arith, ap length (decoded_skip k c cs), decoded_short k cs)
decoded_short zero (c ∷ cs) =
    let e = unescaped (escape cs) (λ k. decoded k cs) in
    let r = c ∷ decoded 0 cs in
    let n = length cs + 1 in
    let one : length e ≤ n = unescaped_short (escape cs) (λ k. decoded k cs) (length cs) (λ k. decoded_short k cs) in
    let two : length r ≤ n = omega (arith, decoded_short 0 cs) in
    let all = if_short (nat_eq c 34) [] (if nat_eq c 92 then e
    else r) n (omega arith) (if_short (nat_eq c 92) e r n one two) in
    omega (arith, ap length (decoded_cons c cs), all)

-- ---- tokens

taken : (n : ℕ) (xs : List ℕ) → length (take n xs) ≤ length xs
taken n xs = omega (arith, length-take n xs)

dropped : (n : ℕ) (xs : List ℕ) → length (drop n xs) ≤ length xs
dropped n xs = omega (arith, length-drop n xs)

range_short : (s : List ℕ) (i j : ℕ) → length (take (j - i) (drop i s)) ≤ length s
range_short s i j = omega (arith, taken (j - i) (drop i s), dropped i s)

pub name_short : (s : List ℕ) (l : Lexeme) → length (chars (span s l)) ≤ length s
name_short s l = omega (arith, chars_short (span s l), range_short s l.start l.end)

pub first_short : (s : List ℕ) (l : Lexeme) → length (chars (prefix_of s l)) ≤ length s
first_short s l =
    omega (arith, chars_short (prefix_of s l), taken (run is_word (span s l)) (span s l), range_short s l.start l.end)

pub second_short : (s : List ℕ) (l : Lexeme) → length (chars (name_of s l)) ≤ length s
second_short s l =
    omega (
      arith,
      chars_short (name_of s l),
      dropped (run is_word (span s l) + 1) (span s l),
      range_short s l.start l.end,
    )

pub text_short : (s : List ℕ) (l : Lexeme) → length (text_of s l) ≤ length s
text_short s l =
    omega (arith, decoded_short 0 (chars (inner s l)), chars_short (inner s l), range_short s (l.start + 1) l.end)
