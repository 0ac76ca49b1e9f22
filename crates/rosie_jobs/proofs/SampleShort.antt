-- A line is short.
use Rattle.std.proofs.Common.{ℕ, ◌≡◌, ◌+◌, ◌/◌, ◌%◌, ◌<◌, ◌≤◌, ◌^◌, Bool, true, false, cond, ◌++◌, length}
use Rattle.std.proofs.Common.{length-append, ◌∙◌, ap, arith}
use Rattle.std.specs.Prelude.{nat_eq, nat_lt, codes, List, [], Result, Ok, Err, OnOk}
use Rattle.std.specs.Fmt.{decimal}
use Rattle.std.proofs.lemmas.Fmt.{length-decimal-le}
use Rattle.rosie_jobs.specs.SampleLines.{next, drawn, two_digits, level, date, dated, undated, line_of}

zero_short : (b : Bool) → length (cond b (codes "0") []) ≤ 1
zero_short true = omega arith
zero_short false = omega arith

level_short : (b d : Bool) → length (cond b (codes "INFO") (cond d (codes "WARN") (codes "ERROR"))) ≤ 5
level_short true d = omega arith
level_short false true = omega arith
level_short false false = omega arith

digits_short : (n : ℕ) → n < 10 ^ 10 → length (decimal n) ≤ 10
digits_short n h = length-decimal-le 10 n (omega arith) h (omega arith)

two_short : (n : ℕ) → n < 10 ^ 10 → length (two_digits n) ≤ 11
two_short n h =
    let a = zero_short (nat_lt n 10) in let b = digits_short n h in
    omega (arith, length-append (cond (nat_lt n 10) (codes "0") []) (decimal n))

joined_short : (xs ys : List ℕ) (m n : ℕ) → length xs ≤ m → length ys ≤ n → length (xs ++ ys) ≤ m + n
joined_short xs ys m n h k = omega (arith, length-append xs ys)

date_short : (r : ℕ) → length (date r) ≤ 28
date_short r =
    let month : length (two_digits (1 + r % 12)) ≤ 11 = two_short (1 + r % 12) (omega arith) in
    let day : length (two_digits (1 + r % 28)) ≤ 11 = two_short (1 + r % 28) (omega arith) in
    let b = joined_short (codes "-") (two_digits (1 + r % 28)) 1 11 (omega arith) day in
    let a = joined_short (two_digits (1 + r % 12)) (codes "-" ++ two_digits (1 + r % 28)) 11 12 month b in
    joined_short (codes "2024-") (two_digits (1 + r % 12) ++ (codes "-" ++ two_digits (1 + r % 28))) 5 23 (omega arith)
    a

dated_short : (r : ℕ) → r < 10 ^ 9 → length (dated r) ≤ 64
dated_short r h =
    let name = level_short (nat_eq (r % 4) 0) (nat_eq (r % 4) 1) in
    let digits = digits_short r (omega arith) in
    let c = joined_short (codes " ") (decimal r) 1 10 (omega arith) digits in
    let b = joined_short (level (r % 4)) (codes " " ++ decimal r) 5 11 name c in
    let a = joined_short (codes " ") (level (r % 4) ++ (codes " " ++ decimal r)) 1 16 (omega arith) b in
    let all = joined_short (date r) (codes " " ++ (level (r % 4) ++ (codes " " ++ decimal r))) 28 17 (date_short r) a in
    omega arith

undated_short : (r : ℕ) → r < 10 ^ 9 → length (undated r) ≤ 64
undated_short r h = let a = digits_short r (omega arith) in omega (arith, length-append (codes "no date ") (decimal r))

either_short : (b : Bool) (r : ℕ) → r < 10 ^ 9 → length (cond b (undated r) (dated r)) ≤ 64
either_short true r h = undated_short r h
either_short false r h = dated_short r h

drawn_small : (x : ℕ) → drawn (next x) < 10 ^ 9
drawn_small x = omega arith

-- the line of a number that is drawn
pub line_short : (x : ℕ) → length (line_of (drawn (next x))) ≤ 64
unfolding line_of
line_short x = either_short (nat_eq (drawn (next x) % 4) 3) (drawn (next x)) (drawn_small x)

-- and when it is written over an empty text
pub short_after : (old new : List ℕ) (x n : ℕ) → old ≡ [] → n ≡ next x → new ≡ old ++ line_of (n / 65536)
    → length new ≤ 64
short_after old new x n e h w =
    let line : new ≡ line_of (drawn (next x)) = w ∙ ap (λ xs. xs ++ line_of (n / 65536)) e
    ∙ ap (λ k. line_of (k / 65536)) h in
    let l = ap length line in let short = line_short x in omega arith

pub on_ok : {X Y : Type 0} (o : Result X Y) (P Q : Type 0) → (P → Q) → OnOk o P → OnOk o Q
on_ok (Ok x) P Q f h = f h
on_ok (Err e) P Q f h = tt
