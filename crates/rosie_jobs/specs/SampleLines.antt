-- The lines of a sample. Each is made from a number, and each number is computed from the one before, as in any linear
-- congruential generator (Knuth, The Art of Computer Programming, volume 2, 3.2.1).
use Rattle.std.specs.Prelude.{ℕ, zero, suc, ◌+◌, ◌*◌, ◌/◌, ◌%◌, nat_eq, nat_lt, if◌then◌else◌}
use Rattle.std.specs.Prelude.{List, [], ◌∷◌, ◌++◌, codes}
use Rattle.std.specs.Fmt.{decimal}

-- the number after one
abbrev pub next : ℕ → ℕ
next x = (x * 1103515245 + 12345) % 2147483648

-- what a line is made of: the number without its sixteen lowest bits, which are the least random
abbrev pub drawn : ℕ → ℕ
drawn x = x / 65536

-- in two digits, or in more where it has more
abbrev pub two_digits : ℕ → List ℕ
two_digits n = (if nat_lt n 10 then codes "0" else []) ++ decimal n

abbrev pub level : ℕ → List ℕ
level n = if nat_eq n 0 then codes "INFO" else (if nat_eq n 1 then codes "WARN" else codes "ERROR")

abbrev pub date : ℕ → List ℕ
date r = codes "2024-" ++ (two_digits (1 + r % 12) ++ (codes "-" ++ two_digits (1 + r % 28)))

-- a line with a date and a level, and one without
abbrev pub dated : ℕ → List ℕ
dated r = date r ++ (codes " " ++ (level (r % 4) ++ (codes " " ++ decimal r)))

abbrev pub undated : ℕ → List ℕ
undated r = codes "no date " ++ decimal r

-- the line of a number: each fourth has no date
unfoldable pub line_of : ℕ → List ℕ
line_of r = if nat_eq (r % 4) 3 then undated r else dated r

-- so many lines after a number
unfoldable pub sample : ℕ → ℕ → List (List ℕ)
sample x zero = []
sample x (suc n) = line_of (drawn (next x)) ∷ sample (next x) n
