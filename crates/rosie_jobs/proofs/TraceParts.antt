-- The text of a trace, part by part.
use Rattle.std.proofs.Common.{◌≡◌, ℕ, zero, suc, ◌+◌, ◌-◌, ◌<◌, ◌≤◌, Bool, true, false, List, [], ◌∷◌, ◌++◌, drop, take}
use Rattle.std.proofs.Common.{length, length-drop, refl, sym, ◌∙◌, ap, append_assoc, arith}
use Rattle.std.proofs.lemmas.Bool.Decides.{nat_tests}
use Rattle.std.proofs.lemmas.List.{drop_all, take-append-drop, take_rest}
use Rattle.std.specs.Prelude.{None, Ok, min, nat_lt, string_bytes}
use Rattle.rosie_run.proofs.Parted.{whole_is}
use Rattle.rosie_run.specs.Parts.{GivesPart, part_bytes, whole_of}
use Rattle.rosie_jobs.specs.Tracing.{left_if, left_in, made_in, part_of, rest_of}
use Rattle.rosie_jobs.specs.declared.trace_parts.TraceParts.{TraceParts}

zero_more : (m : ℕ) → m ≡ 0 + m
zero_more m = omega arith

suc_more : (n m : ℕ) → suc (n + m) ≡ suc n + m
suc_more n m = omega arith

drop_more : (n m : ℕ) (xs : List ℕ) → drop m (drop n xs) ≡ drop (n + m) xs
drop_more zero m xs = ap (λ k. drop k xs) (zero_more m)
drop_more (suc n) m [] = drop_all m [] (omega arith) ∙ sym (drop_all (suc n + m) [] (omega arith))
drop_more (suc n) m (x ∷ xs) = drop_more n m xs ∙ ap (λ k. drop k (x ∷ xs)) (suc_more n m)

-- as many as are taken
drop_taken : (n : ℕ) (xs : List ℕ) → drop (length (take n xs)) xs ≡ drop n xs
drop_taken zero xs = refl
drop_taken (suc n) [] = refl
drop_taken (suc n) (x ∷ xs) = drop_taken n xs

taken_some : (n : ℕ) (xs : List ℕ) → 0 < n → 0 < length xs → 0 < length (take n xs)
taken_some zero xs h k = absurd (omega arith)
taken_some (suc n) [] h k = absurd (omega arith)
taken_some (suc n) (x ∷ xs) h k = omega arith

-- at most n are taken, or all
take_fits : (k n : ℕ) (xs : List ℕ) → k ≤ n → k ≤ length xs → (k < n → k ≡ length xs) → take k xs ≡ take n xs
take_fits zero zero xs fits all full = refl
take_fits zero (suc n) [] fits all full = refl
take_fits zero (suc n) (x ∷ xs) fits all full = let e = full (omega arith) in absurd (omega arith)
take_fits (suc k) zero xs fits all full = absurd (omega arith)
take_fits (suc k) (suc n) [] fits all full = absurd (omega arith)
take_fits (suc k) (suc n) (x ∷ xs) fits all full =
    ap (λ ys. x ∷ ys)
    (take_fits k n xs (omega arith) (omega arith) (λ l. let e = full (omega arith) in omega arith))

pub part_cut : (from k : ℕ) (bytes : List ℕ)
    → k ≡ min (length (take (length bytes - from) (drop from bytes))) part_bytes
    → take k (take (length bytes - from) (drop from bytes)) ≡ take part_bytes (drop from bytes)
part_cut from k bytes e =
    let all = take_rest bytes from in let same = ap length all in
    ap (take k) all
    ∙ take_fits k part_bytes (drop from bytes) (omega arith) (omega arith) (λ l. omega arith)

-- the part and what comes after it
pub part_joined : (made left : List ℕ) → take part_bytes made ++ (drop part_bytes made ++ left) ≡ made ++ left
part_joined made left =
    sym (append_assoc (take part_bytes made) (drop part_bytes made) left)
    ∙ ap (λ x. x ++ left) (take-append-drop part_bytes made)

-- a text of which nothing is made or left
pub none_whole : (p : TraceParts) → string_bytes p.made ≡ [] → p.lines ≡ None → whole_of (part_of p) (rest_of p) ≡ []
none_whole p none last =
    whole_is (part_of p) (rest_of p) ∙ part_joined (made_in p) (left_in p)
    ∙ ap (λ bytes. drop p.from bytes ++ left_in p) none ∙ ap (λ x. x ++ left_in p) (drop_all p.from [] (omega arith))
    ∙ ap left_if last

-- the part was made of these bytes from one place on, and ends at the other
module _ (from to : ℕ) (bytes left part : List ℕ) (is : part ≡ take part_bytes (drop from bytes))
    (ends : to ≡ from + length part) where
  part_passed : drop part_bytes (drop from bytes) ++ left ≡ drop to bytes ++ left
  part_passed =
      let count = length (take part_bytes (drop from bytes)) in
      let at : from + count ≡ to = ap (λ x. from + length x) (sym is) ∙ sym ends in
      ap (λ x. x ++ left) (sym (drop_taken part_bytes (drop from bytes)) ∙ drop_more from count bytes
      ∙ ap (λ n. drop n bytes) at)

  pub gives_made : to < length bytes
      → (drop part_bytes (drop from bytes) ++ left
      ≡ take part_bytes (drop to bytes) ++ (drop part_bytes (drop to bytes) ++ left))
      × (0 < length (take part_bytes (drop to bytes)))
  gives_made more = (
    part_passed ∙ sym (part_joined (drop to bytes) left),
    taken_some part_bytes (drop to bytes) (omega arith) (omega (arith, length-drop to bytes)),
  )

  -- no bytes are left, so others were made
  pub gives_more : (E : Type 0) (start count : ℕ) (made rest : List ℕ) → length bytes ≤ to → count ≡ length made
      → drop start made ++ rest ≡ left → (drop start made ≡ [] → rest ≡ [])
      → GivesPart {E = E} (Ok (nat_lt start count)) (drop part_bytes (drop from bytes) ++ left)
      (take part_bytes (drop start made)) (drop part_bytes (drop start made) ++ rest)
  gives_more E start count made rest none is split last =
      let before : drop part_bytes (drop from bytes) ++ left ≡ drop start made ++ rest = part_passed
      ∙ ap (λ x. x ++ left) (drop_all to bytes none) ∙ sym split in
      by_case (nat_lt start count) refl before
    where
      by_case : (b : Bool) → nat_lt start count ≡ b
          → drop part_bytes (drop from bytes) ++ left ≡ drop start made ++ rest
          → GivesPart {E = E} (Ok b) (drop part_bytes (drop from bytes) ++ left) (take part_bytes (drop start made))
          (drop part_bytes (drop start made) ++ rest)
      by_case true e before =
          let some : start < length made = grind (arith, nat_tests) in (
            before ∙ sym (part_joined (drop start made) rest),
            taken_some part_bytes (drop start made) (omega arith) (omega (arith, length-drop start made)),
          )
      by_case false e before =
          let few : length made ≤ start = grind (arith, nat_tests) in
          let nothing : drop start made ≡ [] = drop_all start made few in
          before ∙ ap (λ x. x ++ rest) nothing ∙ last nothing
