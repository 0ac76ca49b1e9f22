-- Where the bodies of the marked rules stand.
use Rattle.std.proofs.Common.{◌≡◌, ℕ, zero, suc, ◌+◌, ◌-◌, ◌<◌, ◌≤◌, List, [], ◌∷◌, ◌++◌, length, drop, Option, Some}
use Rattle.std.proofs.Common.{None, refl, sym, ap, ◌∙◌, arith, length-append, zero-add, add-zero, append_assoc}
use Rattle.std.specs.Prelude.{Bool, true, false, if◌then◌else◌, slice_get}
use Rattle.rpl_core.specs.Core.{Core}
use Rattle.rpl_core.specs.Instr as I
use Rattle.rpl_core.specs.Code.{code, size}
use Rattle.rpl_core.specs.Programs.{bodies, place_of}
use Rattle.rpl_codegen.specs.inside.Laid.{body_len, bodies_len, rule_code}
use Rattle.rpl_intern.proofs.Adding.{read_at, some_at}
use Rattle.rpl_codegen.proofs.Lengths.{code_length, size_is}
use Rattle.rpl_core.proofs.Walk.{drop_here}

module _ (marks : ℕ → Bool) where
  pub place_zero : (ps : List Core) (k a : ℕ) → place_of marks ps k a zero ≡ a
  place_zero [] k a = refl
  place_zero (p ∷ ps) k a = refl

  -- the rule after one
  pub place_next : (ps : List Core) (k a r : ℕ) → r < length ps
      → place_of marks ps k a (suc r) ≡ place_of marks ps k a r + (if marks (k + r) then body_len (slice_get ps r)
      else 0)
  place_next [] k a r lt = absurd (omega arith)
  place_next (p ∷ ps) k a zero lt = place_zero ps (k + 1) (if marks k then a + size p + 1 else a) ∙ one (marks k)
      ∙ ap (λ x. a + (if marks x then body_len (Some p) else 0)) same
    where
      same : k ≡ k + 0
      same = omega arith

      one : (b : Bool) → (if b then a + size p + 1 else a) ≡ a + (if b then body_len (Some p) else 0)
      one true = omega (arith, size_is p)
      one false = omega arith
  place_next (p ∷ ps) k a (suc r) lt =
      place_next ps (k + 1) (if marks k then a + size p + 1 else a) r (omega arith)
      ∙ ap (λ x. place_of marks ps (k + 1) (if marks k then a + size p + 1
      else a) r + (if marks x then body_len (slice_get ps r) else 0)) same
    where
      same : k + 1 + r ≡ k + suc r
      same = omega arith

  -- all of them
  pub place_end : (ps : List Core) (k a : ℕ) → place_of marks ps k a (length ps) ≡ a + bodies_len marks ps k
  place_end [] k a = omega arith
  place_end (p ∷ ps) k a = place_end ps (k + 1) (if marks k then a + size p + 1 else a) ∙ one (marks k)
    where
      one : (b : Bool) → (if b then a + size p + 1 else a) + bodies_len marks ps (k + 1)
          ≡ a + ((if b then body_len (Some p) else 0) + bodies_len marks ps (k + 1))
      one true = omega (arith, size_is p)
      one false = omega arith

  pub place_past : (ps : List Core) (k a r : ℕ) → length ps ≤ r → place_of marks ps k a r ≡ a + bodies_len marks ps k
  place_past [] k a r le = omega arith
  place_past (p ∷ ps) k a zero le = absurd (omega arith)
  place_past (p ∷ ps) k a (suc r) le = place_past ps (k + 1) (if marks k then a + size p + 1 else a) r (omega arith)
      ∙ one (marks k)
    where
      one : (b : Bool) → (if b then a + size p + 1 else a) + bodies_len marks ps (k + 1)
          ≡ a + ((if b then body_len (Some p) else 0) + bodies_len marks ps (k + 1))
      one true = omega (arith, size_is p)
      one false = omega arith

  pub place_within : (ps : List Core) (k a r : ℕ) → place_of marks ps k a r ≤ a + bodies_len marks ps k
  place_within [] k a r = omega arith
  place_within (p ∷ ps) k a zero = omega arith
  place_within (p ∷ ps) k a (suc r) = go (marks k) (place_within ps (k + 1) (if marks k then a + size p + 1 else a) r)
    where
      go : (b : Bool) → place_of marks ps (k + 1) (if b then a + size p + 1 else a) r ≤ (if b then a + size p + 1
          else a) + bodies_len marks ps (k + 1)
          → place_of marks ps (k + 1) (if b then a + size p + 1
          else a) r ≤ a + ((if b then body_len (Some p) else 0) + bodies_len marks ps (k + 1))
      go true h = omega (arith, h, size_is p)
      go false h = omega (arith, h)

  -- the code of the bodies is as long as they are
  pub bodies_length : (at : ℕ → ℕ) (ps : List Core) (k a : ℕ) → length (bodies marks at ps k a) ≡ bodies_len marks ps k
  bodies_length at [] k a = refl
  bodies_length at (p ∷ ps) k a =
      one (marks k) (bodies_length at ps (k + 1) (a + size p + 1)) (bodies_length at ps (k + 1) a)
    where
      one : (b : Bool) → length (bodies marks at ps (k + 1) (a + size p + 1)) ≡ bodies_len marks ps (k + 1)
          → length (bodies marks at ps (k + 1) a) ≡ bodies_len marks ps (k + 1)
          → length (if b then code at p a ++ I.Return ∷ bodies marks at ps (k + 1) (a + size p + 1)
          else bodies marks at ps (k + 1) a) ≡ (if b then body_len (Some p) else 0) + bodies_len marks ps (k + 1)
      one true h j = omega (
        arith,
        length-append (code at p a) (I.Return ∷ bodies marks at ps (k + 1) (a + size p + 1)),
        code_length at p a,
        h,
      )
      one false h j = j ∙ sym (zero-add (bodies_len marks ps (k + 1)))

  -- from the first rule on
  pub place_turn : (ps : List Core) (a r : ℕ) → r < length ps
      → place_of marks ps 0 a (r + 1) ≡ place_of marks ps 0 a r + (if marks r then body_len (slice_get ps r) else 0)
  place_turn ps a r lt =
      let more : r + 1 ≡ suc r = omega arith in
      let same : 0 + r ≡ r = omega arith in
      ap (place_of marks ps 0 a) more ∙ place_next ps 0 a r lt
      ∙ ap (λ x. place_of marks ps 0 a r + (if marks x then body_len (slice_get ps r) else 0)) same

  -- the bodies from a rule on
  pub bodies_here : (at : ℕ → ℕ) (R : List Core) (k a : ℕ) → k < length R
      → bodies marks at (drop k R) k a ≡ rule_code (marks k) at (slice_get R k) a
      ++ bodies marks at (drop (k + 1) R) (k + 1) (a + length (rule_code (marks k) at (slice_get R k) a))
  bodies_here at R k a lt =
      let x = some_at R k lt in
      let p = x.0 in
      let rest = drop (k + 1) R in
      ap (λ l. bodies marks at l k a) (drop_here R k p lt (sym (read_at R k p x.1))) ∙ one p rest (marks k)
      ∙ ap (λ o. rule_code (marks k) at o a ++ bodies marks at rest (k + 1) (a + length (rule_code (marks k) at o a)))
      (sym x.1)
    where
      one : (p : Core) (rest : List Core) (b : Bool)
          → (if b then code at p a ++ I.Return ∷ bodies marks at rest (k + 1) (a + size p + 1)
          else bodies marks at rest (k + 1) a) ≡ rule_code b at (Some p) a
          ++ bodies marks at rest (k + 1) (a + length (rule_code b at (Some p) a))
      one p rest false = ap (bodies marks at rest (k + 1)) (sym (add-zero a))
      one p rest true =
          let long : a + size p + 1 ≡ a + length (code at p a ++ I.Return ∷ []) =
          omega (arith, length-append (code at p a) (I.Return ∷ []), code_length at p a, size_is p) in
          ap (λ n. code at p a ++ I.Return ∷ bodies marks at rest (k + 1) n) long
          ∙ sym (append_assoc (code at p a) (I.Return ∷ [])
          (bodies marks at rest (k + 1) (a + length (code at p a ++ I.Return ∷ []))))

  -- the same where that rule is marked, and where it isn't
  pub bodies_on : (at : ℕ → ℕ) (R : List Core) (k a : ℕ) → k < length R → marks k ≡ true
      → bodies marks at (drop k R) k a ≡ rule_code true at (slice_get R k) a
      ++ bodies marks at (drop (k + 1) R) (k + 1) (a + length (rule_code true at (slice_get R k) a))
  bodies_on at R k a lt on = bodies_here at R k a lt
      ∙ ap (λ b. rule_code b at (slice_get R k) a ++ bodies marks at (drop (k + 1) R) (k + 1)
      (a + length (rule_code b at (slice_get R k) a))) on

  pub bodies_off : (at : ℕ → ℕ) (R : List Core) (k a : ℕ) → k < length R → marks k ≡ false
      → bodies marks at (drop k R) k a ≡ bodies marks at (drop (k + 1) R) (k + 1) a
  bodies_off at R k a lt off =
      bodies_here at R k a lt
      ∙ ap (λ b. rule_code b at (slice_get R k) a ++ bodies marks at (drop (k + 1) R) (k + 1)
      (a + length (rule_code b at (slice_get R k) a))) off
      ∙ ap (bodies marks at (drop (k + 1) R) (k + 1)) (add-zero a)

  pub rule_length : (at : ℕ → ℕ) (b : Bool) (o : Option Core) (a : ℕ)
      → length (rule_code b at o a) ≡ (if b then body_len o else 0)
  rule_length at false o a = refl
  rule_length at true None a = refl
  rule_length at true (Some p) a = omega (arith, length-append (code at p a) (I.Return ∷ []), code_length at p a)

  pub bodies_len_here : (R : List Core) (k : ℕ) → k < length R
      → bodies_len marks (drop k R) k ≡ (if marks k then body_len (slice_get R k)
      else 0) + bodies_len marks (drop (k + 1) R) (k + 1)
  bodies_len_here R k lt =
      let x = some_at R k lt in
      ap (λ l. bodies_len marks l k) (drop_here R k x.0 lt (sym (read_at R k x.0 x.1)))
      ∙ ap (λ o. (if marks k then body_len o else 0) + bodies_len marks (drop (k + 1) R) (k + 1)) (sym x.1)

  pub bodies_len_on : (R : List Core) (k : ℕ) → k < length R → marks k ≡ true
      → bodies_len marks (drop k R) k ≡ body_len (slice_get R k) + bodies_len marks (drop (k + 1) R) (k + 1)
  bodies_len_on R k lt on =
      bodies_len_here R k lt
      ∙ ap (λ b. (if b then body_len (slice_get R k) else 0) + bodies_len marks (drop (k + 1) R) (k + 1)) on

  -- what goes on over numbers that aren't marked
  module _ (R : List Core) where
    pub place_off : (a r : ℕ) → r < length R → marks r ≡ false → place_of marks R 0 a r ≡ place_of marks R 0 a (r + 1)
    place_off a r lt off =
        sym (place_turn R a r lt ∙ ap (λ b. place_of marks R 0 a r + (if b then body_len (slice_get R r) else 0)) off
        ∙ add-zero (place_of marks R 0 a r))

    pub bodies_len_off : (k : ℕ) → k < length R → marks k ≡ false
        → bodies_len marks (drop k R) k ≡ bodies_len marks (drop (k + 1) R) (k + 1)
    bodies_len_off k lt off =
        bodies_len_here R k lt
        ∙ ap (λ b. (if b then body_len (slice_get R k) else 0) + bodies_len marks (drop (k + 1) R) (k + 1)) off
        ∙ zero-add (bodies_len marks (drop (k + 1) R) (k + 1))

-- what is the same from each number to the next is so from the first to the last
pub gap : {X : Type 0} (f : ℕ → X) (k d : ℕ) → ((r : ℕ) → k ≤ r → r < k + d → f r ≡ f (r + 1)) → f k ≡ f (k + d)
gap f k zero h = ap f (sym (add-zero k))
gap f k (suc d) h =
    let more : k + d + 1 ≡ k + suc d = omega arith in
    gap f k d (λ r le lt. h r le (omega arith)) ∙ h (k + d) (omega arith) (omega arith) ∙ ap f more

pub gap_to : {X : Type 0} (f : ℕ → X) (k j : ℕ) → k ≤ j → ((r : ℕ) → k ≤ r → r < j → f r ≡ f (r + 1)) → f k ≡ f j
gap_to f k j le h =
    let same : k + (j - k) ≡ j = omega arith in
    gap f k (j - k) (λ r a b. h r a (omega arith)) ∙ ap f same
