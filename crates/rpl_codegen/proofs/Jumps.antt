-- Each jump and call of a code goes to an instruction of it.
use Rattle.std.proofs.Common.{◌≡◌, ℕ, zero, suc, ◌+◌, ◌-◌, ◌*◌, ◌<◌, ◌≤◌, List, [], ◌∷◌, ◌++◌, length, Option, Some}
use Rattle.std.proofs.Common.{None, refl, ap, ◌∙◌, arith, length-append, eq-eqb}
use Rattle.std.proofs.lemmas.Bool.{lt-ltb}
use Rattle.std.proofs.lemmas.List.Folds.{list_all-append}
use Rattle.std.specs.Prelude.{Bool, true, false, ◌&&◌, ◌||◌, nat_lt, if◌then◌else◌, slice_get}
use Rattle.std.specs.List.{list_all}
use Rattle.regex_class.specs.Ranges.{Range}
use Rattle.rpl_core.specs.Core.{Core, Set, Seq, Choice, Many, Not, And, Behind, Call, Capture, Note, Start, End, Halt}
use Rattle.rpl_core.specs.Core.{Cores, NoMore, Then}
use Rattle.rpl_core.specs.Head.{head, lone_set}
use Rattle.rpl_core.specs.Instr.{Instr}
use Rattle.rpl_core.specs.Instr as I
use Rattle.rpl_core.specs.Code.{Placed, code, code_all, code_first, choice_code, tested_choice, many_code, not_code}
use Rattle.rpl_core.specs.Code.{and_code, lengths_code, behind_code, size}
use Rattle.rpl_core.specs.Programs.{calls, calls_any, bodies, Reaches, by_goal, by_rule, address, program}
use Rattle.rpl_core.specs.Marked.{CallsAreRules}
use Rattle.rpl_codegen.specs.inside.Laid.{body_len, bodies_len, whole_len}
use Rattle.rpl_codegen.specs.inside.Sizes.{many_len, not_len, tried_len, len, len_all, len_first}
use Rattle.rpl_intern.proofs.Adding.{some_at}
use Rattle.rpl_codegen.proofs.Layouts.{place_turn, place_within, bodies_length}
use Rattle.rpl_codegen.proofs.Lengths.{code_length, first_length, lengths_length, size_is}

-- the instruction goes nowhere but to the first n addresses
abbrev pub goes_within : ℕ → Instr → Bool
goes_within n (I.Choice l) = nat_lt l n
goes_within n (I.Commit l) = nat_lt l n
goes_within n (I.BackCommit l) = nat_lt l n
goes_within n (I.Meet l) = nat_lt l n
goes_within n (I.Call l) = nat_lt l n
goes_within n (I.TestSet l s) = nat_lt l n
goes_within n (I.PartialCommit l) = nat_lt l n
goes_within n _ = true

-- so do all of them
abbrev pub GoWithin : ℕ → List Instr → Type 0
GoWithin n is = list_all (goes_within n) is ≡ true

both : (a b : Bool) → a ≡ true → b ≡ true → (a && b) ≡ true
both a b x y = ap (λ c. c && b) x ∙ y

one : (n : ℕ) (i : Instr) (is : List Instr) → goes_within n i ≡ true → GoWithin n is → GoWithin n (i ∷ is)
one n i is x y = both (goes_within n i) (list_all (goes_within n) is) x y

follow : (n : ℕ) (x y : List Instr) → GoWithin n x → GoWithin n y → GoWithin n (x ++ y)
follow n x y a b = list_all-append (goes_within n) x y
    ∙ both (list_all (goes_within n) x) (list_all (goes_within n) y) a b

-- a fragment of the length s goes nowhere but to the first n addresses, if these go on after it
record Stays (n s : ℕ) (p : Placed) : Type 0 where
  long : (a : ℕ) → length (p a) ≡ s
  within : (a : ℕ) → a + s < n → GoWithin n (p a)

module _ (n : ℕ) where
  choice_stays : (p q : Placed) (s t a : ℕ) → Stays n s p → Stays n t q → a + (s + 2 + t) < n
      → GoWithin n (choice_code p q a)
  choice_stays p q s t a h k lt =
      let e = h.long (a + 1) in
      let l1 = a + 1 + length (p (a + 1)) + 1 in
      let f = k.long l1 in
      one n (I.Choice l1) (p (a + 1) ++ I.Commit (l1 + length (q l1)) ∷ q l1) (lt-ltb l1 n (omega (arith, e)))
      (follow n (p (a + 1)) (I.Commit (l1 + length (q l1)) ∷ q l1) (h.within (a + 1) (omega arith))
      (one n (I.Commit (l1 + length (q l1))) (q l1) (lt-ltb (l1 + length (q l1)) n (omega (arith, e, f)))
      (k.within l1 (omega (arith, e)))))

  tested_stays : (o : Option (List Range)) (p q : Placed) (s t a : ℕ) → Stays n s p → Stays n t q
      → a + (tried_len o s + t) < n → GoWithin n (tested_choice o p q a)
  tested_stays None p q s t a h k lt = choice_stays p q s t a h k lt
  tested_stays (Some r) p q s t a h k lt =
      let e = h.long (a + 1 + 1) in
      let l = a + 1 + 1 + length (p (a + 1 + 1)) + 1 in
      one n (I.TestSet l r) (choice_code p q (a + 1)) (lt-ltb l n (omega (arith, e)))
      (choice_stays p q s t (a + 1) h k (omega arith))

  many_stays : (o : Option (List Range)) (p : Placed) (s a : ℕ) → Stays n s p → a + many_len o s < n
      → GoWithin n (many_code o p a)
  many_stays (Some r) p s a h lt = refl
  many_stays None p s a h lt =
      let e = h.long (a + 1) in
      let l = a + 1 + length (p (a + 1)) + 1 in
      one n (I.Choice l) (p (a + 1) ++ I.PartialCommit (a + 1) ∷ []) (lt-ltb l n (omega (arith, e)))
      (follow n (p (a + 1)) (I.PartialCommit (a + 1) ∷ []) (h.within (a + 1) (omega arith))
      (one n (I.PartialCommit (a + 1)) [] (lt-ltb (a + 1) n (omega arith)) refl))

  not_stays : (o : Option (List Range)) (p : Placed) (s a : ℕ) → Stays n s p → a + not_len o s < n
      → GoWithin n (not_code o p a)
  not_stays (Some r) p s a h lt =
      one n (I.TestSet (a + 1 + 1) r) (I.Fail ∷ []) (lt-ltb (a + 1 + 1) n (omega arith)) refl
  not_stays None p s a h lt =
      let e = h.long (a + 1) in
      let l = a + 1 + length (p (a + 1)) + 1 in
      one n (I.Choice l) (p (a + 1) ++ I.FailTwice ∷ []) (lt-ltb l n (omega (arith, e)))
      (follow n (p (a + 1)) (I.FailTwice ∷ []) (h.within (a + 1) (omega arith)) refl)

  and_stays : (p : Placed) (s a : ℕ) → Stays n s p → a + (s + 3) < n → GoWithin n (and_code p a)
  and_stays p s a h lt =
      let e = h.long (a + 1) in
      let l1 = a + 1 + length (p (a + 1)) + 1 in
      one n (I.Choice l1) (p (a + 1) ++ I.BackCommit (l1 + 1) ∷ I.Fail ∷ []) (lt-ltb l1 n (omega (arith, e)))
      (follow n (p (a + 1)) (I.BackCommit (l1 + 1) ∷ I.Fail ∷ []) (h.within (a + 1) (omega arith))
      (one n (I.BackCommit (l1 + 1)) (I.Fail ∷ []) (lt-ltb (l1 + 1) n (omega (arith, e))) refl))

  capture_stays : (p : Placed) (s a : ℕ) (c : List ℕ) → Stays n s p → a + (s + 2) < n
      → GoWithin n (I.Open c ∷ (p (a + 1) ++ I.Close ∷ []))
  capture_stays p s a c h lt = follow n (p (a + 1)) (I.Close ∷ []) (h.within (a + 1) (omega arith)) refl

  lengths_stay : (p : Placed) (e : ℕ) → e < n → (m k s a : ℕ) → Stays n s p → a + (m * (s + 3) + 1) < n
      → GoWithin n (lengths_code p e m k a)
  lengths_stay p e small zero k s a h lt = refl
  lengths_stay p e small (suc m) k s a h lt =
      let x = a + 1 + 1 in
      let next = x + length (p x) + 1 in
      let long = h.long x in
      let sum : suc m * (s + 3) ≡ m * (s + 3) + (s + 3) = omega arith in
      let rest = lengths_code p e m (k + 1) next in
      one n (I.Choice next) (I.Back k ∷ (p x ++ I.Meet e ∷ rest)) (lt-ltb next n (omega (arith, long)))
      (follow n (p x) (I.Meet e ∷ rest) (h.within x (omega arith))
      (one n (I.Meet e) rest (lt-ltb e n small) (lengths_stay p e small m (k + 1) s next h (omega (arith, long)))))

  behind_stays : (p : Placed) (m k s a : ℕ) → Stays n s p → a + (m * (s + 3) + 1) < n → GoWithin n (behind_code p m k a)
  behind_stays p m k s a h lt =
      lengths_stay p (a + length (lengths_code p 0 m k a)) (omega (arith, lengths_length p 0 m k a s h.long)) m k s a h
      lt

  or_left : (a b : Bool) → a ≡ true → (a || b) ≡ true
  or_left a b e = ap (λ c. c || b) e

  or_right : (a b : Bool) → b ≡ true → (a || b) ≡ true
  or_right true b e = refl
  or_right false b e = e

  -- the code of a core that calls rules before n alone
  module _ (at : ℕ → ℕ) where
    mutual
      pub code_within : (e : Core) → ((r : ℕ) → calls e r ≡ true → at r < n) → (a : ℕ) → a + len e < n
          → GoWithin n (code at e a)
      code_within (Set s) h a lt = refl
      code_within (Seq ps) h a lt = all_within ps h a lt
      code_within (Choice ps) h a lt = first_within ps h a lt
      code_within (Many p) h a lt =
          many_stays (lone_set p) (code at p) (len p) a (record { long = code_length at p; within = code_within p h })
          lt
      code_within (Not p) h a lt =
          not_stays (lone_set p) (code at p) (len p) a (record { long = code_length at p; within = code_within p h }) lt
      code_within (And p) h a lt =
          and_stays (code at p) (len p) a (record { long = code_length at p; within = code_within p h }) lt
      code_within (Behind l m p) h a lt =
          behind_stays (code at p) (m + 1 - l) l (len p) a (record {
            long = code_length at p;
            within = code_within p h;
          })
          lt
      code_within (Call r) h a lt = one n (I.Call (at r)) [] (lt-ltb (at r) n (h r (eq-eqb r r refl))) refl
      code_within (Capture c p) h a lt =
          capture_stays (code at p) (len p) a c (record { long = code_length at p; within = code_within p h }) lt
      code_within (Note x) h a lt = refl
      code_within Start h a lt = refl
      code_within End h a lt = refl
      code_within Halt h a lt = refl

      all_within : (ps : Cores) → ((r : ℕ) → calls_any ps r ≡ true → at r < n) → (a : ℕ) → a + len_all ps < n
          → GoWithin n (code_all at ps a)
      all_within NoMore h a lt = refl
      all_within (Then p ps) h a lt =
          let e = code_length at p a in
          follow n (code at p a) (code_all at ps (a + length (code at p a)))
          (code_within p (λ r c. h r (or_left (calls p r) (calls_any ps r) c)) a (omega arith))
          (all_within ps (λ r c. h r (or_right (calls p r) (calls_any ps r) c)) (a + length (code at p a))
          (omega (arith, e)))

      first_within : (ps : Cores) → ((r : ℕ) → calls_any ps r ≡ true → at r < n) → (a : ℕ) → a + len_first ps < n
          → GoWithin n (code_first at ps a)
      first_within NoMore h a lt = refl
      first_within (Then p NoMore) h a lt = code_within p (λ r c. h r (or_left (calls p r) false c)) a lt
      first_within (Then p (Then q ps)) h a lt =
          tested_stays (head p) (code at p) (code_first at (Then q ps)) (len p) (len_first (Then q ps)) a
          (record {
            long = code_length at p;
            within = code_within p (λ r c. h r (or_left (calls p r) (calls_any (Then q ps) r) c));
          }) (record {
            long =
                first_length at (Then q ps);
            within = first_within (Then q ps) (λ r c. h r (or_right (calls p r) (calls_any (Then q ps) r) c));
          }) lt

  -- the bodies of the marked rules
  bodies_within : (marks : ℕ → Bool) (at : ℕ → ℕ) (ps : List Core) (k a : ℕ)
      → ((j : ℕ) (p : Core) → slice_get ps j ≡ Some p → marks (k + j) ≡ true → (r : ℕ) → calls p r ≡ true → at r < n)
      → a + bodies_len marks ps k ≤ n → GoWithin n (bodies marks at ps k a)
  bodies_within marks at [] k a h le = refl
  bodies_within marks at (p ∷ ps) k a h le =
      go (marks k) refl le
      (λ b le1. bodies_within marks at ps (k + 1) b (λ j q is m r c. h (suc j) q is (let e : k + suc j ≡ k + 1 + j =
      omega arith in ap marks e ∙ m) r c) le1)
    where
      go : (b : Bool) → marks k ≡ b → a + ((if b then body_len (Some p) else 0) + bodies_len marks ps (k + 1)) ≤ n
          → ((b : ℕ) → b + bodies_len marks ps (k + 1) ≤ n → GoWithin n (bodies marks at ps (k + 1) b))
          → GoWithin n (if b then code at p a ++ I.Return ∷ bodies marks at ps (k + 1) (a + size p + 1)
          else bodies marks at ps (k + 1) a)
      go false e le1 rest = rest a (omega arith)
      go true e le1 rest =
          follow n (code at p a) (I.Return ∷ bodies marks at ps (k + 1) (a + size p + 1))
          (code_within at p (λ r c. h 0 p refl (let z : k + 0 ≡ k = omega arith in ap marks z ∙ e) r c) a
          (omega arith)) (rest (a + size p + 1) (omega (arith, size_is p)))

-- a marked rule begins within the code
rule_begins : (marks : ℕ → Bool) (R : List Core) (g : Core) (r : ℕ) → r < length R → marks r ≡ true
    → address marks R g r < whole_len marks R g
rule_begins marks R g r lt on =
    let x = some_at R r lt in
    let turn = place_turn marks R (size g + 1) r lt in
    let one = ap (λ b. if b then body_len (slice_get R r) else 0) on ∙ ap body_len x.1 in
    omega (arith, turn, one, place_within marks R 0 (size g + 1) (r + 1), size_is g)

-- the whole code of a goal goes nowhere but to itself
pub program_within : (marks : ℕ → Bool) (R : List Core) (g : Core) → CallsAreRules R g
    → ((r : ℕ) → Reaches R g r → marks r ≡ true) → ((r : ℕ) → marks r ≡ true → Reaches R g r)
    → GoWithin (whole_len marks R g) (program marks R g)
program_within marks R g calls_in on reached =
    let n = whole_len marks R g in
    let at = address marks R g in
    follow n (code at g 0) (I.Finish ∷ bodies marks at R 0 (size g + 1))
    (code_within n at g (λ r c. rule_begins marks R g r (calls_in.goal r c) (on r (by_goal r c))) 0 (omega arith))
    (bodies_within n marks at R 0 (size g + 1) (λ j p is m r c. rule_begins marks R g r (calls_in.rules j p is r c)
    (on r (by_rule j r p (reached j (let z : j ≡ 0 + j = omega arith in ap marks z ∙ m)) is c)))
    (omega (arith, size_is g)))

pub program_length : (marks : ℕ → Bool) (R : List Core) (g : Core) → length (program marks R g) ≡ whole_len marks R g
program_length marks R g =
    let at = address marks R g in
    omega (
      arith,
      length-append (code at g 0) (I.Finish ∷ bodies marks at R 0 (size g + 1)),
      code_length at g 0,
      bodies_length marks at R 0 (size g + 1),
    )
