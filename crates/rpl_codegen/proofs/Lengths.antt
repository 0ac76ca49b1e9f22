-- The code of a core is as long as its size says, wherever it stands.
use Rattle.std.proofs.Common.{◌≡◌, ℕ, zero, suc, ◌+◌, ◌-◌, ◌*◌, List, [], ◌∷◌, ◌++◌, length, Option, Some, None, refl}
use Rattle.std.proofs.Common.{arith, length-append}
use Rattle.regex_class.specs.Ranges.{Range}
use Rattle.rpl_core.specs.Core.{Core, Set, Seq, Choice, Many, Not, And, Behind, Call, Capture, Note, Start, End, Halt}
use Rattle.rpl_core.specs.Core.{Cores, NoMore, Then}
use Rattle.rpl_core.specs.Head.{head, lone_set}
use Rattle.rpl_core.specs.Instr as I
use Rattle.rpl_core.specs.Code.{Placed, code, code_all, code_first, choice_code, tested_choice, many_code, not_code}
use Rattle.rpl_core.specs.Code.{and_code, lengths_code, size}
use Rattle.rpl_codegen.specs.inside.Sizes.{many_len, not_len, tried_len, len, len_all, len_first}

choice_length : (p q : Placed) (m n a : ℕ) → ((x : ℕ) → length (p x) ≡ m) → ((x : ℕ) → length (q x) ≡ n)
    → length (choice_code p q a) ≡ (m + 2) + n
choice_length p q m n a h k =
    let l = a + 1 + length (p (a + 1)) + 1 in
    omega (arith, h (a + 1), k l, length-append (p (a + 1)) (I.Commit (l + length (q l)) ∷ q l))

tested_length : (o : Option (List Range)) (p q : Placed) (m n a : ℕ) → ((x : ℕ) → length (p x) ≡ m)
    → ((x : ℕ) → length (q x) ≡ n) → length (tested_choice o p q a) ≡ tried_len o m + n
tested_length None p q m n a h k = choice_length p q m n a h k
tested_length (Some r) p q m n a h k = let e = choice_length p q m n (a + 1) h k in omega arith

many_length : (o : Option (List Range)) (p : Placed) (n a : ℕ) → ((x : ℕ) → length (p x) ≡ n)
    → length (many_code o p a) ≡ many_len o n
many_length None p n a h = omega (arith, h (a + 1), length-append (p (a + 1)) (I.PartialCommit (a + 1) ∷ []))
many_length (Some r) p n a h = refl

not_length : (o : Option (List Range)) (p : Placed) (n a : ℕ) → ((x : ℕ) → length (p x) ≡ n)
    → length (not_code o p a) ≡ not_len o n
not_length None p n a h = omega (arith, h (a + 1), length-append (p (a + 1)) (I.FailTwice ∷ []))
not_length (Some r) p n a h = refl

and_length : (p : Placed) (n a : ℕ) → ((x : ℕ) → length (p x) ≡ n) → length (and_code p a) ≡ n + 3
and_length p n a h =
    let l = a + 1 + length (p (a + 1)) + 1 in
    omega (arith, h (a + 1), length-append (p (a + 1)) (I.BackCommit (l + 1) ∷ I.Fail ∷ []))

capture_length : (p : Placed) (n a : ℕ) (c : List ℕ) → ((x : ℕ) → length (p x) ≡ n)
    → length (I.Open c ∷ (p (a + 1) ++ I.Close ∷ [])) ≡ n + 2
capture_length p n a c h = omega (arith, h (a + 1), length-append (p (a + 1)) (I.Close ∷ []))

pub lengths_length : (p : Placed) (e n k a s : ℕ) → ((x : ℕ) → length (p x) ≡ s)
    → length (lengths_code p e n k a) ≡ n * (s + 3) + 1
lengths_length p e zero k a s h = omega arith
lengths_length p e (suc n) k a s h =
    let x = a + 1 + 1 in
    let next = x + length (p x) + 1 in
    let rest = lengths_length p e n (k + 1) next s h in
    let m : suc n * (s + 3) ≡ n * (s + 3) + (s + 3) = omega arith in
    omega (arith, h x, length-append (p x) (I.Meet e ∷ lengths_code p e n (k + 1) next))

then_length : (x y : List I.Instr) (m n : ℕ) → length x ≡ m → length y ≡ n → length (x ++ y) ≡ m + n
then_length x y m n h k = omega (arith, length-append x y)

mutual
  pub code_length : (at : ℕ → ℕ) (e : Core) (a : ℕ) → length (code at e a) ≡ len e
  code_length at (Set s) a = refl
  code_length at (Seq ps) a = all_length at ps a
  code_length at (Choice ps) a = first_length at ps a
  code_length at (Many p) a = many_length (lone_set p) (code at p) (len p) a (code_length at p)
  code_length at (Not p) a = not_length (lone_set p) (code at p) (len p) a (code_length at p)
  code_length at (And p) a = and_length (code at p) (len p) a (code_length at p)
  code_length at (Behind l m p) a =
      lengths_length (code at p) (a + length (lengths_code (code at p) 0 (m + 1 - l) l a)) (m + 1 - l) l a (len p)
      (code_length at p)
  code_length at (Call r) a = refl
  code_length at (Capture c p) a = capture_length (code at p) (len p) a c (code_length at p)
  code_length at (Note x) a = refl
  code_length at Start a = refl
  code_length at End a = refl
  code_length at Halt a = refl

  pub all_length : (at : ℕ → ℕ) (ps : Cores) (a : ℕ) → length (code_all at ps a) ≡ len_all ps
  all_length at NoMore a = refl
  all_length at (Then p ps) a =
      then_length (code at p a) _ (len p) (len_all ps) (code_length at p a)
      (all_length at ps (a + length (code at p a)))

  pub first_length : (at : ℕ → ℕ) (ps : Cores) (a : ℕ) → length (code_first at ps a) ≡ len_first ps
  first_length at NoMore a = refl
  first_length at (Then p NoMore) a = code_length at p a
  first_length at (Then p (Then q ps)) a =
      tested_length (head p) (code at p) (code_first at (Then q ps)) (len p) (len_first (Then q ps)) a
      (code_length at p)
      (first_length at (Then q ps))

pub size_is : (e : Core) → size e ≡ len e
size_is e = code_length (λ r. 0) e 0
