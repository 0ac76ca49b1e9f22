-- The instructions of each kind of pattern, from those of its parts. A fragment p has the length n wherever it stands.
use Rattle.std.proofs.Common.{◌≡◌, ℕ, suc, ◌+◌, ◌-◌, ◌*◌, ◌<◌, ◌≤◌, List, [], ◌∷◌, ◌++◌, length, Some, None, Option}
use Rattle.std.proofs.Common.{refl, ap, subst, arith}
use Rattle.std.specs.Prelude.{Result, Ok, Err, OnOk}
use Rattle.regex_class.specs.Ranges.{Range}
use Rattle.rpl_core.specs.Instr.{Instr}
use Rattle.rpl_core.specs.Instr as I
use Rattle.rpl_core.specs.Code.{Placed, choice_code, tested_choice, loop_code, refuse_code, and_code, lengths_code}
use Rattle.rpl_core.specs.Code.{behind_code}
use Rattle.rpl_intern.specs.declared.draft.Draft.{Draft}
use Rattle.rpl_intern.specs.Written.{Adds}
use Rattle.rpl_codegen.specs.inside.Written.{test_code}
use Rattle.rpl_codegen.specs.inside.Sizes.{tried_len}
use Rattle.rpl_intern.proofs.Adding.{adds_then}
use Rattle.rpl_codegen.proofs.Lengths.{lengths_length}

-- an instruction, a fragment after it, and what follows the fragment
piece : (d0 d1 d2 d3 : Draft) (p : Placed) (a : ℕ) (i : Instr) (rest : List Instr) → length d0.code ≡ a
    → Adds d0 d1 (i ∷ []) → Adds d1 d2 (p (length d1.code)) → Adds d2 d3 rest → Adds d0 d3 (i ∷ (p (a + 1) ++ rest))
piece d0 d1 d2 d3 p a i rest at x y z =
    let m : length d1.code ≡ a + 1 = omega (arith, x.long) in
    adds_then d0 d1 d3 (i ∷ []) (p (a + 1) ++ rest) x
    (adds_then d1 d2 d3 (p (a + 1)) rest (subst (λ n. Adds d1 d2 (p n)) m y) z)

at_same : (d0 d1 : Draft) (i : ℕ → Instr) (l m : ℕ) → l ≡ m → Adds d0 d1 (i l ∷ []) → Adds d0 d1 (i m ∷ [])
at_same d0 d1 i l m e x = subst (λ n. Adds d0 d1 (i n ∷ [])) e x

-- a loop
pub piece_loop : (d0 d1 d2 d3 : Draft) (p : Placed) (n l1 l2 : ℕ) → ((a : ℕ) → length (p a) ≡ n)
    → l1 ≡ length d0.code + 1 → l2 ≡ length d0.code + 1 + n + 1 → Adds d0 d1 (I.Choice l2 ∷ [])
    → Adds d1 d2 (p (length d1.code)) → Adds d2 d3 (I.PartialCommit l1 ∷ []) → Adds d0 d3 (loop_code p (length d0.code))
piece_loop d0 d1 d2 d3 p n l1 l2 long e1 e2 x y z =
    let a = length d0.code in
    let to : l2 ≡ a + 1 + length (p (a + 1)) + 1 = omega (arith, long (a + 1)) in
    piece d0 d1 d2 d3 p a (I.Choice (a + 1 + length (p (a + 1)) + 1)) (I.PartialCommit (a + 1) ∷ []) refl
    (at_same d0 d1 I.Choice l2 _ to x) y (at_same d2 d3 I.PartialCommit l1 (a + 1) e1 z)

-- a negative test
pub piece_refuse : (d0 d1 d2 d3 : Draft) (p : Placed) (n l : ℕ) → ((a : ℕ) → length (p a) ≡ n)
    → l ≡ length d0.code + 1 + n + 1 → Adds d0 d1 (I.Choice l ∷ []) → Adds d1 d2 (p (length d1.code))
    → Adds d2 d3 (I.FailTwice ∷ []) → Adds d0 d3 (refuse_code p (length d0.code))
piece_refuse d0 d1 d2 d3 p n l long e x y z =
    let a = length d0.code in
    let to : l ≡ a + 1 + length (p (a + 1)) + 1 = omega (arith, long (a + 1)) in
    piece d0 d1 d2 d3 p a (I.Choice (a + 1 + length (p (a + 1)) + 1)) (I.FailTwice ∷ []) refl
    (at_same d0 d1 I.Choice l _ to x) y z

-- a test
pub piece_and : (d0 d1 d2 d3 d4 : Draft) (p : Placed) (n l1 l2 : ℕ) → ((a : ℕ) → length (p a) ≡ n)
    → l1 ≡ length d0.code + 1 + n + 1 → l2 ≡ l1 + 1 → Adds d0 d1 (I.Choice l1 ∷ []) → Adds d1 d2 (p (length d1.code))
    → Adds d2 d3 (I.BackCommit l2 ∷ []) → Adds d3 d4 (I.Fail ∷ []) → Adds d0 d4 (and_code p (length d0.code))
piece_and d0 d1 d2 d3 d4 p n l1 l2 long e1 e2 x y z w =
    let a = length d0.code in
    let to = a + 1 + length (p (a + 1)) + 1 in
    let e3 : l1 ≡ to = omega (arith, long (a + 1)) in
    let e4 : l2 ≡ to + 1 = omega arith in
    piece d0 d1 d2 d4 p a (I.Choice to) (I.BackCommit (to + 1) ∷ I.Fail ∷ []) refl (at_same d0 d1 I.Choice l1 to e3 x) y
    (adds_then d2 d3 d4 (I.BackCommit (to + 1) ∷ []) (I.Fail ∷ []) (at_same d2 d3 I.BackCommit l2 (to + 1) e4 z) w)

-- a capture
pub piece_capture : (d0 d1 d2 d3 : Draft) (p : Placed) (c : List ℕ) → Adds d0 d1 (I.Open c ∷ [])
    → Adds d1 d2 (p (length d1.code)) → Adds d2 d3 (I.Close ∷ [])
    → Adds d0 d3 (I.Open c ∷ (p (length d0.code + 1) ++ I.Close ∷ []))
piece_capture d0 d1 d2 d3 p c x y z = piece d0 d1 d2 d3 p (length d0.code) (I.Open c) (I.Close ∷ []) refl x y z

-- one part of a choice, and the others
pub piece_choice : (d0 d1 d2 d3 d4 : Draft) (p q : Placed) (n l end : ℕ) → ((a : ℕ) → length (p a) ≡ n)
    → l ≡ length d0.code + 1 + n + 1 → end ≡ length d3.code + length (q (length d3.code)) → Adds d0 d1 (I.Choice l ∷ [])
    → Adds d1 d2 (p (length d1.code)) → Adds d2 d3 (I.Commit end ∷ []) → Adds d3 d4 (q (length d3.code))
    → Adds d0 d4 (choice_code p q (length d0.code))
piece_choice d0 d1 d2 d3 d4 p q n l end long e1 e2 x y z w =
    let a = length d0.code in
    let to = a + 1 + length (p (a + 1)) + 1 in
    let e3 : l ≡ to = omega (arith, long (a + 1)) in
    let m : length d3.code ≡ to = omega (arith, x.long, y.long, z.long, long (a + 1), long (length d1.code)) in
    let e4 : end ≡ to + length (q to) = subst (λ k. end ≡ k + length (q k)) m e2 in
    piece d0 d1 d2 d4 p a (I.Choice to) (I.Commit (to + length (q to)) ∷ q to) refl (at_same d0 d1 I.Choice l to e3 x) y
    (adds_then d2 d3 d4 (I.Commit (to + length (q to)) ∷ []) (q to)
    (at_same d2 d3 I.Commit end (to + length (q to)) e4 z) (subst (λ k. Adds d3 d4 (q k)) m w))

-- the same with a test before it
pub piece_tested : (d0 d1 d2 : Draft) (s : List Range) (p q : Placed) (n l : ℕ) → ((a : ℕ) → length (p a) ≡ n)
    → l ≡ length d0.code + 1 + 1 + n + 1 → Adds d0 d1 (I.TestSet l s ∷ [])
    → Adds d1 d2 (choice_code p q (length d1.code))
    → Adds d0 d2 (tested_choice (Some s) p q (length d0.code))
piece_tested d0 d1 d2 s p q n l long e x y =
    let a = length d0.code in
    let m : length d1.code ≡ a + 1 = omega (arith, x.long) in
    let to = a + 1 + 1 + length (p (a + 1 + 1)) + 1 in
    let e1 : l ≡ to = omega (arith, long (a + 1 + 1)) in
    adds_then d0 d1 d2 (I.TestSet to s ∷ []) (choice_code p q (a + 1)) (at_same d0 d1 (λ k. I.TestSet k s) l to e1 x)
    (subst (λ k. Adds d1 d2 (choice_code p q k)) m y)

-- one length of a look-behind, and the others
pub piece_length : (d0 d1 d2 d3 d4 d5 : Draft) (p : Placed) (n next end k left : ℕ) → ((a : ℕ) → length (p a) ≡ n)
    → next ≡ length d0.code + 1 + 1 + n + 1 → Adds d0 d1 (I.Choice next ∷ []) → Adds d1 d2 (I.Back k ∷ [])
    → Adds d2 d3 (p (length d2.code)) → Adds d3 d4 (I.Meet end ∷ [])
    → Adds d4 d5 (lengths_code p end left (k + 1) (length d4.code))
    → Adds d0 d5 (lengths_code p end (suc left) k (length d0.code))
piece_length d0 d1 d2 d3 d4 d5 p n next end k left long is x y z w v =
    let a = length d0.code in
    let m : length d2.code ≡ a + 1 + 1 = omega (arith, x.long, y.long) in
    let z1 = subst (λ k. Adds d2 d3 (p k)) m z in
    let to = a + 1 + 1 + length (p (a + 1 + 1)) + 1 in
    let e : next ≡ to = omega (arith, long (a + 1 + 1)) in
    let m4 : length d4.code ≡ to = omega (arith, z1.long, w.long) in
    let rest = lengths_code p end left (k + 1) to in
    let v1 = subst (λ j. Adds d4 d5 (lengths_code p end left (k + 1) j)) m4 v in
    adds_then d0 d1 d5 (I.Choice to ∷ []) (I.Back k ∷ (p (a + 1 + 1) ++ I.Meet end ∷ rest))
    (at_same d0 d1 I.Choice next to e x) (adds_then d1 d2 d5 (I.Back k ∷ []) (p (a + 1 + 1) ++ I.Meet end ∷ rest) y
    (adds_then d2 d3 d5 (p (a + 1 + 1)) (I.Meet end ∷ rest) z1 (adds_then d3 d4 d5 (I.Meet end ∷ []) rest w v1)))

-- the address after a look-behind
pub behind_end : (p : Placed) (n k a s end : ℕ) → ((x : ℕ) → length (p x) ≡ s) → end ≡ a + (n * (s + 3) + 1)
    → behind_code p n k a ≡ lengths_code p end n k a
behind_end p n k a s end long e =
    let is : a + length (lengths_code p 0 n k a) ≡ end = omega (arith, lengths_length p 0 n k a s long) in
    ap (λ x. lengths_code p x n k a) is

-- what holds of the draft after a last call, if that call is Ok
pub on_ok : {A E : Type 0} (r : Result A E) (P Q : Type 0) → (P → Q) → OnOk r P → OnOk r Q
on_ok (Ok a) P Q f p = f p
on_ok (Err e) P Q f p = tt

-- the same with the test of a head, if there is one
pub piece_tried : (h : Option (List Range)) (d0 d1 d2 : Draft) (p q : Placed) (n l : ℕ) → ((a : ℕ) → length (p a) ≡ n)
    → l ≡ length d0.code + 1 + 1 + n + 1 → Adds d0 d1 (test_code h l) → Adds d1 d2 (choice_code p q (length d1.code))
    → Adds d0 d2 (tested_choice h p q (length d0.code))
piece_tried None d0 d1 d2 p q n l long e x y =
    let m : length d1.code ≡ length d0.code = omega (arith, x.long) in
    adds_then d0 d1 d2 [] (choice_code p q (length d0.code)) x (subst (λ k. Adds d1 d2 (choice_code p q k)) m y)
piece_tried (Some s) d0 d1 d2 p q n l long e x y = piece_tested d0 d1 d2 s p q n l long e x y

pub test_length : (h : Option (List Range)) (l n : ℕ) → length (test_code h l) + n + 2 ≡ tried_len h n
test_length None l n = omega arith
test_length (Some s) l n = omega arith

-- room for a look-behind's further lengths
pub room_turn : (most k n a b : ℕ) → k < most + 1 → a + ((most + 1 - k) * (n + 3) + 1) ≤ 1048576 → b ≡ a + (n + 3)
    → b + ((most + 1 - (k + 1)) * (n + 3) + 1) ≤ 1048576
room_turn most k n a b lt h e =
    let left = most + 1 - (k + 1) in
    let one : most + 1 - k ≡ suc left = omega arith in
    let more : (most + 1 - k) * (n + 3) ≡ suc left * (n + 3) = ap (λ x. x * (n + 3)) one in
    let sum : suc left * (n + 3) ≡ left * (n + 3) + (n + 3) = omega arith in
    omega arith

pub room_here : (most k n a : ℕ) → k < most + 1 → a + ((most + 1 - k) * (n + 3) + 1) ≤ 1048576 → a + (n + 3) ≤ 1048576
room_here most k n a lt h = let e = room_turn most k n a (a + (n + 3)) lt h refl in omega arith
