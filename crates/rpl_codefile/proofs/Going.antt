-- Compiled code goes to its own addresses alone.
use Rattle.std.proofs.Common.{◌≡◌, ℕ, zero, suc, ◌+◌, ◌-◌, ◌<◌, ◌≤◌, List, [], ◌∷◌, ◌++◌, length, Option, Some, None}
use Rattle.std.proofs.Common.{refl, sym, ap, ◌∙◌, subst, arith, length-append}
use Rattle.std.proofs.lemmas.Bool.{eq-eqb}
use Rattle.std.proofs.lemmas.List.Elements.{All-nil, All-cons, All-append, All-weaker}
use Rattle.std.specs.Prelude.{Bool, true, false, ◌||◌, if◌then◌else◌, slice_get}
use Rattle.std.specs.List.{All}
use Rattle.regex_class.specs.Ranges.{Range}
use Rattle.rpl_core.specs.Code.{Placed, code, code_all, code_first, choice_code, tested_choice, many_code, not_code}
use Rattle.rpl_core.specs.Code.{and_code, lengths_code, size}
use Rattle.rpl_core.specs.Core.{Core, Set, Seq, Choice, Many, Not, And, Behind, Call, Capture, Note, Start, End, Halt}
use Rattle.rpl_core.specs.Core.{Cores, NoMore, Then}
use Rattle.rpl_core.specs.Head.{head, lone_set}
use Rattle.rpl_core.specs.Instr.{Instr}
use Rattle.rpl_core.specs.Instr as I
use Rattle.rpl_core.specs.Marked.{CallsAreRules}
use Rattle.rpl_core.specs.Programs.{IsCode, Reaches, by_goal, by_rule, address, bodies, calls, calls_any, place_of}
use Rattle.rpl_core.specs.Programs.{program}
use Rattle.rpl_compile_laws.proofs.Places.{code_long}

-- the instruction goes to one of n addresses, if to any but the next
abbrev pub GoesWithin : ℕ → Instr → Type 0
GoesWithin n (I.Choice l) = l < n
GoesWithin n (I.Commit l) = l < n
GoesWithin n (I.BackCommit l) = l < n
GoesWithin n (I.Meet l) = l < n
GoesWithin n (I.Call l) = l < n
GoesWithin n (I.TestSet l s) = l < n
GoesWithin n (I.PartialCommit l) = l < n
GoesWithin n _ = Unit {0}

-- it goes to the address m at most, and calls one of n
abbrev Goes : (m n : ℕ) → Instr → Type 0
Goes m n (I.Choice l) = l ≤ m
Goes m n (I.Commit l) = l ≤ m
Goes m n (I.BackCommit l) = l ≤ m
Goes m n (I.Meet l) = l ≤ m
Goes m n (I.Call l) = l < n
Goes m n (I.TestSet l s) = l ≤ m
Goes m n (I.PartialCommit l) = l ≤ m
Goes m n _ = Unit {0}

within : (m n : ℕ) → m < n → (i : Instr) → Goes m n i → GoesWithin n i
within m n lt (I.Choice l) h = omega (arith, lt, h)
within m n lt (I.Commit l) h = omega (arith, lt, h)
within m n lt (I.BackCommit l) h = omega (arith, lt, h)
within m n lt (I.Meet l) h = omega (arith, lt, h)
within m n lt (I.Call l) h = h
within m n lt (I.TestSet l s) h = omega (arith, lt, h)
within m n lt (I.PartialCommit l) h = omega (arith, lt, h)
within m n lt _ h = tt

-- wherever a fragment stands that ends at m at most, it goes no further
abbrev Stays : ℕ → Placed → Type 0
Stays n p = (a m : ℕ) → a + length (p a) ≤ m → All (Goes m n) (p a)

one : (m n : ℕ) (i : Instr) (is : List Instr) → Goes m n i → All (Goes m n) is → All (Goes m n) (i ∷ is)
one m n i is h k = All-cons (Goes m n) i is h k

follow : (m n : ℕ) (x y : List Instr) → All (Goes m n) x → All (Goes m n) y → All (Goes m n) (x ++ y)
follow m n x y h k = All-append (Goes m n) x y h k

done : (m n : ℕ) → All (Goes m n) []
done m n = All-nil (Goes m n)

-- ---- fragments

choice_stays : (n : ℕ) (p q : Placed) → Stays n p → Stays n q → Stays n (choice_code p q)
choice_stays n p q h k a m lt =
    let l1 = a + 1 + length (p (a + 1)) + 1 in
    let rest = I.Commit (l1 + length (q l1)) ∷ q l1 in
    let long = length-append (p (a + 1)) rest in
    one m n (I.Choice l1) (p (a + 1) ++ rest) (omega (arith, lt, long))
    (follow m n (p (a + 1)) rest (h (a + 1) m (omega (arith, lt, long)))
    (one m n (I.Commit (l1 + length (q l1))) (q l1) (omega (arith, lt, long)) (k l1 m (omega (arith, lt, long)))))

tested_stays : (n : ℕ) (o : Option (List Range)) (p q : Placed) → Stays n p → Stays n q → Stays n (tested_choice o p q)
tested_stays n None p q h k a m lt = choice_stays n p q h k a m lt
tested_stays n (Some s) p q h k a m lt =
    let l1 = a + 1 + 1 + length (p (a + 1 + 1)) + 1 in
    let long = length-append (p (a + 1 + 1)) (I.Commit (l1 + length (q l1)) ∷ q l1) in
    one m n (I.TestSet l1 s) (choice_code p q (a + 1)) (omega (arith, lt, long))
    (choice_stays n p q h k (a + 1) m (omega (arith, lt)))

many_stays : (n : ℕ) (o : Option (List Range)) (p : Placed) → Stays n p → Stays n (many_code o p)
many_stays n (Some s) p h a m lt = one m n (I.Span s) [] tt (done m n)
many_stays n None p h a m lt =
    let rest = I.PartialCommit (a + 1) ∷ [] in
    let long = length-append (p (a + 1)) rest in
    one m n (I.Choice (a + 1 + length (p (a + 1)) + 1)) (p (a + 1) ++ rest) (omega (arith, lt, long))
    (follow m n (p (a + 1)) rest (h (a + 1) m (omega (arith, lt, long)))
    (one m n (I.PartialCommit (a + 1)) [] (omega (arith, lt, long)) (done m n)))

not_stays : (n : ℕ) (o : Option (List Range)) (p : Placed) → Stays n p → Stays n (not_code o p)
not_stays n (Some s) p h a m lt =
    one m n (I.TestSet (a + 1 + 1) s) (I.Fail ∷ []) (omega (arith, lt)) (one m n I.Fail [] tt (done m n))
not_stays n None p h a m lt =
    let rest = I.FailTwice ∷ [] in
    let long = length-append (p (a + 1)) rest in
    one m n (I.Choice (a + 1 + length (p (a + 1)) + 1)) (p (a + 1) ++ rest) (omega (arith, lt, long))
    (follow m n (p (a + 1)) rest (h (a + 1) m (omega (arith, lt, long))) (one m n I.FailTwice [] tt (done m n)))

and_stays : (n : ℕ) (p : Placed) → Stays n p → Stays n (and_code p)
and_stays n p h a m lt =
    let l1 = a + 1 + length (p (a + 1)) + 1 in
    let rest = I.BackCommit (l1 + 1) ∷ I.Fail ∷ [] in
    let long = length-append (p (a + 1)) rest in
    one m n (I.Choice l1) (p (a + 1) ++ rest) (omega (arith, lt, long))
    (follow m n (p (a + 1)) rest (h (a + 1) m (omega (arith, lt, long)))
    (one m n (I.BackCommit (l1 + 1)) (I.Fail ∷ []) (omega (arith, lt, long)) (one m n I.Fail [] tt (done m n))))

lengths_stay : (n : ℕ) (p : Placed) (e c k : ℕ) → Stays n p
    → (a m : ℕ) → e ≤ m → a + length (lengths_code p e c k a) ≤ m → All (Goes m n) (lengths_code p e c k a)
lengths_stay n p e zero k h a m under lt = one m n I.Fail [] tt (done m n)
lengths_stay n p e (suc c) k h a m under lt =
    let next = a + 1 + 1 + length (p (a + 1 + 1)) + 1 in
    let others = lengths_code p e c (k + 1) next in
    let rest = I.Meet e ∷ others in
    let back = p (a + 1 + 1) ++ rest in
    let long = length-append (p (a + 1 + 1)) rest in
    one m n (I.Choice next) (I.Back k ∷ back) (omega (arith, lt, long))
    (one m n (I.Back k) back tt
    (follow m n (p (a + 1 + 1)) rest (h (a + 1 + 1) m (omega (arith, lt, long)))
    (one m n (I.Meet e) others under (lengths_stay n p e c (k + 1) h next m under (omega (arith, lt, long))))))

-- how long it is doesn't hang on the address after it
as_long : (p : Placed) (e f c k a : ℕ) → length (lengths_code p e c k a) ≡ length (lengths_code p f c k a)
as_long p e f zero k a = refl
as_long p e f (suc c) k a =
    let next = a + 1 + 1 + length (p (a + 1 + 1)) + 1 in
    omega (
      arith,
      length-append (p (a + 1 + 1)) (I.Meet e ∷ lengths_code p e c (k + 1) next),
      length-append (p (a + 1 + 1)) (I.Meet f ∷ lengths_code p f c (k + 1) next),
      as_long p e f c (k + 1) next,
    )

-- ---- cores

in_first : (x y : Bool) → x ≡ true → x || y ≡ true
in_first true y h = refl
in_first false y h = absurd (cc)

in_rest : (x y : Bool) → y ≡ true → x || y ≡ true
in_rest true y h = refl
in_rest false y h = h

module _ (n : ℕ) (at : ℕ → ℕ) where
  -- it calls one of n addresses
  abbrev Calls : Core → Type 0
  Calls p = (r : ℕ) → calls p r ≡ true → at r < n

  abbrev Call_all : Cores → Type 0
  Call_all ps = (r : ℕ) → calls_any ps r ≡ true → at r < n

  mutual
    code_stays : (p : Core) → Calls p → Stays n (code at p)
    code_stays (Set s) go a m lt = one m n (I.Set s) [] tt (done m n)
    code_stays (Seq ps) go a m lt = all_stay ps go a m lt
    code_stays (Choice ps) go a m lt = parts_stay ps go a m lt
    code_stays (Many p) go a m lt = many_stays n (lone_set p) (code at p) (code_stays p go) a m lt
    code_stays (Not p) go a m lt = not_stays n (lone_set p) (code at p) (code_stays p go) a m lt
    code_stays (And p) go a m lt = and_stays n (code at p) (code_stays p go) a m lt
    code_stays (Behind l k p) go a m lt =
        let c = k + 1 - l in
        let e = a + length (lengths_code (code at p) 0 c l a) in
        lengths_stay n (code at p) e c l (code_stays p go) a m (omega (arith, lt, as_long (code at p) e 0 c l a)) lt
    code_stays (Call r) go a m lt = one m n (I.Call (at r)) [] (go r (eq-eqb r r refl)) (done m n)
    code_stays (Capture c p) go a m lt =
        let x = code at p (a + 1) in
        let long = length-append x (I.Close ∷ []) in
        one m n (I.Open c) (x ++ I.Close ∷ []) tt
        (follow m n x (I.Close ∷ []) (code_stays p go (a + 1) m (omega (arith, lt, long)))
        (one m n I.Close [] tt (done m n)))
    code_stays (Note x) go a m lt = one m n (I.Note x) [] tt (done m n)
    code_stays Start go a m lt = one m n I.Start [] tt (done m n)
    code_stays End go a m lt = one m n I.End [] tt (done m n)
    code_stays Halt go a m lt = one m n I.Halt [] tt (done m n)

    all_stay : (ps : Cores) → Call_all ps → Stays n (code_all at ps)
    all_stay NoMore go a m lt = done m n
    all_stay (Then p ps) go a m lt =
        let x = code at p a in
        let y = code_all at ps (a + length x) in
        let long = length-append x y in
        follow m n x y
        (code_stays p (λ r k. go r (in_first (calls p r) (calls_any ps r) k)) a m (omega (arith, lt, long)))
        (all_stay ps (λ r k. go r (in_rest (calls p r) (calls_any ps r) k)) (a + length x) m (omega (arith, lt, long)))

    parts_stay : (ps : Cores) → Call_all ps → Stays n (code_first at ps)
    parts_stay NoMore go a m lt = one m n I.Fail [] tt (done m n)
    parts_stay (Then p NoMore) go a m lt = code_stays p (λ r k. go r (in_first (calls p r) false k)) a m lt
    parts_stay (Then p (Then q ps)) go a m lt =
        tested_stays n (head p) (code at p) (code_first at (Then q ps))
        (code_stays p (λ r k. go r (in_first (calls p r) (calls_any (Then q ps) r) k)))
        (parts_stay (Then q ps) (λ r k. go r (in_rest (calls p r) (calls_any (Then q ps) r) k))) a m lt

-- ---- a program

module _ (marks : ℕ → Bool) (at : ℕ → ℕ) where
  -- what stands for a rule in the code of the marked ones, before that of the others
  abbrev bodies_with : Core → List Core → ℕ → ℕ → Bool → List Instr
  bodies_with p ps k a b =
      if b then code at p a ++ I.Return ∷ bodies marks at ps (k + 1) (a + size p + 1)
      else bodies marks at ps (k + 1) a

  -- a marked rule begins within it
  place_within : (ps : List Core) (k a r : ℕ) → r < length ps → marks (k + r) ≡ true
      → place_of marks ps k a r < a + length (bodies marks at ps k a)
  place_within [] k a r lt e = absurd (omega (arith, lt))
  place_within (p ∷ ps) k a zero lt e = go (marks k) (let z : k + 0 ≡ k = omega arith in ap marks (sym z) ∙ e)
    where
      go : (b : Bool) → b ≡ true → a < a + length (bodies_with p ps k a b)
      go true f =
          omega (arith, length-append (code at p a) (I.Return ∷ bodies marks at ps (k + 1) (a + size p + 1)))
      go false f = absurd (cc)
  place_within (p ∷ ps) k a (suc r) lt e =
      let z : k + 1 + r ≡ k + suc r = omega arith in
      go (marks k) (λ c. place_within ps (k + 1) c r (omega (arith, lt)) (ap marks z ∙ e))
    where
      go : (b : Bool) → ((c : ℕ) → place_of marks ps (k + 1) c r < c + length (bodies marks at ps (k + 1) c))
          → place_of marks ps (k + 1) (if b then a + size p + 1 else a) r < a + length (bodies_with p ps k a b)
      go true there =
          let c = a + size p + 1 in
          omega (
            arith,
            there c,
            length-append (code at p a) (I.Return ∷ bodies marks at ps (k + 1) c),
            code_long at (λ x. 0) p a 0,
          )
      go false there = there a

  module _ (n : ℕ) where
    -- each marked rule calls one of n addresses
    abbrev Bodies_call : List Core → ℕ → Type 0
    Bodies_call ps k = (q : ℕ) (p : Core) → slice_get ps q ≡ Some p → marks (k + q) ≡ true → Calls n at p

    bodies_within : (ps : List Core) (k a : ℕ) → a + length (bodies marks at ps k a) ≤ n → Bodies_call ps k
        → All (GoesWithin n) (bodies marks at ps k a)
    bodies_within [] k a lt go = All-nil (GoesWithin n)
    bodies_within (p ∷ ps) k a lt go =
        here (marks k) refl lt (λ c before. bodies_within ps (k + 1) c before
        (λ q x e m. let z : k + 1 + q ≡ k + suc q = omega arith in go (suc q) x e (sym (ap marks z) ∙ m)))
      where
        here : (b : Bool) → marks k ≡ b → a + length (bodies_with p ps k a b) ≤ n
            → ((c : ℕ) → c + length (bodies marks at ps (k + 1) c) ≤ n
            → All (GoesWithin n) (bodies marks at ps (k + 1) c))
            → All (GoesWithin n) (bodies_with p ps k a b)
        here false f before rest = rest a before
        here true f before rest =
            let c = a + size p + 1 in
            let x = code at p a in
            let y = bodies marks at ps (k + 1) c in
            let long = length-append x (I.Return ∷ y) in
            let z : k + 0 ≡ k = omega arith in
            let stays = code_stays n at p (go 0 p refl (ap marks z ∙ f)) a (a + length x) (omega arith) in
            All-append (GoesWithin n) x (I.Return ∷ y)
            (All-weaker (Goes (a + length x) n) (GoesWithin n) (within (a + length x) n (omega (arith, before, long))) x
            stays)
            (All-cons (GoesWithin n) I.Return y tt (rest c (omega (arith, before, long, code_long at (λ r. 0) p a 0))))

-- what is reached is a rule of the table
in_table : (R : List Core) (g : Core) → CallsAreRules R g → (r : ℕ) → Reaches R g r → r < length R
in_table R g are r (by_goal q e) = are.goal q e
in_table R g are r (by_rule q s p from e k) = are.rules q p e s k

module _ (R : List Core) (g : Core) (ins : List Instr) (is : IsCode R g ins) (are : CallsAreRules R g) where
  abbrev at : ℕ → ℕ
  at = address is.marks R g

  abbrev after : List Instr
  after = bodies is.marks at R 0 (size g + 1)

  abbrev whole : List Instr
  whole = program is.marks R g

  long : length whole ≡ size g + 1 + length after
  long = omega (arith, length-append (code at g 0) (I.Finish ∷ after), code_long at (λ r. 0) g 0 0)

  -- each rule that is marked begins in the program
  begins : (r : ℕ) → is.marks r ≡ true → at r < length whole
  begins r m =
      let z : r ≡ 0 + r = omega arith in
      let lt = in_table R g are r ((is.exact r).0 m) in
      let there = place_within is.marks at R 0 (size g + 1) r lt (ap is.marks (sym z) ∙ m) in
      omega (arith, there, long)

  goal_calls : Calls (length whole) at g
  goal_calls r k = begins r ((is.exact r).1 (by_goal r k))

  rules_call : Bodies_call is.marks at (length whole) R 0
  rules_call q p e m r k =
      let z : 0 + q ≡ q = omega arith in
      begins r ((is.exact r).1 (by_rule q r p ((is.exact q).0 (sym (ap is.marks z) ∙ m)) e k))

  program_within : All (GoesWithin (length whole)) whole
  program_within =
      let n = length whole in
      let x = code at g 0 in
      let m = length x in
      let same = code_long at (λ r. 0) g 0 0 in
      let stays = code_stays n at g goal_calls 0 m (omega arith) in
      All-append (GoesWithin n) x (I.Finish ∷ after)
      (All-weaker (Goes m n) (GoesWithin n) (within m n (omega (arith, long, same))) x stays)
      (All-cons (GoesWithin n) I.Finish after tt
      (bodies_within is.marks at n R 0 (size g + 1) (omega (arith, long)) rules_call))

  pub goes_within : All (GoesWithin (length ins)) ins
  goes_within = subst (λ c. All (GoesWithin (length c)) c) (sym is.same) program_within
