-- The code of cores that fit can be spelled.
use Rattle.std.proofs.Common.{ℕ, zero, suc, ◌+◌, ◌-◌, ◌<◌, ◌^◌, List, [], ◌∷◌, ◌++◌, length, Option, Some, None, ap}
use Rattle.std.proofs.Common.{subst}
use Rattle.std.proofs.Common.{sym, arith, length-append}
use Rattle.std.proofs.lemmas.List.Elements.{All-nil, All-cons, All-head, All-tail, All-append}
use Rattle.std.specs.Prelude.{Bool, true, false, if◌then◌else◌, option_map, slice_index_or}
use Rattle.std.specs.List.{All}
use Rattle.regex_class.specs.Ranges.{Range}
use Rattle.rpl_classes.specs.Sets.{IsNormal}
use Rattle.rpl_classes.specs.Norm.{norm}
use Rattle.rpl_classes.proofs.Normal.{norm_normal}
use Rattle.rpl_core.specs.Code.{Placed, code, code_all, code_first, choice_code, tested_choice, many_code, not_code}
use Rattle.rpl_core.specs.Code.{and_code, lengths_code, size}
use Rattle.rpl_core.specs.Core.{Core, Set, Seq, Choice, Many, Not, And, Behind, Call, Capture, Note, Start, End, Halt}
use Rattle.rpl_core.specs.Core.{Cores, NoMore, Then}
use Rattle.rpl_core.specs.Head.{head, first_head, all_heads, lone_set}
use Rattle.rpl_core.specs.Instr.{Instr}
use Rattle.rpl_core.specs.Instr as I
use Rattle.rpl_core.specs.Programs.{address, bodies, program}
use Rattle.rpl_codefile.specs.Compiled.{IsFit, AreFit, CompiledCanBeSpelled}
use Rattle.rpl_codefile.specs.Laws.{Spellable}
use Rattle.rpl_codefile.specs.Spelling.{FitsText}
use Rattle.rpl_codefile.proofs.Going.{GoesWithin, goes_within}

-- what is asked of an instruction but for its address
abbrev Fine : Instr → Type 0
Fine (I.Set s) = IsNormal s
Fine (I.Back k) = k < 2 ^ 32
Fine (I.Open x) = FitsText x
Fine (I.Note x) = FitsText x
Fine (I.TestSet l s) = IsNormal s
Fine (I.Span s) = IsNormal s
Fine _ = Unit {0}

abbrev AllFine : Placed → Type 0
AllFine p = (a : ℕ) → All Fine (p a)

one : (i : Instr) (is : List Instr) → Fine i → All Fine is → All Fine (i ∷ is)
one i is h k = All-cons Fine i is h k

follow : (x y : List Instr) → All Fine x → All Fine y → All Fine (x ++ y)
follow x y h k = All-append Fine x y h k

done : All Fine []
done = All-nil Fine

-- ---- heads

abbrev FitHead : Option (List Range) → Type 0
FitHead None = Unit {0}
FitHead (Some s) = IsNormal s

normed : (o : Option (List Range)) → FitHead (option_map norm o)
normed None = tt
normed (Some s) = norm_normal s

mutual
  head_fit : (p : Core) → IsFit p → FitHead (head p)
  head_fit (Set s) h = h
  head_fit (Seq ps) h = first_fit ps h
  head_fit (Choice ps) h = normed (all_heads ps)
  head_fit (Many p) h = tt
  head_fit (Not p) h = tt
  head_fit (And p) h = tt
  head_fit (Behind l m p) h = tt
  head_fit (Call r) h = tt
  head_fit (Capture c p) h = head_fit p h.1
  head_fit (Note x) h = tt
  head_fit Start h = tt
  head_fit End h = tt
  head_fit Halt h = tt

  first_fit : (ps : Cores) → AreFit ps → FitHead (first_head ps)
  first_fit NoMore h = tt
  first_fit (Then p ps) h = head_fit p h.0

lone_fit : (p : Core) → IsFit p → FitHead (lone_set p)
lone_fit (Set s) h = h
lone_fit _ h = tt

-- ---- fragments

choice_fine : (p q : Placed) → AllFine p → AllFine q → AllFine (choice_code p q)
choice_fine p q h k a =
    let l1 = a + 1 + length (p (a + 1)) + 1 in
    let rest = I.Commit (l1 + length (q l1)) ∷ q l1 in
    one (I.Choice l1) (p (a + 1) ++ rest) tt
    (follow (p (a + 1)) rest (h (a + 1)) (one (I.Commit (l1 + length (q l1))) (q l1) tt (k l1)))

tested_fine : (o : Option (List Range)) (p q : Placed) → FitHead o → AllFine p → AllFine q
    → AllFine (tested_choice o p q)
tested_fine None p q f h k a = choice_fine p q h k a
tested_fine (Some s) p q f h k a =
    one (I.TestSet (a + 1 + 1 + length (p (a + 1 + 1)) + 1) s) (choice_code p q (a + 1)) f
    (choice_fine p q h k (a + 1))

many_fine : (o : Option (List Range)) (p : Placed) → FitHead o → AllFine p → AllFine (many_code o p)
many_fine (Some s) p f h a = one (I.Span s) [] f done
many_fine None p f h a =
    one (I.Choice (a + 1 + length (p (a + 1)) + 1)) (p (a + 1) ++ I.PartialCommit (a + 1) ∷ []) tt
    (follow (p (a + 1)) (I.PartialCommit (a + 1) ∷ []) (h (a + 1)) (one (I.PartialCommit (a + 1)) [] tt done))

not_fine : (o : Option (List Range)) (p : Placed) → FitHead o → AllFine p → AllFine (not_code o p)
not_fine (Some s) p f h a = one (I.TestSet (a + 1 + 1) s) (I.Fail ∷ []) f (one I.Fail [] tt done)
not_fine None p f h a =
    one (I.Choice (a + 1 + length (p (a + 1)) + 1)) (p (a + 1) ++ I.FailTwice ∷ []) tt
    (follow (p (a + 1)) (I.FailTwice ∷ []) (h (a + 1)) (one I.FailTwice [] tt done))

and_fine : (p : Placed) → AllFine p → AllFine (and_code p)
and_fine p h a =
    let l1 = a + 1 + length (p (a + 1)) + 1 in
    let rest = I.BackCommit (l1 + 1) ∷ I.Fail ∷ [] in
    one (I.Choice l1) (p (a + 1) ++ rest) tt
    (follow (p (a + 1)) rest (h (a + 1)) (one (I.BackCommit (l1 + 1)) (I.Fail ∷ []) tt (one I.Fail [] tt done)))

lengths_fine : (p : Placed) (e n k : ℕ) → AllFine p → ((j : ℕ) → j < n → k + j < 2 ^ 32)
    → AllFine (lengths_code p e n k)
lengths_fine p e zero k h short a = one I.Fail [] tt done
lengths_fine p e (suc n) k h short a =
    let next = a + 1 + 1 + length (p (a + 1 + 1)) + 1 in
    let rest = I.Meet e ∷ lengths_code p e n (k + 1) next in
    let back = p (a + 1 + 1) ++ rest in
    let here : k < 2 ^ 32 = omega (arith, short 0 (omega arith)) in
    one (I.Choice next) (I.Back k ∷ back) tt
    (one (I.Back k) back here
    (follow (p (a + 1 + 1)) rest (h (a + 1 + 1))
    (one (I.Meet e) (lengths_code p e n (k + 1) next) tt
    (lengths_fine p e n (k + 1) h (λ j lt. omega (arith, short (j + 1) (omega (arith, lt)))) next))))

-- ---- cores

mutual
  code_fine : (at : ℕ → ℕ) (p : Core) → IsFit p → (a : ℕ) → All Fine (code at p a)
  code_fine at (Set s) h a = one (I.Set s) [] h done
  code_fine at (Seq ps) h a = all_fine at ps h a
  code_fine at (Choice ps) h a = parts_fine at ps h a
  code_fine at (Many p) h a = many_fine (lone_set p) (code at p) (lone_fit p h) (code_fine at p h) a
  code_fine at (Not p) h a = not_fine (lone_set p) (code at p) (lone_fit p h) (code_fine at p h) a
  code_fine at (And p) h a = and_fine (code at p) (code_fine at p h) a
  code_fine at (Behind l m p) h a =
      let n = m + 1 - l in
      let most = h.0 in
      lengths_fine (code at p) (a + length (lengths_code (code at p) 0 n l a)) n l (code_fine at p h.1)
      (λ j lt. omega (arith, lt, most)) a
  code_fine at (Call r) h a = one (I.Call (at r)) [] tt done
  code_fine at (Capture c p) h a =
      one (I.Open c) (code at p (a + 1) ++ I.Close ∷ []) h.0
      (follow (code at p (a + 1)) (I.Close ∷ []) (code_fine at p h.1 (a + 1)) (one I.Close [] tt done))
  code_fine at (Note x) h a = one (I.Note x) [] h done
  code_fine at Start h a = one I.Start [] tt done
  code_fine at End h a = one I.End [] tt done
  code_fine at Halt h a = one I.Halt [] tt done

  all_fine : (at : ℕ → ℕ) (ps : Cores) → AreFit ps → (a : ℕ) → All Fine (code_all at ps a)
  all_fine at NoMore h a = done
  all_fine at (Then p ps) h a =
      let b = a + length (code at p a) in
      follow (code at p a) (code_all at ps b) (code_fine at p h.0 a) (all_fine at ps h.1 b)

  parts_fine : (at : ℕ → ℕ) (ps : Cores) → AreFit ps → (a : ℕ) → All Fine (code_first at ps a)
  parts_fine at NoMore h a = one I.Fail [] tt done
  parts_fine at (Then p NoMore) h a = code_fine at p h.0 a
  parts_fine at (Then p (Then q ps)) h a =
      tested_fine (head p) (code at p) (code_first at (Then q ps)) (head_fit p h.0) (code_fine at p h.0)
      (parts_fine at (Then q ps) h.1) a

-- ---- a program

if_fine : (b : Bool) (x y : List Instr) → All Fine x → All Fine y → All Fine (if b then x else y)
if_fine true x y h k = h
if_fine false x y h k = k

bodies_fine : (marks : ℕ → Bool) (at : ℕ → ℕ) (R : List Core) → All IsFit R → (k a : ℕ)
    → All Fine (bodies marks at R k a)
bodies_fine marks at [] h k a = done
bodies_fine marks at (p ∷ R) h k a =
    let b = a + size p + 1 in
    let rest = bodies_fine marks at R (All-tail IsFit p R h) (k + 1) in
    if_fine (marks k) (code at p a ++ I.Return ∷ bodies marks at R (k + 1) b) (bodies marks at R (k + 1) a)
    (follow (code at p a) (I.Return ∷ bodies marks at R (k + 1) b) (code_fine at p (All-head IsFit p R h) a)
    (one I.Return (bodies marks at R (k + 1) b) tt (rest b)))
    (rest a)

program_fine : (marks : ℕ → Bool) (R : List Core) (g : Core) → All IsFit R → IsFit g → All Fine (program marks R g)
program_fine marks R g h k =
    let at = address marks R g in
    let rest = bodies marks at R 0 (size g + 1) in
    follow (code at g 0) (I.Finish ∷ rest) (code_fine at g k 0)
    (one I.Finish rest tt (bodies_fine marks at R h 0 (size g + 1)))

program_some : (marks : ℕ → Bool) (R : List Core) (g : Core) → 0 < length (program marks R g)
program_some marks R g =
    let at = address marks R g in
    omega (arith, length-append (code at g 0) (I.Finish ∷ bodies marks at R 0 (size g + 1)))

spell : (n : ℕ) (i : Instr) → Fine i → GoesWithin n i → Spellable n i
spell n (I.Set s) h k = h
spell n I.Start h k = tt
spell n I.End h k = tt
spell n (I.Choice l) h k = k
spell n (I.Commit l) h k = k
spell n I.FailTwice h k = tt
spell n (I.BackCommit l) h k = k
spell n I.Fail h k = tt
spell n (I.Back j) h k = h
spell n (I.Meet l) h k = k
spell n (I.Call l) h k = k
spell n I.Return h k = tt
spell n (I.Open x) h k = h
spell n I.Close h k = tt
spell n (I.Note x) h k = h
spell n I.Finish h k = tt
spell n (I.TestSet l s) h k = (k, h)
spell n (I.Span s) h k = h
spell n (I.PartialCommit l) h k = k
spell n I.Halt h k = tt

-- the code of a goal over rules that fit can be spelled, unless it is too long
pub compiled_can_be_spelled : CompiledCanBeSpelled
compiled_can_be_spelled R g ins is are rules goal limit =
    let fine : All Fine ins = subst (All Fine) (sym is.same) (program_fine is.marks R g rules goal) in
    let within = goes_within R g ins is are in
    record {
      some = omega (arith, ap length is.same, program_some is.marks R g);
      limit = limit;
      instrs = λ k d lt. spell (length ins) (slice_index_or ins k d) (fine k d lt) (within k d lt);
    }
