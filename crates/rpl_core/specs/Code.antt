-- The code of a core (after Medeiros and Ierusalimschy 2008, section 3). Each line of code stands above its
-- definition, with labels for addresses.
use Rattle.std.specs.Prelude.{ℕ, zero, suc, ◌+◌, ◌-◌, List, [], ◌∷◌, ◌++◌, length, Option, Some, None}
use Rattle.regex_class.specs.Ranges.{Range}
use Rattle.rpl_core.specs.Core.{Core, Set, Seq, Choice, Many, Not, And, Behind, Call, Capture, Note, Start, End, Halt}
use Rattle.rpl_core.specs.Core.{Cores, NoMore, Then}
use Rattle.rpl_core.specs.Head.{head, lone_set}
use Rattle.rpl_core.specs.Instr.{Instr}
use Rattle.rpl_core.specs.Instr as I

-- a fragment of code, for each address where it may start
abbrev pub Placed : Type 0
Placed = ℕ → List Instr

-- choice L1; p; commit L2; L1: q; L2:
abbrev pub choice_code : Placed → Placed → Placed
choice_code p q a =
    let l1 = a + 1 + length (p (a + 1)) + 1 in
    I.Choice l1 ∷ (p (a + 1) ++ I.Commit (l1 + length (q l1)) ∷ q l1)

-- where p has the head s: testset L1 s; choice L1; p; commit L2; L1: q; L2:
abbrev pub tested_choice : Option (List Range) → Placed → Placed → Placed
tested_choice None p q a = choice_code p q a
tested_choice (Some s) p q a = I.TestSet (a + 1 + 1 + length (p (a + 1 + 1)) + 1) s ∷ choice_code p q (a + 1)

-- choice L2; L1: p; partialcommit L1; L2:
abbrev pub loop_code : Placed → Placed
loop_code p a = I.Choice (a + 1 + length (p (a + 1)) + 1) ∷ (p (a + 1) ++ I.PartialCommit (a + 1) ∷ [])

-- where the body is the set s: span s
abbrev pub many_code : Option (List Range) → Placed → Placed
many_code (Some s) p a = I.Span s ∷ []
many_code None p a = loop_code p a

-- choice L1; p; failtwice; L1:
abbrev pub refuse_code : Placed → Placed
refuse_code p a = I.Choice (a + 1 + length (p (a + 1)) + 1) ∷ (p (a + 1) ++ I.FailTwice ∷ [])

-- where the body is the set s: testset L1 s; fail; L1:
abbrev pub not_code : Option (List Range) → Placed → Placed
not_code (Some s) p a = I.TestSet (a + 1 + 1) s ∷ I.Fail ∷ []
not_code None p a = refuse_code p a

-- choice L1; p; backcommit L2; L1: fail; L2:
abbrev pub and_code : Placed → Placed
and_code p a =
    let l1 = a + 1 + length (p (a + 1)) + 1 in
    I.Choice l1 ∷ (p (a + 1) ++ I.BackCommit (l1 + 1) ∷ I.Fail ∷ [])

-- for each of n lengths k from the least on: choice N; back k; p; meet E; N:, then fail; E:
abbrev pub lengths_code : Placed → ℕ → ℕ → ℕ → Placed
lengths_code p e zero k a = I.Fail ∷ []
lengths_code p e (suc n) k a =
    let next = a + 1 + 1 + length (p (a + 1 + 1)) + 1 in
    I.Choice next ∷ I.Back k ∷ (p (a + 1 + 1) ++ I.Meet e ∷ lengths_code p e n (k + 1) next)

-- the lengths, where E is the address after them; how long they are doesn't hang on E
abbrev pub behind_code : Placed → ℕ → ℕ → Placed
behind_code p n k a = lengths_code p (a + length (lengths_code p 0 n k a)) n k a

-- The code of a core from the address a on, where the rule r begins at the address at r.
abbrev mutual
  pub code : (ℕ → ℕ) → Core → Placed
  code at (Set s) a = I.Set s ∷ []
  code at (Seq ps) a = code_all at ps a
  code at (Choice ps) a = code_first at ps a
  code at (Many p) a = many_code (lone_set p) (code at p) a
  code at (Not p) a = not_code (lone_set p) (code at p) a
  code at (And p) a = and_code (code at p) a
  code at (Behind l m p) a = behind_code (code at p) (m + 1 - l) l a
  code at (Call r) a = I.Call (at r) ∷ []
  code at (Capture c p) a = I.Open c ∷ (code at p (a + 1) ++ I.Close ∷ [])
  code at (Note x) a = I.Note x ∷ []
  code at Start a = I.Start ∷ []
  code at End a = I.End ∷ []
  code at Halt a = I.Halt ∷ []

  -- the parts in turn
  pub code_all : (ℕ → ℕ) → Cores → Placed
  code_all at NoMore a = []
  code_all at (Then p ps) a = code at p a ++ code_all at ps (a + length (code at p a))

  -- a choice of the first part and the rest, and so on; a last part alone is that part, and no part at all fails
  pub code_first : (ℕ → ℕ) → Cores → Placed
  code_first at NoMore a = I.Fail ∷ []
  code_first at (Then p NoMore) a = code at p a
  code_first at (Then p (Then q ps)) a = tested_choice (head p) (code at p) (code_first at (Then q ps)) a

-- how many instructions a core has, wherever it stands
abbrev pub size : Core → ℕ
size e = length (code (λ r. 0) e 0)
