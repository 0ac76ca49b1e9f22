-- The definitions on small patterns, worked by hand; each holds by computation.
use Rattle.std.proofs.Common.{◌≡◌, ℕ, List, [], ◌∷◌, refl}
use Rattle.std.specs.Prelude.{true}
use Rattle.regex_class.specs.Ranges.{Range, in_range, in_ranges}
use Rattle.rpl_core.specs.Core.{Core, Set, Seq, Choice, Many, Not, Behind, Call, Capture, Halt, NoMore, Then}
use Rattle.rpl_core.specs.Forest.{NoTree, Tree, Begin, Finish}
use Rattle.rpl_core.specs.Meaning.{Open, Fail, At, HaltAt, peg}
use Rattle.rpl_core.specs.Outcome.{outcome}
use Rattle.rpl_core.specs.Instr as I
use Rattle.rpl_core.specs.Programs.{program}
use Rattle.rpl_core.specs.Run.{Matched, Failed, Unfinished, run}

abbrev one : ℕ → List Range
one c = (c, c) ∷ []

abbrev letter : ℕ → Core
letter c = Set (one c)

abbrev star : List ℕ
star = 42 ∷ []

-- a choice of "a" and "ab" on "ab" takes the first that succeeds
abbrev shorter_first : Core
shorter_first = Capture star
    (Choice (Then (letter 97) (Then (Seq (Then (letter 97) (Then (letter 98) NoMore))) NoMore)))

shorter_meaning : outcome [] shorter_first (97 ∷ 98 ∷ []) ≡ At 3 1 (Tree star 0 1 NoTree NoTree)
unfolding in_range in_ranges
shorter_meaning = refl

shorter_code : program (λ r. true) [] shorter_first ≡ I.Open star ∷ I.TestSet 5 (one 97) ∷ I.Choice 5 ∷ I.Set (one 97)
    ∷ I.Commit 7 ∷ I.Set (one 97) ∷ I.Set (one 98) ∷ I.Close ∷ I.Finish ∷ []
shorter_code = refl

shorter_run : run (program (λ r. true) [] shorter_first) (97 ∷ 98 ∷ []) 100 ≡ Matched 7 1 (Begin star 0 ∷ Finish 1 ∷ [])
unfolding in_range in_ranges
shorter_run = refl

-- a choice of three is its first part and the choice of the rest: on "c", 1 for the capture, 1 for the choice,
-- 1 for "a", 1 for the rest, 1 for "b" and 1 for "c"
abbrev three : Core
three = Capture star (Choice (Then (letter 97) (Then (letter 98) (Then (letter 99) NoMore))))

three_meaning : outcome [] three (99 ∷ []) ≡ At 6 1 (Tree star 0 1 NoTree NoTree)
unfolding in_range in_ranges
three_meaning = refl

-- testset L1 a; choice L1; set a; commit L2; L1: testset L3 b; choice L3; set b; commit L2; L3: set c; L2:
three_code : program (λ r. true) [] three ≡ I.Open star ∷ I.TestSet 5 (one 97) ∷ I.Choice 5 ∷ I.Set (one 97)
    ∷ I.Commit 10 ∷ I.TestSet 9 (one 98) ∷ I.Choice 9 ∷ I.Set (one 98) ∷ I.Commit 10 ∷ I.Set (one 99) ∷ I.Close
    ∷ I.Finish
    ∷ []
three_code = refl

-- p = {"(" p* ")"} on "(()())"
abbrev brackets : Core
brackets = Capture (112 ∷ []) (Seq (Then (letter 40) (Then (Many (Call 0)) (Then (letter 41) NoMore))))

abbrev nested : List ℕ
nested = 40 ∷ 40 ∷ 41 ∷ 40 ∷ 41 ∷ 41 ∷ []

brackets_meaning : outcome (brackets ∷ []) (Call 0) nested
    ≡ At 32 6 (Tree (112 ∷ []) 0 6 (Tree (112 ∷ []) 1 3 NoTree (Tree (112 ∷ []) 3 5 NoTree NoTree)) NoTree)
unfolding in_range in_ranges
brackets_meaning = refl

brackets_run : run (program (λ r. true) (brackets ∷ []) (Call 0)) nested 200
    ≡ Matched 39 6 (Begin (112 ∷ []) 0 ∷ Begin (112 ∷ []) 1 ∷ Finish 3 ∷ Begin (112 ∷ []) 3 ∷ Finish 5 ∷ Finish 6 ∷ [])
unfolding in_range in_ranges
brackets_run = refl

-- x = {{"a" / "b"} "c"*} on "bcc"
abbrev two_letters : Core
two_letters = Capture (120 ∷ [])
    (Seq (Then (Choice (Then (letter 97) (Then (letter 98) NoMore))) (Then (Many (letter 99)) NoMore)))

two_code : program (λ r. true) (two_letters ∷ []) (Call 0) ≡ I.Call 2 ∷ I.Finish ∷ I.Open (120 ∷ [])
    ∷ I.TestSet 7 (one 97) ∷ I.Choice 7 ∷ I.Set (one 97) ∷ I.Commit 8 ∷ I.Set (one 98) ∷ I.Span (one 99) ∷ I.Close
    ∷ I.Return ∷ []
two_code = refl

two_run : run (program (λ r. true) (two_letters ∷ []) (Call 0)) (98 ∷ 99 ∷ 99 ∷ []) 1000
    ≡ Matched 10 3 (Begin (120 ∷ []) 0 ∷ Finish 3 ∷ [])
unfolding in_range in_ranges
two_run = refl

two_short : run (program (λ r. true) (two_letters ∷ []) (Call 0)) (98 ∷ 99 ∷ 99 ∷ []) 9 ≡ Unfinished
unfolding in_range in_ranges
two_short = refl

-- {"a" halt "b"} on "ax"
abbrev halting : Core
halting = Capture star (Seq (Then (letter 97) (Then (Call 0) (Then (letter 98) NoMore))))

halting_meaning : peg 4 (Halt ∷ []) (97 ∷ 120 ∷ []) halting 0 ≡ HaltAt 5 1 (Tree star 0 1 NoTree NoTree)
unfolding in_range in_ranges
halting_meaning = refl

halting_outcome : outcome (Halt ∷ []) halting (97 ∷ 120 ∷ []) ≡ At 5 1 (Tree star 0 1 NoTree NoTree)
unfolding in_range in_ranges
halting_outcome = refl

halting_run : run (program (λ r. true) (Halt ∷ []) halting) (97 ∷ 120 ∷ []) 1000
    ≡ Matched 5 1 (Begin star 0 ∷ Finish 1 ∷ [])
unfolding in_range in_ranges
halting_run = refl

-- {"b" <"b" "c"} on "bc"
abbrev behind_b : Core
behind_b = Capture star (Seq (Then (letter 98) (Then (Behind 1 1 (letter 98)) (Then (letter 99) NoMore))))

behind_meaning : outcome [] behind_b (98 ∷ 99 ∷ []) ≡ At 7 2 (Tree star 0 2 NoTree NoTree)
unfolding in_range in_ranges
behind_meaning = refl

behind_run : run (program (λ r. true) [] behind_b) (98 ∷ 99 ∷ []) 1000 ≡ Matched 9 2 (Begin star 0 ∷ Finish 2 ∷ [])
unfolding in_range in_ranges
behind_run = refl

-- an empty loop is open at every depth tried
empty_loop : peg 5 [] (97 ∷ []) (Many (Seq NoMore)) 0 ≡ Open
empty_loop = refl

-- !"a" on "a": 1 for the predicate and 1 for the set; testset goes on, and fail leaves nothing to retry
not_meaning : outcome [] (Not (letter 97)) (97 ∷ []) ≡ Fail 2
unfolding in_range in_ranges
not_meaning = refl

not_run : run (program (λ r. true) [] (Not (letter 97))) (97 ∷ []) 1000 ≡ Failed 2
unfolding in_range in_ranges
not_run = refl
