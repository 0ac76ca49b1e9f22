-- The text of a program: a line for each instruction.
use Rattle.std.specs.Prelude.{ℕ, ◌+◌, List, [], ◌∷◌, ◌++◌, Option, Some, None, codes, decimal}
use Rattle.std.specs.Str.{encode_utf8_all}
use Rattle.rpl_core.specs.Instr.{Instr, Set, Start, End, Choice, Commit, FailTwice, BackCommit, Fail, Back, Meet, Call}
use Rattle.rpl_core.specs.Instr.{Return, Open, Close, Note, Finish, TestSet, Span, PartialCommit, Halt}
use Rattle.rpl_core.specs.Numbers.{instr_of}
use Rattle.rpl_core.specs.Program.{instructions, labels_of, sets_of}
use Rattle.rpl_core.specs.declared.instr.Instr as R
use Rattle.rpl_core.specs.declared.program.Program.{Program}
use Rattle.rpl_print.specs.Quoted.{quoted}
use Rattle.rpl_print.specs.Sets.{set_text}

-- an instruction with its addresses and numbers in decimal digits, its set by ranges, the name of a type as it is, and
-- a note as a string of JSON
abbrev pub instr_text : Instr → List ℕ
instr_text (Set s) = codes "set " ++ set_text s
instr_text Start = codes "start"
instr_text End = codes "end"
instr_text (Choice l) = codes "choice " ++ decimal l
instr_text (Commit l) = codes "commit " ++ decimal l
instr_text FailTwice = codes "failtwice"
instr_text (BackCommit l) = codes "backcommit " ++ decimal l
instr_text Fail = codes "fail"
instr_text (Back k) = codes "back " ++ decimal k
instr_text (Meet l) = codes "meet " ++ decimal l
instr_text (Call l) = codes "call " ++ decimal l
instr_text Return = codes "return"
instr_text (Open c) = codes "open " ++ encode_utf8_all c
instr_text Close = codes "close"
instr_text (Note x) = codes "note " ++ quoted (encode_utf8_all x)
instr_text Finish = codes "finish"
instr_text (TestSet l s) = codes "testset " ++ (decimal l ++ 32 ∷ set_text s)
instr_text (Span s) = codes "span " ++ set_text s
instr_text (PartialCommit l) = codes "partialcommit " ++ decimal l
instr_text Halt = codes "halt"

-- the lines of instructions, the first of which has the address a
abbrev pub lines : ℕ → List Instr → List ℕ
lines a [] = []
lines a (i ∷ is) = decimal a ++ 32 ∷ (instr_text i ++ 10 ∷ lines (a + 1) is)

-- the line of an instruction of a program, at an address
abbrev pub code_line : Program → R.Instr → ℕ → List ℕ
code_line program instr address =
    decimal address ++ 32 ∷ (instr_text (instr_of (sets_of program) (labels_of program) instr) ++ 10 ∷ [])

-- the lines of a program, if there is one
abbrev pub code_text : Option Program → List ℕ
code_text None = []
code_text (Some program) = lines 0 (instructions program)
