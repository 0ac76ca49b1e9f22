-- What is still to come of the text of a trace. Its places are byte offsets, so the text that was traced isn't needed.
use Rattle.std.specs.Prelude.{ℕ, ◌+◌, List, [], ◌∷◌, ◌++◌, codes, reverse}
use Rattle.std.specs.Fmt.{decimal}
use Rattle.rpl_core.specs.Listed.{rules_of}
use Rattle.rpl_core.specs.Table.{names_of}
use Rattle.rpl_trace.specs.Kinds.{kind_seen}
use Rattle.rpl_trace.specs.Printed.{kind_text}
use Rattle.rpl_trace.specs.declared.event.End.{End}
use Rattle.rpl_trace.specs.declared.event.End.TheVariants as E
use Rattle.rpl_trace.specs.declared.lines.Line.{Line}
use Rattle.rpl_trace.specs.declared.text.TraceText.{TraceText}

-- the number of a byte offset, from 1
abbrev pub offset_text : ℕ → List ℕ
offset_text place = decimal (place + 1)

abbrev pub end_text : End → List ℕ
end_text E.Fails = codes "fail"
end_text (E.At place) = offset_text place
end_text (E.Halts place) = codes "halt"

-- the text of a line, where `names` are the full names of the rules
abbrev pub text_of_line : List (List ℕ) → Line → List ℕ
text_of_line names x =
    decimal x.depth ++ 32
    ∷ (kind_text names (kind_seen x.kind) ++ 32 ∷ (offset_text x.start ++ 32 ∷ (end_text x.end ++ 10 ∷ [])))

abbrev pub text_of_lines : List (List ℕ) → List Line → List ℕ
text_of_lines names [] = []
text_of_lines names (x ∷ xs) = text_of_line names x ++ text_of_lines names xs

-- the last of its lines is the next
abbrev pub left_of : TraceText → List ℕ
left_of x = text_of_lines (names_of (rules_of x.rules.now)) (reverse x.lines.items)
