-- What an instruction does with its set or its text, over their number and over themselves.
use Rattle.std.specs.Prelude.{ℕ, List}
use Rattle.regex_class.specs.Ranges.{Range}
use Rattle.rpl_core.specs.Instr.{Instr}
use Rattle.rpl_core.specs.Instr as I
use Rattle.rpl_core.specs.declared.instr.Instr as R
use Rattle.rpl_core.specs.declared.instr.Instr.TheVariants as V
use Rattle.rpl_intern.specs.declared.draft.SetUse.{SetUse}
use Rattle.rpl_intern.specs.declared.draft.SetUse.TheVariants as S
use Rattle.rpl_intern.specs.declared.draft.TextUse.{TextUse}
use Rattle.rpl_intern.specs.declared.draft.TextUse.TheVariants as T

abbrev pub numbered_set : SetUse → ℕ → R.Instr
numbered_set S.Set k = V.Set k
numbered_set S.Span k = V.Span k
numbered_set (S.Test other) k = V.TestSet other k

abbrev pub with_set : SetUse → List Range → Instr
with_set S.Set s = I.Set s
with_set S.Span s = I.Span s
with_set (S.Test other) s = I.TestSet other s

abbrev pub numbered_text : TextUse → ℕ → R.Instr
numbered_text T.Open k = V.Open k
numbered_text T.Note k = V.Note k

abbrev pub with_text : TextUse → List ℕ → Instr
with_text T.Open x = I.Open x
with_text T.Note x = I.Note x
