-- The text of an expansion.
use Rattle.std.specs.Prelude.{ℕ, List, ◌++◌}
use Rattle.rpl_check.specs.Goal.{peg_of}
use Rattle.rpl_core.specs.Marked.{marked}
use Rattle.rpl_core.specs.Table.{names_of}
use Rattle.rpl_core.specs.View.{core_of}
use Rattle.rpl_forms.specs.Rows.{rows_of}
use Rattle.rpl_syntax.specs.View.{expr_of}
use Rattle.rosie_inspect.specs.Expansions.{pattern_lines, rule_lines}
use Rattle.rosie_inspect.specs.Listing.{code_text}
use Rattle.rosie_inspect.specs.declared.expansion.Expansion.{Expansion}

-- the pattern, and the rules that it reaches
abbrev pub pattern_text : Expansion → List ℕ
pattern_text e =
    pattern_lines (names_of e.rules) (expr_of e.expr) (core_of (peg_of e.goal))
    ++ rule_lines (names_of e.rules) (marked e.marks.items) 0 (rows_of e.rules)

-- and with the lines of its program, if that is wanted
abbrev pub text_of : Expansion → List ℕ
text_of e = pattern_text e ++ code_text e.program
