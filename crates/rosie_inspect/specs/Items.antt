-- What is still to be made of the text of an expansion.
use Rattle.std.specs.Prelude.{ℕ, ◌≡◌, ◌+◌, ◌<◌, Bool, List, [], ◌∷◌, ◌++◌, codes, drop, encode_utf8_all, length}
use Rattle.rpl_core.specs.Listed.{rules_of}
use Rattle.rpl_core.specs.Marked.{marked}
use Rattle.rpl_core.specs.Program.{instructions}
use Rattle.rpl_core.specs.Table.{names_of}
use Rattle.rpl_core.specs.View.{core_of, cores}
use Rattle.rpl_core.specs.declared.rules.Rule.{Rule}
use Rattle.rpl_expand.specs.Printed.{printed, printed_all}
use Rattle.rpl_forms.specs.Rows.{row_at, rows_of}
use Rattle.rpl_syntax.specs.Printed as P
use Rattle.rpl_syntax.specs.View.{expr_of}
use Rattle.rpl_syntax.specs.declared.expr.Expr.{Expr}
use Rattle.rosie_inspect.specs.Expansions.{rule_line, rule_lines}
use Rattle.rosie_inspect.specs.Listing.{code_line, lines}
use Rattle.rosie_inspect.specs.declared.expanding.Expanding.{Expanding}
use Rattle.rosie_inspect.specs.declared.expanding.Item.{Item}
use Rattle.rosie_inspect.specs.declared.expanding.Item.TheVariants as I

-- the pattern as it is written, up to its core
abbrev pub head_text : Expr → List ℕ
head_text e = codes "pattern " ++ encode_utf8_all (P.printed (expr_of e)) ++ codes "\n* = "

-- the line of a rule, and those of the marked rules from the number `next` on
abbrev pub rule_text : List Rule → List Bool → Rule → (next : ℕ) → List ℕ
rule_text rs bs rule next =
    rule_line (names_of rs) (row_at rule) ++ rule_lines (names_of rs) (marked bs) next (drop next (rows_of rs))

-- the text of an item over these rules, where these are marked
abbrev pub item_text : List Rule → List Bool → Item → List ℕ
item_text rs bs (I.Pattern expr) = head_text expr.now
item_text rs bs (I.Core peg) = printed (names_of rs) (core_of peg.now)
item_text rs bs (I.Parts parts) = printed_all (names_of rs) (cores parts.now) ++ 41 ∷ []
item_text rs bs I.Close = 41 ∷ []
item_text rs bs I.Feed = 10 ∷ []
item_text rs bs (I.RuleLine rule next) = rule_text rs bs rule.now next
item_text rs bs (I.CodeLine program instr address next) =
    code_line program.now instr address ++ lines next (drop next (instructions program.now))

-- the text of all items, of which the last is the first to be made
abbrev pub stack_text : List Rule → List Bool → List Item → List ℕ
stack_text rs bs [] = []
stack_text rs bs (item ∷ items) = stack_text rs bs items ++ item_text rs bs item

-- what is left of a text
abbrev pub left_of : Expanding → List ℕ
left_of s = stack_text (rules_of s.rules.now) s.marks.now s.todo.items

-- a front of this text was made, and what is left of it is next
abbrev pub Turns : (text left0 left1 out0 out1 : List ℕ) → Type 0
Turns text left0 left1 out0 out1 = (out0 ++ (text ++ left0) ≡ out1 ++ left1) × (length out0 < length out1)
