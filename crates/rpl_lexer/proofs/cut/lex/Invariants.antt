use Rattle.std.proofs.Common.{◌≤◌, ◌-◌, ◌++◌, List, length}
use Rattle.rpl_lexer.specs.Cut.{Chain, End}
use Rattle.rpl_lexer.specs.declared.token.Token.{Token}
use Rattle.rpl_lexer.proofs.cut.lex.Given as goal

abbrev pub decreases-loop-bytes : goal.decreases-loop-bytes
decreases-loop-bytes l = length l.text - l.at

-- what is a chain from here on, is one after the tokens so far
abbrev pub invariant-loop-bytes : goal.invariant-loop-bytes
invariant-loop-bytes l = record {
  inside : l.at ≤ length l.text;
  few : length l.items.items ≤ 262144;
  so_far : (ts : List Token) (e : End) → Chain l.text l.at (length l.items.items) ts e
      → Chain l.text 0 0 (l.items.items ++ ts) e;
}
