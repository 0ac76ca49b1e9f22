use Rattle.std.proofs.Common.{◌≡◌, ◌≤◌, drop}
use Rattle.rpl_lexer.specs.Nesting.{most_open, nesting}
use Rattle.rpl_lexer.proofs.enclosed.nesting.Given as goal

abbrev pub invariant-loop-i : goal.invariant-loop-i
invariant-loop-i l = record {
  rest : most_open l.most l.depth l.hidden (drop l.i l.bytes) ≡ nesting l.bytes;
  now : l.depth ≤ l.i;
  was : l.most ≤ l.i;
}
