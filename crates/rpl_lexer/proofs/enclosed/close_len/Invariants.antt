use Rattle.std.proofs.Common.{◌≡◌, ◌≤◌, drop}
use Rattle.std.specs.Prelude.{false}
use Rattle.rpl_lexer.specs.Enclosed.{close, plus}
use Rattle.rpl_lexer.proofs.enclosed.close_len.Given as goal

abbrev pub invariant-loop-i : goal.invariant-loop-i
invariant-loop-i l = record {
  few : l.depth ≤ l.i;
  same : plus l.i (close l.enclosure l.depth l.hidden (drop l.i l.bytes)) ≡ close l.enclosure 0 false l.bytes;
}
