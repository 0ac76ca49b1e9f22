use Rattle.std.proofs.Common.{◌≡◌, ◌+◌, drop}
use Rattle.rpl_lexer.specs.Bytes.{run, in_class}
use Rattle.rpl_lexer.proofs.bytes.run_len.Given as goal

abbrev pub invariant-loop-i : goal.invariant-loop-i
invariant-loop-i l = l.i + run (in_class l.class) (drop l.i l.bytes) ≡ run (in_class l.class) l.bytes
