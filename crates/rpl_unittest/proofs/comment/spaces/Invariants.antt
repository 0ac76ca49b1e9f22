use Rattle.std.proofs.Common.{◌≡◌, ◌+◌, drop}
use Rattle.rpl_lexer.specs.Bytes.{is_space, run}
use Rattle.rpl_unittest.proofs.comment.spaces.Given as goal

abbrev pub invariant-loop-byte : goal.invariant-loop-byte
invariant-loop-byte l =
    record {
      count : l.count ≡ l.byte-index;
      same : l.count + run is_space (drop l.byte-index l.bytes) ≡ run is_space
          l.bytes;
    }
