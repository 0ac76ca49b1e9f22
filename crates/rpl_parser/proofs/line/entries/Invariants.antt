use Rattle.std.proofs.Common.{◌≡◌, suc, ◌-◌, length}
use Rattle.rpl_parser.specs.Lines.{entries_of}
use Rattle.rpl_parser.proofs.Entries.{with_front}
use Rattle.rpl_parser.proofs.line.entries.Given as goal

-- what is read, and what is still read, are all
abbrev pub invariant-loop : goal.invariant-loop
invariant-loop l = with_front l.entries (entries_of (l.end - l.counter) l.rest)
    ≡ entries_of (suc (length l.tokens)) l.tokens
