use Rattle.std.proofs.Common.{◌≡◌, length}
use Rattle.rpl_parser.specs.Lines.{path_of}
use Rattle.rpl_parser.proofs.line.path.Given as goal

abbrev pub invariant-loop-name : goal.invariant-loop-name
invariant-loop-name l = path_of l.text l.rest ≡ path_of l.fn.first l.tokens

abbrev pub decreases-loop-name : goal.decreases-loop-name
decreases-loop-name l = length l.rest
