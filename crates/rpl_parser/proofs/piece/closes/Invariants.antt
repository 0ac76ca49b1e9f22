use Rattle.std.proofs.Common.{◌≡◌, drop}
use Rattle.rpl_parser.specs.Pieces.{closes_later}
use Rattle.rpl_parser.specs.Tokens.{tokens_of}
use Rattle.rpl_parser.proofs.piece.closes.Given as goal

abbrev pub invariant-loop-index : goal.invariant-loop-index
invariant-loop-index l = closes_later (tokens_of l.text (drop l.index l.tokens))
    ≡ closes_later (tokens_of l.text l.tokens)
