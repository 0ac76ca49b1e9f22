use Rattle.std.proofs.Common.{◌≡◌, ◌+◌, drop}
use Rattle.rpl_parser.specs.Pieces.{front}
use Rattle.rpl_parser.specs.Tokens.{token_by, tokens_of}
use Rattle.rpl_parser.proofs.Roles.{sample}
use Rattle.rpl_parser.proofs.piece.front_len.Given as goal

-- the tokens that are left, after any token of the role `before`
abbrev pub invariant-loop-index : goal.invariant-loop-index
invariant-loop-index l =
    l.index + front (sample l.before) (tokens_of l.text (drop l.index l.tokens))
    ≡ front (token_by l.fn.first.kind l.text l.fn.first) (tokens_of l.text l.tokens)
