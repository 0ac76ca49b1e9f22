use Rattle.std.proofs.Common.{◌≡◌, drop}
use Rattle.rpl_parser.specs.Levels.{ground_level, too_deep}
use Rattle.rpl_parser.specs.inside.Low.{Low}
use Rattle.rpl_parser.specs.inside.Stacks.{level_of}
use Rattle.rpl_parser.proofs.level.first_deep.Given as goal

-- the level is low, and what is found from here on is found from the start
abbrev pub invariant-loop-index : goal.invariant-loop-index
invariant-loop-index l =
    Low (level_of l.depth)
    × (too_deep l.text (level_of l.depth) (drop l.index l.tokens) ≡ too_deep l.text ground_level l.tokens)
