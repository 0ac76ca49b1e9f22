use Rattle.std.proofs.Common.{◌≡◌, map, chars, take}
use Rattle.rosie_words.specs.Seen.{text}
use Rattle.rosie_words.proofs.what.paths.Given as goal

abbrev pub invariant-loop-word : goal.invariant-loop-word
invariant-loop-word l = l.paths ≡ map chars (map text (take l.word-index l.words))
