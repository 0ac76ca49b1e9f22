use Rattle.std.proofs.Common.{drop}
use Rattle.rosie_words.specs.Reading.{words_of}
use Rattle.rosie_words.proofs.Walk.{Stands}
use Rattle.rosie_words.proofs.reading.read_words.Given as goal

abbrev pub invariant-loop-word : goal.invariant-loop-word
invariant-loop-word l = Stands (words_of l.words) (words_of (drop l.word-index l.words)) l.reader
