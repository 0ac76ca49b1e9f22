use Rattle.std.proofs.Common.{◌≡◌, drop}
use Rattle.rosie_columns_cli.specs.Words.{all_taken, start, words_of}
use Rattle.rosie_columns_cli.proofs.words.read_words.Given as goal

-- the words that were taken, and those that are left
abbrev pub invariant-loop-word : goal.invariant-loop-word
invariant-loop-word l = all_taken l.reader (words_of (drop l.word-index l.words)) ≡ all_taken start (words_of l.words)
