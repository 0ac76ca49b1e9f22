use Rattle.std.proofs.Common.{◌≡◌, map, drop}
use Rattle.rosie_words.specs.Taken.{seen, stray_word}
use Rattle.rosie_words.proofs.reading.stray.Given as goal

abbrev pub invariant-loop-given : goal.invariant-loop-given
invariant-loop-given l = stray_word l.command l.has_code (map seen (drop l.given-index l.options))
    ≡ stray_word l.command l.has_code (map seen l.options)
