use Rattle.std.proofs.Common.{◌≡◌, ◌++◌, take}
use Rattle.std.specs.List.{All, flat_map}
use Rattle.rpl_codefile.specs.Spelling.{FitsText, text}
use Rattle.rpl_codefile.proofs.writing.put_texts.Given as goal

abbrev pub invariant-loop-item : goal.invariant-loop-item
invariant-loop-item l = (l.out ≡ l.fn.out ++ flat_map text (take l.item-index l.texts))
    × All FitsText (take l.item-index l.texts)
