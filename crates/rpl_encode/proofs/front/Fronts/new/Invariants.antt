use Rattle.std.proofs.Common.{◌≡◌, take}
use Rattle.rpl_encode.proofs.Texts.{texts_in}
use Rattle.rpl_encode.proofs.front.Fronts.new.Given as goal

-- the texts up to a number have their fronts
abbrev pub invariant-loop-label : goal.invariant-loop-label
invariant-loop-label l = texts_in l.list.items ≡ take l.label-index l.labels
