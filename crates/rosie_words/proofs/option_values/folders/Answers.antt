use Rattle.std.proofs.Common.{map, lit<}
use Rattle.std.proofs.lemmas.Iterator.Splits.{YieldsList-from_str_split}
use Rattle.std.proofs.lemmas.Iterator.Consumers.{YieldsList-turn, YieldsList-end}
use Rattle.rosie_words.proofs.Folders.{has_empty, all_named}
use Rattle.rosie_words.proofs.option_values.folders.Goals as goal

pub returns-then-is_empty : goal.returns-then-is_empty
returns-then-is_empty c =
    let w = c.args.value.now in
    let road = YieldsList-from_str_split 58 w (lit< tt) (cc) (cc) (cc) in
    let t = YieldsList-turn road c.loop-folder.yielded _ c.loop-folder.yielded_by _ _ c.in-Some.folder c.in-Some.is
    c.next.ensures.steps in
    has_empty w c.in-Some.folder.now _ _ t.0 t.1 c.is_empty.ensures c.if-is_empty.true

pub returns : goal.returns
returns c =
    let w = c.args.value.now in
    let road = YieldsList-from_str_split 58 w (lit< tt) (cc) (cc) (cc) in
    let t = YieldsList-end road c.loop-folder.yielded _ c.loop-folder.yielded_by _ _ c.in-None.is c.next.ensures.steps
    in
    all_named w (map (λ p. p.now) c.loop-folder.yielded) c.loop-folder.folders t.0 c.loop-folder.invariant.3
    c.loop-folder.invariant.2
