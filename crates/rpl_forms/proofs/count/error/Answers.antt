use Rattle.std.proofs.Common.{sym, subst}
use Rattle.rpl_core.specs.Core.{Call, Note}
use Rattle.rpl_forms.specs.Counting.{Counts, seen}
use Rattle.rpl_forms.specs.Forms.{halt_rule}
use Rattle.rpl_forms.proofs.Seen.{seen_pair, seen_note}
use Rattle.rpl_forms.proofs.count.error.Goals as goal

pub returns : goal.returns
returns c = λ I t h.
    let b = c.args.in_lookbehind in
    let one = seen_note b I t in
    let note = c.leaf.ensures (seen b I (Note t)) one.0 one.1 in
    subst (Counts c.pair.result) (sym (seen_pair b I (Note t) (Call halt_rule)))
    (c.pair.ensures _ _ note (c.count_call-end.ensures I h))
