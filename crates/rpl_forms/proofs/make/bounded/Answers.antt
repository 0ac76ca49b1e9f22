use Rattle.std.proofs.Common.{sym, ap, ◌∙◌}
use Rattle.rpl_core.specs.Core as C
use Rattle.rpl_core.specs.View.{core_of, cores, listed}
use Rattle.rpl_forms.specs.Forms as F
use Rattle.rpl_forms.proofs.Joins.{copies_joined, two_more}
use Rattle.rpl_forms.proofs.make.bounded.Goals as goal

pub returns : goal.returns
returns c =
    let p = core_of c.args.body in
    let n = c.args.least in
    let rest = F.copies c.args.more (F.or_nothing p) C.NoMore in
    let all =
    two_more (cores (listed c.new-parts.result)) _ _ (F.copies n p C.NoMore) rest (ap cores c.new-parts.ensures)
    c.in_ok-append_copies.ensures c.in_ok-append_options.ensures in
    c.seq.ensures ∙ ap C.Seq (all ∙ sym (copies_joined n p rest))
