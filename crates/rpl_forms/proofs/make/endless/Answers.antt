use Rattle.std.proofs.Common.{ap, ◌∙◌}
use Rattle.rpl_core.specs.Core as C
use Rattle.rpl_core.specs.View.{core_of, cores, listed}
use Rattle.rpl_forms.specs.Forms as F
use Rattle.rpl_forms.proofs.Joins.{two_more, endless_joined}
use Rattle.rpl_forms.proofs.make.endless.Goals as goal

pub returns : goal.returns
returns c =
    let p = core_of c.args.body in
    let all =
    two_more (cores (listed c.new-parts.result)) _ _ (F.copies c.args.least p C.NoMore)
    (C.Then (core_of c.in_ok-many.field-0) C.NoMore) (ap cores c.new-parts.ensures) c.in_ok-append_copies.ensures
    c.in_ok-append.ensures in
    c.seq.ensures ∙ ap C.Seq (all ∙ ap (λ q. F.joined (F.copies c.args.least p C.NoMore) (C.Then q C.NoMore))
    c.in_ok-many.ensures)
    ∙ endless_joined p c.args.least c.if-least-eq0.false
