use Rattle.std.proofs.Common.{◌-◌, sym, ap, ◌∙◌}
use Rattle.rpl_core.specs.Core as C
use Rattle.rpl_core.specs.View.{core_of}
use Rattle.rpl_forms.specs.Forms as F
use Rattle.rpl_forms.proofs.Joins.{copies_joined}
use Rattle.rpl_forms.proofs.Counted.{cooked_more}
use Rattle.rpl_forms.proofs.make.cooked_endless.Goals as goal

pub returns : goal.returns
returns c =
    let b = core_of c.args.boundary in
    let p = core_of c.args.body in
    let n = c.args.least - 1 in
    let t = F.pair b p in
    let turn = c.in_ok-turn.ensures in
    let many = c.in_ok-many.ensures ∙ ap C.Many turn in
    c.seq.ensures ∙ ap C.Seq (c.in_ok-append.ensures
    ∙ ap (λ ps. F.joined ps (C.Then (core_of c.in_ok-many.field-0) C.NoMore)) c.in_ok-parts.ensures
    ∙ ap (λ q. C.Then p (F.joined (F.copies n q C.NoMore) (C.Then (core_of c.in_ok-many.field-0) C.NoMore))) turn
    ∙ ap (λ q. C.Then p (F.joined (F.copies n t C.NoMore) (C.Then q C.NoMore))) many
    ∙ ap (C.Then p) (sym (copies_joined n t (C.Then (C.Many t) C.NoMore))))
    ∙ sym (cooked_more b p c.args.least c.if-least-eq0.false)
