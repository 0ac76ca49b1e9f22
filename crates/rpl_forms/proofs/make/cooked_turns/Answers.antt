use Rattle.std.proofs.Common.{sym, ap, ◌∙◌}
use Rattle.rpl_core.specs.Core as C
use Rattle.rpl_core.specs.View.{core_of}
use Rattle.rpl_forms.specs.Forms as F
use Rattle.rpl_forms.proofs.Joins.{copies_joined}
use Rattle.rpl_forms.proofs.make.cooked_turns.Goals as goal

pub returns : goal.returns
returns c =
    let p = core_of c.args.body in
    let n = c.args.further in
    let m = c.args.more in
    let t = F.pair (core_of c.args.boundary) p in
    c.seq.ensures ∙ ap C.Seq (c.in_ok-append_options.ensures
    ∙ ap (λ ps. F.joined ps (F.copies m (F.or_nothing (core_of c.in_ok-turn.turn)) C.NoMore)) c.in_ok-parts.ensures
    ∙ ap (λ q. C.Then p (F.joined (F.copies n q C.NoMore) (F.copies m (F.or_nothing q) C.NoMore))) c.in_ok-turn.ensures
    ∙ ap (C.Then p) (sym (copies_joined n t (F.copies m (F.or_nothing t) C.NoMore))))
