use Rattle.std.proofs.Common.{sym, ap, ◌∙◌}
use Rattle.std.proofs.lemmas.Result.{on_ok_weaker}
use Rattle.rpl_core.specs.Core as C
use Rattle.rpl_core.specs.View.{core_of, cores, listed}
use Rattle.rpl_forms.specs.Forms as F
use Rattle.rpl_forms.proofs.Joins.{joined_assoc}
use Rattle.rpl_expand.specs.inside.Items.{core_if}
use Rattle.rpl_expand.proofs.build.append_item.Goals as goal

pub returns-in-Some : goal.returns-in-Some
returns-in-Some c =
    let first = cores (listed c.args.parts.now) in
    let p = core_of c.args.item in
    let last = C.Then (core_of c.in-Some.boundary) C.NoMore in
    on_ok_weaker c.append-in-Some.result (λ e.
    e ∙ ap (λ ps. F.joined ps last) c.in_ok-append.ensures ∙ joined_assoc first (C.Then p C.NoMore) last
    ∙ ap (λ o. F.joined first (C.Then p (core_if o))) (sym c.in-Some.is)) c.append-in-Some.ensures
