use Rattle.std.proofs.Common.{sym, ap, ◌∙◌}
use Rattle.rpl_core.specs.Core as C
use Rattle.rpl_core.specs.View.{core_of, cores, listed}
use Rattle.rpl_forms.specs.Forms as F
use Rattle.rpl_forms.proofs.Joins.{joined_none, joined_assoc, copies_more}
use Rattle.rpl_forms.proofs.make.append_copies.Goals as goal

pub loop-turn-init : goal.loop-turn-init
loop-turn-init c = sym (joined_none (cores (listed c.args.parts.now)))

pub loop-turn-preserved : goal.loop-turn-preserved
loop-turn-preserved c =
    let first = cores (listed c.args.parts.now) in
    let p = core_of c.args.part.now in
    let n = c.loop-turn._turn in
    c.in_ok-append.ensures
    ∙ ap (λ q. F.joined (cores (listed c.loop-turn.parts)) (C.Then q C.NoMore)) c.in_ok-copy.ensures
    ∙ ap (λ ps. F.joined ps (C.Then p C.NoMore)) c.loop-turn.invariant
    ∙ joined_assoc first (F.copies n p C.NoMore) (C.Then p C.NoMore)
    ∙ ap (F.joined first) (sym (copies_more n p))
