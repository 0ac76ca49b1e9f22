use Rattle.std.proofs.Common.{◌≡◌, take, get_or, length, sym, ap, ◌∙◌, ◌<◌}
use Rattle.std.proofs.lemmas.List.{take_more}
use Rattle.rpl_core.specs.Core as C
use Rattle.rpl_core.specs.View.{core_of, cores, listed}
use Rattle.rpl_core.proofs.Rows.{seq_view, choice_view, cores_more}
use Rattle.rpl_core.proofs.peg.+copy.Goals as goal

pub Peg::copy-returns-in_ok-copy-in-Seq : goal.Peg::copy-returns-in_ok-copy-in-Seq
Peg::copy-returns-in_ok-copy-in-Seq t c =
    seq_view c.in_ok-copy-in-Seq.field-0 ∙ ap C.Seq c.in_ok-copy-in-Seq.ensures
    ∙ sym (ap core_of c.in-Seq.is ∙ seq_view c.in-Seq.parts)

pub Peg::copy-returns-in_ok-copy-in-Choice : goal.Peg::copy-returns-in_ok-copy-in-Choice
Peg::copy-returns-in_ok-copy-in-Choice t c =
    choice_view c.in_ok-copy-in-Choice.field-0 ∙ ap C.Choice c.in_ok-copy-in-Choice.ensures
    ∙ sym (ap core_of c.in-Choice.is ∙ choice_view c.in-Choice.parts)

pub Pegs::copy-loop-part-preserved : goal.Pegs::copy-loop-part-preserved
Pegs::copy-loop-part-preserved t c =
    let all = listed c.args.self.now in
    let i = c.loop-part.part-index in
    let part = c.part-item.result in
    let same : part ≡ get_or all i part = c.part-item.is
    ∙ ap (λ ps. get_or ps i part) c.deref-part-items.ensures.value in
    let inside : i < length all = rw (← c.deref-part-items.ensures.value) c.loop-part-test.true in
    let last = cores_more (listed c.loop-part.copies) (take i all) c.in_ok-copy.field-0 (get_or all i part)
    c.loop-part.invariant (c.in_ok-copy.ensures ∙ ap core_of same) in
    ap cores c.in_ok-push.ensures.ok ∙ last ∙ ap cores (sym (take_more all i part inside))
