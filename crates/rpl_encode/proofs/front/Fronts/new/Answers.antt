use Rattle.std.proofs.Common.{length, refl, ap, ◌∙◌}
use Rattle.std.specs.Prelude.{chars}
use Rattle.std.proofs.lemmas.Option.{slice_get_read}
use Rattle.rpl_encode.proofs.Texts.{one_more, texts_in}
use Rattle.rpl_encode.proofs.front.Fronts.new.Goals as goal

pub loop-label-preserved : goal.loop-label-preserved
loop-label-preserved c =
    let labels = c.labels-labels.result.now in
    let got = slice_get_read labels (length labels) c.loop-label.label-index c.label-item.result refl
    c.loop-label-test.true c.label-item.is in
    ap texts_in c.in_ok-push.ensures.items
    ∙ one_more labels c.loop-label.list.items c.in_ok-front.front c.loop-label.label-index c.label-item.result
    c.loop-label.invariant got (ap chars c.in_ok-front.ensures ∙ c.as_str.ensures)
