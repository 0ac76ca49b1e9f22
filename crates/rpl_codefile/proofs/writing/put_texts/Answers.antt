use Rattle.std.proofs.Common.{◌++◌, length, refl, ap, ◌∙◌, subst}
use Rattle.std.proofs.lemmas.Option.{slice_get_read}
use Rattle.rpl_codefile.specs.Spelling.{text, FitsText}
use Rattle.rpl_codefile.proofs.Items.{put_more}
use Rattle.rpl_codefile.proofs.writing.put_texts.Goals as goal

pub loop-item-preserved : goal.loop-item-preserved
loop-item-preserved c =
    put_more text FitsText c.args.out.now c.loop-item.out c.put_text.new.out c.args.texts.now c.loop-item.item-index
    c.item-item.result (slice_get_read c.args.texts.now (length c.args.texts.now) c.loop-item.item-index
    c.item-item.result refl c.loop-item-test.true c.item-item.is) c.loop-item.invariant
    (c.in_ok-put_text.ensures.bytes ∙ ap (λ x. c.loop-item.out ++ text x) c.as_str.ensures)
    (subst FitsText c.as_str.ensures c.in_ok-put_text.ensures.fits)
