use Rattle.std.proofs.lemmas.Option.{slice_get-get_or}
use Rattle.rpl_core.specs.declared.instr.Instr.TheVariants as V
use Rattle.rpl_codefile.specs.Spelling.{instr, Short}
use Rattle.rpl_codefile.proofs.Items.{put_more}
use Rattle.rpl_codefile.proofs.writing.put_instrs.Goals as goal
use Rattle.std.proofs.Common.{get_or}

pub loop-item-preserved : goal.loop-item-preserved
loop-item-preserved c =
    put_more instr Short c.args.out.now c.loop-item.out c.put_instr.new.out c.args.code.now c.loop-item.item-index
    (get_or c.args.code.now c.loop-item.item-index (V.Set 0))
    (slice_get-get_or c.args.code.now c.loop-item.item-index (V.Set 0) c.loop-item-test.true) c.loop-item.invariant
    c.in_ok-put_instr.ensures.bytes c.in_ok-put_instr.ensures.short
