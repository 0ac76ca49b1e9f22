use Rattle.std.proofs.Common.{get_or}
use Rattle.std.proofs.lemmas.Option.{slice_get-get_or}
use Rattle.rpl_core.specs.Numbers.{instr_of}
use Rattle.rpl_core.specs.Program.{labels_of, sets_of}
use Rattle.rpl_core.specs.declared.instr.Instr.TheVariants as V
use Rattle.rpl_codefile.proofs.Written.{adds_more}
use Rattle.rpl_codefile.proofs.copying.copy_code.Goals as goal

pub loop-item-preserved : goal.loop-item-preserved
loop-item-preserved c =
    adds_more c.args.draft.now c.loop-item.draft c.copy_instr.new.draft
    (instr_of (sets_of c.args.program.now) (labels_of c.args.program.now)) c.code-code.result.now
    c.loop-item.item-index (get_or c.code-code.result.now c.loop-item.item-index (V.Set 0))
    (slice_get-get_or c.code-code.result.now c.loop-item.item-index (V.Set 0) c.loop-item-test.true)
    c.loop-item.invariant c.in_ok-copy_instr.ensures
