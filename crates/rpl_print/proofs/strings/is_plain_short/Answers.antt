use Rattle.std.proofs.Common.{replicate, refl, ◌∙◌}
use Rattle.rpl_print.proofs.Plain.{short_chunk}
use Rattle.rpl_print.proofs.strings.is_plain_short.Goals as goal

-- the spaces after the text are plain
pub returns : goal.returns
returns c = c.are_plain.ensures
    ∙ short_chunk c.args.text.now c.copy_from_slice.new.self (replicate 32 32) c.copy_from_slice.ensures.after refl
