use Rattle.std.proofs.Common.{ap, arith, length, refl}
use Rattle.rpl_codefile.proofs.Written.{all_written, draft_few}
use Rattle.rpl_codefile.proofs.code_file.write_code.Goals as goal

pub returns : goal.returns
returns c =
    all_written c.args.program.now c.new-draft.result c.copy_code.new.draft c.copy_code.new.draft.code c.in_ok-sets.sets
    c.in_ok-texts.texts c.write_parts.result c.new-draft.ensures.code c.new-draft.ensures.sets
    c.new-draft.ensures.labels c.in_ok-copy_code.ensures refl c.in_ok-sets.ensures c.in_ok-texts.ensures
    c.requires.some c.requires.limit c.code-code.ensures.in_range c.write_parts.ensures.fits
    c.write_parts.ensures.bytes

pub write_parts-requires : goal.write_parts-requires
write_parts-requires c =
    let few = draft_few c.args.program.now c.new-draft.result c.copy_code.new.draft c.new-draft.ensures.code
    c.new-draft.ensures.sets c.new-draft.ensures.labels c.in_ok-copy_code.ensures c.requires.limit in
    record {
      code_few = omega (arith, few.0);
      sets_few = omega (arith, few.1.0, ap length c.in_ok-sets.ensures);
      texts_few = omega (arith, few.1.1, ap length c.in_ok-texts.ensures);
    }
