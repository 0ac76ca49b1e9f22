use Rattle.rpl_columns.specs.Cells.{tsv_byte, tsv_cell, text_of}
use Rattle.rpl_columns.proofs.Texts.{written_on, written_all}
use Rattle.rpl_columns.proofs.cell.put_tsv_slowly.Goals as goal

pub loop-byte-preserved : goal.loop-byte-preserved
loop-byte-preserved c =
    written_on tsv_byte c.args.out.now.items c.loop-byte.out.items c.put_tsv_byte.new.out.items c.loop-byte.rest.now
    c.in-Some.byte c.in-Some.left.now (tsv_cell (text_of c.args.spelled.now)) c.in-Some.ensures.value
    c.in_ok-put_tsv_byte.ensures c.loop-byte.invariant

pub returns : goal.returns
returns c = written_all tsv_byte c.args.out.now.items c.loop-byte.out.items c.loop-byte.rest.now
    (tsv_cell (text_of c.args.spelled.now)) c.in_default.ensures.value c.loop-byte.invariant
