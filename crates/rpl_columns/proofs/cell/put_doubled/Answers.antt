use Rattle.std.proofs.Common.{◌≡◌, ◌++◌, sym, subst, ◌∙◌}
use Rattle.std.specs.Prelude.{OnOk}
use Rattle.rpl_columns.specs.Cells.{doubled_byte, doubled, text_of}
use Rattle.rpl_columns.proofs.Texts.{written_on, written_all, doubled_itself}
use Rattle.rpl_columns.proofs.cell.put_doubled.Goals as goal

pub returns-then-is_plain : goal.returns-then-is_plain
returns-then-is_plain c =
    subst (λ t. OnOk c.put.result (c.put.new.out.items ≡ c.args.out.now.items ++ t))
    (sym (doubled_itself c.args.spelled.now (sym c.is_plain.ensures.exact ∙ c.if-is_plain.true))) c.put.ensures

pub loop-byte-preserved : goal.loop-byte-preserved
loop-byte-preserved c =
    written_on doubled_byte c.args.out.now.items c.loop-byte.out.items c.put_doubled_byte.new.out.items
    c.loop-byte.rest.now c.in-Some.byte c.in-Some.left.now (doubled (text_of c.args.spelled.now))
    c.in-Some.ensures.value c.in_ok-put_doubled_byte.ensures c.loop-byte.invariant

pub returns : goal.returns
returns c = written_all doubled_byte c.args.out.now.items c.loop-byte.out.items c.loop-byte.rest.now
    (doubled (text_of c.args.spelled.now)) c.in_default.ensures.value c.loop-byte.invariant
