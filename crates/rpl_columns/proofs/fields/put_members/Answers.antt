use Rattle.std.proofs.Common.{◌+◌, ◌++◌, drop, map}
use Rattle.rpl_columns.specs.Cells.{between}
use Rattle.rpl_columns.specs.Fields.{field, key_of}
use Rattle.rpl_columns.specs.Nodes.{seen}
use Rattle.rpl_columns.proofs.Naming.{names_next, names_none}
use Rattle.rpl_columns.proofs.Picking.{row_on, row_end}
use Rattle.rpl_columns.proofs.fields.put_members.Goals as goal

pub loop-index-preserved : goal.loop-index-preserved
loop-index-preserved c =
    let line = c.args.line.now in
    let keys = c.args.keys.now in
    let i = c.loop-index.index in
    let f = field (map (seen line) c.args.nodes.now) in
    let next = names_next f line keys i _ c.key_of.result.now c.loop-index-test.true c.key_of.ensures in
    row_on 44 i c.loop-index.out.items c.put_separator.new.out.items c.put_field.new.out.items (c.args.out.now.items
    ++ between 44 (map f (map (key_of line) keys))) (f c.key_of.result.now) (map f (map (key_of line) (drop i keys)))
    (map f (map (key_of line) (drop (i + 1) keys))) next c.in_ok-put_separator.ensures c.in_ok-put_field.ensures
    c.loop-index.invariant

pub returns : goal.returns
returns c =
    let line = c.args.line.now in
    let keys = c.args.keys.now in
    let i = c.loop-index.index in
    let f = field (map (seen line) c.args.nodes.now) in
    row_end 44 i c.loop-index.out.items (c.args.out.now.items ++ between 44 (map f (map (key_of line) keys)))
    (map f (map (key_of line) (drop i keys))) (names_none f line keys i c.loop-index-test.false)
    c.loop-index.invariant
