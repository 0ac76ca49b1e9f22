use Rattle.std.proofs.Common.{◌+◌, sym, ap, drop, ◌∙◌}
use Rattle.std.specs.Prelude.{chars}
use Rattle.rpl_scope.specs.Packages.{first_of}
use Rattle.rpl_scope.specs.inside.Held.{held}
use Rattle.rpl_scope.proofs.Growing.{first_more}
use Rattle.rpl_scope.proofs.SharedNames.{first_after, held_front}
use Rattle.rpl_scope.proofs.names.get_in.Goals as goal

pub returns-in-Some : goal.returns-in-Some
returns-in-Some c =
    let n = chars c.args.name.now in
    let ts = c.args.tables.now in
    let t = c.table-item.result in
    let k = c.loop-table.table-index in
    sym (first_more n t.value (held (drop (k + 1) ts)) c.in-Some.entry (ap (first_of n) (sym c.deref.ensures)
    ∙ sym c.in-Some.ensures))
    ∙ ap (first_of n) (sym (held_front ts k t c.loop-table-test.true c.table-item.is)) ∙ c.loop-table.invariant

pub loop-table-preserved : goal.loop-table-preserved
loop-table-preserved c =
    let n = chars c.args.name.now in
    let ts = c.args.tables.now in
    let t = c.table-item.result in
    let k = c.loop-table.table-index in
    sym (first_after n t.value (held (drop (k + 1) ts)) (ap (first_of n) (sym c.deref.ensures) ∙ sym c.get_text.ensures
    ∙ c.in_default.is))
    ∙ ap (first_of n) (sym (held_front ts k t c.loop-table-test.true c.table-item.is)) ∙ c.loop-table.invariant
