use Rattle.std.proofs.Common.{◌+◌, sym, drop, subst, ◌∙◌}
use Rattle.rpl_scope.specs.inside.Held.{AreDisjoint, held}
use Rattle.rpl_scope.proofs.SharedNames.{disjoint_more, disjoint_turned, held_front}
use Rattle.rpl_scope.proofs.names.have_none_of.Goals as goal
use Rattle.rpl_scope.proofs.names.have_none_of.Goals.{then-len-count, else-len-count}

pub loop-table-preserved : goal.loop-table-preserved
loop-table-preserved c =
    let ts = c.args.tables.now in
    let ns = c.args.names.now in
    let t = c.table-item.result in
    let k = c.loop-table.table-index in
    let one : AreDisjoint t.value ns = elim c.if-len-count.branch [
      | then-len-count w ↦
          subst (λ l. AreDisjoint l ns) w.deref-then-len-count.ensures
          (disjoint_turned ns w.deref-then-len-count.result.now (w.has_none_of-is_apart.ensures (sym w.is_apart-is
          ∙ c.if-not-is_apart.false)))
      | else-len-count w ↦
          subst (λ l. AreDisjoint l ns) w.deref-else-len-count.ensures
          (w.has_none_of-is_apart-else-len-count.ensures (sym w.is_apart-is ∙ c.if-not-is_apart.false))
    ] in
    λ d. c.loop-table.invariant
    (subst (λ l. AreDisjoint l ns) (sym (held_front ts k t c.loop-table-test.true c.table-item.is))
    (disjoint_more t.value (held (drop (k + 1) ts)) ns one d))
