use Rattle.std.proofs.Common.{arith, ◌≡◌, ◌+◌, ◌++◌, length, sym, ap, subst, ◌∙◌}
use Rattle.std.proofs.lemmas.List.{length-append}
use Rattle.rpl_scope.specs.Seen.{rules_seen, modules_seen}
use Rattle.rpl_names.specs.Tables.{begun_in, rows_of, rows_from}
use Rattle.rpl_names.proofs.Rows.{module_step, first_step, length_rows_of}
use Rattle.rpl_names.proofs.table.table_of.Goals as goal

pub loop-module-preserved : goal.loop-module-preserved
loop-module-preserved c =
    let m = c.module-item.result in
    let i = c.loop-module.from in
    let b = c.loop-module.blocks in
    let ms = c.args.modules.now in
    let n = c.loop-module.module-index in
    let rs = rules_seen m.rules.items in
    let here = c.in_ok-blocks.ensures.rows
    ∙ ap (λ r. c.loop-module.rows.items ++ rows_of m.label i 0 b (rules_seen r)) c.deref.ensures.value in
    let begun = c.in_ok-blocks.ensures.blocks ∙ ap (λ r. begun_in b 0 (rules_seen r)) c.deref.ensures.value in
    let count = ap length here ∙ length-append c.loop-module.rows.items (rows_of m.label i 0 b rs) in
    let few = length_rows_of m.label i 0 b rs in
    record {
      from = ap (λ k. k + 1) c.loop-module.invariant.from;
      begun = c.in_ok-blocks.ensures.begun;
      few = c.in_ok-blocks.ensures.few;
      rows = subst (λ k. c.push_rules.new.rows.items ++ rows_from (i + 1) k (modules_seen (lib.ListN.drop (n + 1) ms))
          ≡ rows_from 0 0 (modules_seen ms)) (sym begun)
          (module_step i b c.loop-module.rows.items c.push_rules.new.rows.items _ ms n m c.loop-module-test.true
          c.module-item.is here c.loop-module.invariant.rows);
      firsts = first_step (2 + length c.loop-module.rows.items) (2 + length c.push_rules.new.rows.items)
          c.loop-module.firsts.items _ _ ms n m c.loop-module-test.true c.module-item.is
          (let e = c.in_ok-push.ensures.items in let l = c.len-first.ensures in
          search (arith, e, l)) (omega (arith, count, few)) c.loop-module.invariant.firsts;
    }
