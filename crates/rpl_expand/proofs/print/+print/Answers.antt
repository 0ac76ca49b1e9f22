use Rattle.std.proofs.Common.{◌≡◌, ◌++◌, take, ap, subst}
use Rattle.std.specs.Prelude.{OnOk, string_bytes}
use Rattle.rpl_core.specs.Listed.{rules_of}
use Rattle.rpl_core.specs.Table.{names_of}
use Rattle.rpl_core.specs.View.{core_of, cores}
use Rattle.rpl_core.proofs.Walk.{seq_core, choice_core}
use Rattle.rpl_expand.specs.Printed.{printed, printed_all}
use Rattle.rpl_expand.proofs.Printing.{printed_more, turn}
use Rattle.rpl_expand.proofs.print.+print.Goals as goal

pub push_parts-loop-part-preserved : goal.push_parts-loop-part-preserved
unfolding lib.Utf8.encode
push_parts-loop-part-preserved t c =
    let names = names_of (rules_of c.args.rules.now) in
    let ps = c.args.parts.now in
    let i = c.loop-part.part-index in
    let more = printed_more names ps i c.part-item.result c.loop-part-test.true c.part-item.is in
    turn (string_bytes c.args.out.now) (printed_all names (cores (take i ps))) (string_bytes c.loop-part.out)
    (string_bytes c.push.new.self) (string_bytes c.push_peg.new.out) (printed names (core_of c.part-item.result))
    _ c.loop-part.invariant c.in_ok-push.ensures.bytes c.in_ok-push_peg.ensures more

pub push_peg-returns-in-Seq : goal.push_peg-returns-in-Seq
push_peg-returns-in-Seq t c =
    let names = names_of (rules_of c.args.rules.now) in
    let same = ap (printed names) (seq_core c.args.peg.now c.in-Seq.parts c.as_slice.result.now c.in-Seq.is
    c.as_slice.ensures) in
    subst (λ w. OnOk c.push_group.result (string_bytes c.push_group.new.out ≡ string_bytes c.args.out.now ++ w)) same
    c.push_group.ensures

pub push_peg-returns-in-Choice : goal.push_peg-returns-in-Choice
push_peg-returns-in-Choice t c =
    let names = names_of (rules_of c.args.rules.now) in
    let same = ap (printed names) (choice_core c.args.peg.now c.in-Choice.parts c.as_slice-in-Choice.result.now
    c.in-Choice.is c.as_slice-in-Choice.ensures) in
    subst (λ w. OnOk c.push_group-in-Choice.result
    (string_bytes c.push_group-in-Choice.new.out ≡ string_bytes c.args.out.now ++ w)) same
    c.push_group-in-Choice.ensures
