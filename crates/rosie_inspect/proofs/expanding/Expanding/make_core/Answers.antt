use Rattle.std.proofs.Common.{ap, string_bytes, subst}
use Rattle.std.specs.Prelude.{OnOk}
use Rattle.rpl_core.specs.Listed.{rules_of}
use Rattle.rpl_core.specs.Table.{names_of}
use Rattle.rpl_core.proofs.Walk.{choice_core, seq_core}
use Rattle.rpl_expand.specs.Printed.{printed}
use Rattle.rosie_inspect.specs.Items.{Turns, left_of}
use Rattle.rosie_inspect.proofs.expanding.Expanding.make_core.Goals as goal

pub returns-in-Seq : goal.returns-in-Seq
returns-in-Seq c =
    let s = c.args.self.now in let after = c.make_group.new in
    let same = ap (printed (names_of (rules_of s.rules.now))) (seq_core c.args.peg.now c.in-Seq.parts
    c.as_slice.result.now c.in-Seq.is c.as_slice.ensures) in
    subst (λ w. OnOk c.make_group.result (Turns w (left_of s) (left_of after.self) (string_bytes c.args.out.now)
    (string_bytes after.out))) same c.make_group.ensures

pub returns-in-Choice : goal.returns-in-Choice
returns-in-Choice c =
    let s = c.args.self.now in let after = c.make_group-in-Choice.new in
    let same = ap (printed (names_of (rules_of s.rules.now))) (choice_core c.args.peg.now c.in-Choice.parts
    c.as_slice-in-Choice.result.now c.in-Choice.is c.as_slice-in-Choice.ensures) in
    subst (λ w. OnOk c.make_group-in-Choice.result (Turns w (left_of s) (left_of after.self)
    (string_bytes c.args.out.now) (string_bytes after.out))) same c.make_group-in-Choice.ensures
