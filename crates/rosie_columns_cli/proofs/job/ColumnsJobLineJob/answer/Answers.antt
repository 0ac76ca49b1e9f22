use Rattle.std.proofs.Common.{◌≡◌, Some, None, sym, ap, ◌∙◌, length, map}
use Rattle.rpl_columns.specs.Nodes.{if_found, seen, tree_in}
use Rattle.rosie_columns_cli.specs.Absent.{absent_text}
use Rattle.rosie_columns_cli.specs.inside.Marks.{marked, noted, unfound}
use Rattle.rosie_columns_cli.proofs.Marks.{marked_other, marked_tree, written_back}
use Rattle.rosie_columns_cli.proofs.job.ColumnsJobLineJob.answer.Goals as goal

pub returns-then-branch-clause-last : goal.returns-then-branch-clause-last
returns-then-branch-clause-last g c = λ more.
    let s = c.args.self.now in
    let cs = s.sheet.now.columns in
    let marks = s.found.items in
    let line = c.args.line.text.now in
    let text = c.as_bytes-text.result.now in
    let nodes = map (seen text) c.as_slice.result.now in
    let tree : tree_in line ≡ Some nodes =
    ap tree_in (sym c.as_bytes-text.ensures.value) ∙ c.in_ok-read_tree.ensures
    ∙ ap (λ b. if_found b (map (seen text) c.read_tree.new.nodes.items)) c.if-branch.true
    ∙ ap (λ ns. Some (map (seen text) ns)) (sym c.as_slice.ensures.value) in
    let now : c.note_found.new.found ≡ noted cs marks nodes =
    c.note_found.ensures
    ∙ ap (λ x. noted x c.deref_mut.result.now nodes) c.as_slice-then-branch.ensures
    ∙ ap (λ x. noted cs x nodes) c.deref_mut.ensures.value in
    ap (λ bs. absent_text (unfound cs (marked cs bs more)))
    (written_back s.found.len c.note_found.new.found marks
    (c.note_found.auto.found ∙ ap length c.deref_mut.ensures.value) s.found.ok.0 ∙ now)
    ∙ ap (λ bs. absent_text (unfound cs bs)) (marked_tree cs marks nodes line more tree)

pub returns-clause-last : goal.returns-clause-last
returns-clause-last g c = λ more.
    let s = c.args.self.now in
    let cs = s.sheet.now.columns in
    let line = c.args.line.text.now in
    let text = c.as_bytes-text.result.now in
    let none : tree_in line ≡ None =
    ap tree_in (sym c.as_bytes-text.ensures.value) ∙ c.in_ok-read_tree.ensures
    ∙ ap (λ b. if_found b (map (seen text) c.read_tree.new.nodes.items)) c.if-branch.false in
    ap (λ bs. absent_text (unfound cs bs)) (marked_other cs s.found.items line more none)
