use Rattle.std.proofs.Common.{arith, ◌≤◌, length, subst, sym, string_bytes, ℕ, List}
use Rattle.std.specs.List.{flat_map}
use Rattle.std.proofs.lemmas.Bool.Decides.{nat_tests}
use Rattle.std.proofs.lemmas.List.{take_all}
use Rattle.rosie_inspect.specs.Ascending.{AreWritten}
use Rattle.rosie_inspect.specs.Groups.{group_lines}
use Rattle.rosie_inspect.specs.declared.groups.Group.{Group}
use Rattle.rosie_inspect.proofs.groups.join_groups.Goals as goal

pub returns : goal.returns
returns c = λ p held.
    let lines = c.loop-group.lines in
    let groups = c.args.groups.now in
    let test = c.loop-group-test.false in
    let end : length groups ≤ c.loop-group.group-index = grind (arith, nat_tests, test) in
    let P : List Group → Type 0 =
    λ gs. AreWritten (flat_map (group_lines p) gs) (string_bytes lines.text) lines.last in
    let Q : List ℕ → Type 0 = λ t. AreWritten (flat_map (group_lines p) groups) t lines.last in (
      lines.last,
      subst Q (sym c.into_text.ensures)
          (subst P (take_all c.loop-group.group-index groups end) (c.loop-group.invariant p held)),
    )
