use Rattle.std.proofs.Common.{sym, ◌++◌, map, string_bytes}
use Rattle.std.proofs.lemmas.List.Sorted.{IsPermutation-append_right}
use Rattle.rosie_inspect.specs.Groups.{group_lines}
use Rattle.rosie_inspect.proofs.Grouping.{group_moved, passed_on}
use Rattle.rosie_inspect.proofs.Writing.{asked_otherwise}
use Rattle.rosie_inspect.proofs.groups.push_group.Goals as goal

pub returns-in-Some-get : goal.returns-in-Some-get
returns-in-Some-get c =
    let g = c.args.group.now in
    let front = c.as_str-front.result.now in
    let ends = c.deref.result.now in
    let after = map (λ l. front ++ string_bytes l) ends in
    passed_on c.push_all.result _ _ (λ h. λ p done held w.
    asked_otherwise (done ++ group_lines p g) (done ++ after) (string_bytes c.push_all.new.self.text)
    c.push_all.new.self.last (IsPermutation-append_right done (group_lines p g) after
    (group_moved p g c.in-Some.number front c.args.offers.now c.in-Some-get.ends.now ends c.deref.ensures.value
    c.in-Some.is c.as_str-front.ensures.value (sym c.in-Some-get.ensures.value) held)) (h done w))
    c.push_all.ensures
