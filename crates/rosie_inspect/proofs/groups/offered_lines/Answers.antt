use Rattle.std.proofs.Common.{ap, subst, ◌∙◌, ℕ, List, map, string_bytes}
use Rattle.std.specs.List.Sorted.{IsPermutation}
use Rattle.std.proofs.lemmas.List.Sorted.{IsPermutation-map}
use Rattle.rosie_inspect.specs.Names.{name_line}
use Rattle.rosie_inspect.proofs.groups.offered_lines.Goals as goal

pub returns : goal.returns
returns c =
    let lines = c.in_ok-lines.lines.items in
    let sorted = c.sort.new.self.items in
    let P : List (List ℕ) → Type 0 = λ l. IsPermutation l (map (λ l. string_bytes l) sorted) in
    subst P (c.in_ok-lines.ensures ∙ ap (λ l. map name_line l) c.in_ok-names.ensures)
    (IsPermutation-map (λ l. string_bytes l) lines sorted c.sort.ensures.permutation)
