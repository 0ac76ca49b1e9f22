use Rattle.std.proofs.Common.{◌≡◌, true, map, chars}
use Rattle.std.specs.Prelude.{not}
use Rattle.std.specs.List.{list_all}
use Rattle.rosie_words.specs.Values.{is_empty}
use Rattle.rosie_words.proofs.option_values.folders.Given as goal

abbrev pub invariant-loop-folder : goal.invariant-loop-folder
invariant-loop-folder l =
    (goal.iterator-loop-folder).can_next l.folder-iterator ×
    (goal.iterator-loop-folder).is_finite l.folder-iterator ×
    (l.folders ≡ map chars (map (λ p. p.now) l.yielded)) ×
    (list_all (λ p. not (is_empty p)) (map (λ p. p.now) l.yielded) ≡ true)
