use Rattle.std.proofs.Common.{◌≡◌, ◌-◌}
use Rattle.std.specs.Prelude.{chars}
use Rattle.rpl_text.specs.Places.{IsPlace}
use Rattle.rpl_classes.specs.Symbols.{symbols_from, size}
use Rattle.rpl_classes.specs.Laws.{reading}
use Rattle.rpl_classes.specs.inside.Stack.{resume, opened}
use Rattle.rpl_classes.proofs.compounds.compound_set.Given as goal

abbrev pub decreases-loop-stack : goal.decreases-loop-stack
decreases-loop-stack l = size (chars l.text) - l.at

abbrev pub invariant-loop-stack : goal.invariant-loop-stack
invariant-loop-stack l = record {
  here : IsPlace (chars l.text) l.at;
  same : opened (chars l.text) l.place ≡ resume l.stack.items (reading (symbols_from (chars l.text) l.at));
}
