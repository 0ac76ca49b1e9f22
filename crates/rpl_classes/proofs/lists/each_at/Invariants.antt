use Rattle.std.proofs.Common.{◌≡◌, ◌≤◌, ◌-◌, ◌++◌, length}
use Rattle.std.specs.Prelude.{chars, nat_eq, true}
use Rattle.rpl_text.specs.Places.{IsPlace}
use Rattle.rpl_classes.specs.Symbols.{symbols_from}
use Rattle.rpl_classes.specs.Lists.{changed, each}
use Rattle.rpl_classes.proofs.lists.each_at.Given as goal

abbrev pub invariant-loop-ranges : goal.invariant-loop-ranges
invariant-loop-ranges l = record {
  here : IsPlace (chars l.text) l.at;
  forward : l.place ≤ l.at;
  read : each true (symbols_from (chars l.text) l.place)
      ≡ changed (λ a. l.ranges.items ++ a) (each (nat_eq l.at l.place) (symbols_from (chars l.text) l.at));
}

abbrev pub decreases-loop-ranges : goal.decreases-loop-ranges
decreases-loop-ranges l = length l.text - l.at
