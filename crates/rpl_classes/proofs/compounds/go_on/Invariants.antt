use Rattle.std.proofs.Common.{◌≡◌, ◌≤◌, Ok, vec_len}
use Rattle.std.specs.Prelude.{chars}
use Rattle.rpl_text.specs.Places.{IsPlace}
use Rattle.rpl_classes.specs.Symbols.{symbols_from}
use Rattle.rpl_classes.specs.inside.Stack.{resume}
use Rattle.rpl_classes.proofs.compounds.go_on.Given as goal

abbrev pub decreases-loop-last : goal.decreases-loop-last
decreases-loop-last l = vec_len l.stack

abbrev pub invariant-loop-last : goal.invariant-loop-last
invariant-loop-last l = record {
  here : IsPlace (chars l.text) l.at;
  forward : l.fn.end ≤ l.at;
  same : resume l.initial.stack.items (Ok (l.initial.set, symbols_from (chars l.text) l.fn.end))
      ≡ resume l.stack.items (Ok (l.set, symbols_from (chars l.text) l.at));
}
