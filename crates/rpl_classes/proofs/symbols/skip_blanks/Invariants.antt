use Rattle.std.proofs.Common.{◌≡◌, ◌≤◌, ◌-◌, length}
use Rattle.std.specs.Prelude.{chars}
use Rattle.rpl_text.specs.Places.{IsPlace}
use Rattle.rpl_classes.specs.Symbols.{symbols_from, past_blanks}
use Rattle.rpl_classes.proofs.symbols.skip_blanks.Given as goal

abbrev pub invariant-loop-place : goal.invariant-loop-place
invariant-loop-place l = record {
  here : IsPlace (chars l.text) l.at;
  forward : l.place ≤ l.at;
  left : past_blanks (symbols_from (chars l.text) l.place) ≡ past_blanks (symbols_from (chars l.text) l.at);
}

abbrev pub decreases-loop-place : goal.decreases-loop-place
decreases-loop-place l = length l.text - l.at
