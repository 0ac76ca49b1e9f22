use Rattle.std.proofs.Common.{◌≡◌, ◌≤◌, ◌-◌, ◌++◌, length}
use Rattle.std.specs.Prelude.{chars, slice_range}
use Rattle.rpl_text.specs.Places.{index, IsPlace}
use Rattle.rpl_classes.specs.Symbols.{symbols_from}
use Rattle.rpl_classes.specs.Brackets.{word, past_word}
use Rattle.rpl_classes.proofs.symbols.skip_word.Given as goal

abbrev pub invariant-loop-place : goal.invariant-loop-place
invariant-loop-place l = record {
  here : IsPlace (chars l.text) l.at;
  forward : l.place ≤ l.at;
  order : index (chars l.text) l.place ≤ index (chars l.text) l.at;
  read : word (symbols_from (chars l.text) l.place) ≡ slice_range (chars l.text) (index (chars l.text) l.place)
      (index (chars l.text) l.at) ++ word (symbols_from (chars l.text) l.at);
  left : past_word (symbols_from (chars l.text) l.place) ≡ past_word (symbols_from (chars l.text) l.at);
}

abbrev pub decreases-loop-place : goal.decreases-loop-place
decreases-loop-place l = length l.text - l.at
