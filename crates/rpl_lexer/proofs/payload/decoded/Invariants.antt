use Rattle.std.proofs.Common.{◌≡◌, ◌-◌, ◌++◌, length, drop}
use Rattle.std.specs.Prelude.{chars, string_bytes}
use Rattle.rpl_text.specs.Places.{index, IsPlace}
use Rattle.rpl_lexer.specs.Payloads.{decoded}
use Rattle.rpl_lexer.proofs.payload.decoded.Given as goal

abbrev pub invariant-loop-c : goal.invariant-loop-c
invariant-loop-c l = record {
  here : IsPlace (chars l.text) l.place;
  read : chars (string_bytes l.out) ++ decoded 0 (drop (index (chars l.text) l.place) (chars l.text))
      ≡ decoded 0 (chars l.text);
}

abbrev pub decreases-loop-c : goal.decreases-loop-c
decreases-loop-c l = length l.text - l.place
