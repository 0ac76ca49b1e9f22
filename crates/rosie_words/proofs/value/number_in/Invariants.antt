use Rattle.std.proofs.Common.{◌≡◌, ◌≤◌, drop}
use Rattle.std.specs.List.{list_all}
use Rattle.std.specs.Char.{is_ascii_digit}
use Rattle.rpl_text.specs.Numbers.{value}
use Rattle.rosie_words.proofs.value.number_in.Given as goal

abbrev pub invariant-loop-byte : goal.invariant-loop-byte
invariant-loop-byte l = record {
  bound : l.number ≤ l.most;
  same : value l.number (drop l.byte-index l.byte-items) ≡ value 0 l.byte-items;
  digits : list_all is_ascii_digit (drop l.byte-index l.byte-items) ≡ list_all is_ascii_digit l.byte-items;
}
