use Rattle.std.proofs.Common.{◌≡◌, ◌-◌, ◌<◌, ◌≤◌, length, ◌*◌, ◌^◌, drop}
use Rattle.rpl_text.specs.Escapes.{hex}
use Rattle.rpl_text.proofs.escapes.hex_number.Given as goal

abbrev pub invariant-loop-i : goal.invariant-loop-i
invariant-loop-i l = record {
  reading : hex l.digits 0 l.bytes ≡ hex (l.digits - l.i) l.number (drop l.i l.bytes);
  inside : l.i ≤ length l.bytes;
  small : l.number < 2 ^ (4 * l.i);
}
