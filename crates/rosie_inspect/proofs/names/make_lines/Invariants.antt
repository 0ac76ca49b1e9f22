use Rattle.std.proofs.Common.{◌≡◌, take, string_bytes}
use Rattle.std.specs.Prelude.{map}
use Rattle.rosie_inspect.specs.Names.{name_line}
use Rattle.rosie_inspect.proofs.names.make_lines.Given as goal

abbrev pub invariant-loop-listed : goal.invariant-loop-listed
invariant-loop-listed l =
    map (λ l. string_bytes l) l.lines.items ≡ map name_line (take l.listed-index l.listed-items)
